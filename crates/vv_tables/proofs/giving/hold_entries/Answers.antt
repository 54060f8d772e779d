use Rattle.std.proofs.Common.{◌≡◌, false, replicate, length, None, sym, ap, subst, ◌∙◌}
use Rattle.std.proofs.lemmas.List.{length-map}
use Rattle.vv_flat.specs.State.{indexed}
use Rattle.vv_flat.specs.Chunks.{unmapped_entry}
use Rattle.vv_vols.specs.Shelf.{ShelfState, HeldName, held_in, next_held}
use Rattle.vv_vols.specs.Calls.{with_held, new_held}
use Rattle.vv_vols.specs.Rows.{ShelfView, seen_entry, seen_entries}
use Rattle.vv_tables.specs.Giving.{MayGive, with_given}
use Rattle.vv_tables.proofs.GivenLists.{bare_given, may_all}
use Rattle.vv_tables.proofs.giving.hold_entries.Goals as goal

pub give_entries-requires-clause-may : goal.give_entries-requires-clause-may
give_entries-requires-clause-may g c =
    let s = c.args.shelf.now.shelf in
    let es = seen_entries c.args.entries.now in
    let same : c.reserve_list.new.self.shelf ≡ s = ap (λ (v : ShelfView). v.shelf) c.in_ok-room.ensures.ok in
    let number : c.hold_target-held.result.number ≡ next_held s = ap (λ (h : HeldName). h.number) c.hold_target-held.ensures.held ∙ ap next_held same in
    let unused : held_in s (next_held s) ≡ None = sym (ap (λ (t : ShelfState). held_in t c.hold_target-held.result.number) same ∙ ap (held_in s) number) ∙ c.hold_target-held.ensures.unused in
    let held : c.hold_target-held.new.self.shelf ≡ with_held s (new_held s (indexed (replicate (length es) unmapped_entry)) false 0) =
    c.hold_target-held.ensures.shelf
    ∙ ap (λ (t : ShelfState). with_held t (new_held t (indexed (replicate (length c.args.entries.now) unmapped_entry)) false 0)) same
    ∙ ap (λ k. with_held s (new_held s (indexed (replicate k unmapped_entry)) false 0)) (sym (length-map c.args.entries.now seen_entry)) in
    subst (λ (t : ShelfState). MayGive t c.hold_target-held.result.number es) (sym held)
    (subst (λ n. MayGive (with_held s (new_held s (indexed (replicate (length es) unmapped_entry)) false 0)) n es) (sym number)
    (may_all s es unused c.requires.fresh c.requires.reserved c.requires.shares))

pub returns-clause-shelf : goal.returns-clause-shelf
returns-clause-shelf g c =
    let s = c.args.shelf.now.shelf in
    let es = seen_entries c.args.entries.now in
    let same : c.reserve_list.new.self.shelf ≡ s = ap (λ (v : ShelfView). v.shelf) c.in_ok-room.ensures.ok in
    let number : c.hold_target-held.result.number ≡ next_held s = ap (λ (h : HeldName). h.number) c.hold_target-held.ensures.held ∙ ap next_held same in
    let unused : held_in s (next_held s) ≡ None = sym (ap (λ (t : ShelfState). held_in t c.hold_target-held.result.number) same ∙ ap (held_in s) number) ∙ c.hold_target-held.ensures.unused in
    let held : c.hold_target-held.new.self.shelf ≡ with_held s (new_held s (indexed (replicate (length es) unmapped_entry)) false 0) =
    c.hold_target-held.ensures.shelf
    ∙ ap (λ (t : ShelfState). with_held t (new_held t (indexed (replicate (length c.args.entries.now) unmapped_entry)) false 0)) same
    ∙ ap (λ k. with_held s (new_held s (indexed (replicate k unmapped_entry)) false 0)) (sym (length-map c.args.entries.now seen_entry)) in
    c.give_entries.ensures.shelf
    ∙ ap (λ (t : ShelfState). with_given t c.hold_target-held.result.number es) held
    ∙ ap (λ n. with_given (with_held s (new_held s (indexed (replicate (length es) unmapped_entry)) false 0)) n es) number
    ∙ bare_given s es unused
