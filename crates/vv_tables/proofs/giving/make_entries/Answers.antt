use Rattle.std.proofs.Common.{◌≡◌, false, None, sym, ap, subst, ◌∙◌}
use Rattle.std.specs.Prelude.{is_some}
use Rattle.vv_flat.specs.State.{indexed}
use Rattle.vv_vols.specs.Shelf.{ShelfState, HeldName, held_in, pieces_in, next_held}
use Rattle.vv_vols.specs.Calls.{with_held, without_held, with_made, new_held, piece_chunks}
use Rattle.vv_vols.specs.Conditions.{HasEveryIndex}
use Rattle.vv_vols.specs.Rows.{seen_entries, volume_with}
use Rattle.vv_tables.proofs.GivenLists.{listed_stands, listed_whole, listed_made}
use Rattle.vv_tables.proofs.giving.make_entries.Goals as goal

pub make_held-requires-clause-standing : goal.make_held-requires-clause-standing
make_held-requires-clause-standing g c =
    let s = c.args.shelf.now.shelf in
    let es = seen_entries c.args.entries.now in
    let number : c.in_ok-held.held.number ≡ next_held s = ap (λ (h : HeldName). h.number) c.in_ok-held.ensures.held in
    let unused : held_in s (next_held s) ≡ None = sym (ap (held_in s) number) ∙ c.in_ok-held.ensures.unused in
    let stands = ap (λ (t : ShelfState). held_in t c.in_ok-held.held.number) c.in_ok-held.ensures.shelf
    ∙ ap (held_in (with_held s (new_held s (indexed es) false 0))) number ∙ listed_stands s es false unused in
    ap is_some stands

pub make_held-requires-clause-whole : goal.make_held-requires-clause-whole
make_held-requires-clause-whole g c =
    let s = c.args.shelf.now.shelf in
    let es = seen_entries c.args.entries.now in
    let number : c.in_ok-held.held.number ≡ next_held s = ap (λ (h : HeldName). h.number) c.in_ok-held.ensures.held in
    let unused : held_in s (next_held s) ≡ None = sym (ap (held_in s) number) ∙ c.in_ok-held.ensures.unused in
    subst (λ (t : ShelfState). HasEveryIndex t c.in_ok-held.held.number) (sym c.in_ok-held.ensures.shelf)
    (subst (λ n. HasEveryIndex (with_held s (new_held s (indexed es) false 0)) n) (sym number) (listed_whole s es false unused))

pub returns-clause-ok : goal.returns-clause-ok
returns-clause-ok g c =
    let s = c.args.shelf.now.shelf in
    let es = seen_entries c.args.entries.now in
    let number : c.in_ok-held.held.number ≡ next_held s = ap (λ (h : HeldName). h.number) c.in_ok-held.ensures.held in
    let unused : held_in s (next_held s) ≡ None = sym (ap (held_in s) number) ∙ c.in_ok-held.ensures.unused in
    c.make_held.ensures.shelf
    ∙ ap (λ (t : ShelfState). with_made (without_held t c.in_ok-held.held.number) (volume_with c.args.id.0 c.args.head (piece_chunks (pieces_in t c.in_ok-held.held.number)))) c.in_ok-held.ensures.shelf
    ∙ ap (λ n. with_made (without_held (with_held s (new_held s (indexed es) false 0)) n)
    (volume_with c.args.id.0 c.args.head (piece_chunks (pieces_in (with_held s (new_held s (indexed es) false 0)) n)))) number
    ∙ listed_made s es false unused c.args.id.0 c.args.head
