use Rattle.std.proofs.Common.{◌≡◌, ◌+◌, true, length, None, ◌++◌, sym, ap, subst, ◌∙◌, arith}
use Rattle.std.specs.Prelude.{is_some}
use Rattle.std.proofs.lemmas.List.{length-map}
use Rattle.vv_flat.specs.State.{indexed}
use Rattle.vv_flat.specs.Sharing.{shares_places}
use Rattle.vv_vols.specs.Shelf.{ShelfState, HeldName, held_in, next_held, shelf_entries, shelf_pieces}
use Rattle.vv_vols.specs.Calls.{without_held, new_held}
use Rattle.vv_vols.specs.Rows.{ShelfView, seen_entry, seen_entries}
use Rattle.vv_tables.specs.Restored.{with_image}
use Rattle.vv_tables.proofs.ShelfCounts.{length-indexed}
use Rattle.vv_tables.proofs.GivenLists.{added_removed, listed_stands}
use Rattle.vv_tables.proofs.RestoredClones.{added_entries, front_shares, second_shares}
use Rattle.vv_tables.proofs.giving.hold_clone.Goals as goal

pub hold_image-requires-clause-shares : goal.hold_image-requires-clause-shares
hold_image-requires-clause-shares g c =
    let s = c.args.shelf.now.shelf in
    front_shares s.geometry.pool_chunks (shelf_pieces s) (indexed (seen_entries c.args.image.now)) (indexed (seen_entries c.args.target.now)) c.requires.shares

pub hold_entries-requires-clause-few : goal.hold_entries-requires-clause-few
hold_entries-requires-clause-few g c =
    let s = c.args.shelf.now.shelf in
    let es = seen_entries c.args.image.now in
    let entries : shelf_entries c.hold_image.new.shelf.shelf ≡ shelf_entries s + length c.args.image.now =
    ap shelf_entries c.in_ok-image.ensures.shelf ∙ added_entries s (new_held s (indexed es) true 0)
    ∙ ap (λ n. shelf_entries s + n) (length-indexed es ∙ length-map c.args.image.now seen_entry) in
    let geometry : c.hold_image.new.shelf.shelf.geometry.map_chunks ≡ s.geometry.map_chunks = ap (λ (t : ShelfState). t.geometry.map_chunks) c.in_ok-image.ensures.shelf in
    let few = c.requires.few in
    omega (arith, entries, geometry, few)

pub hold_entries-requires-clause-shares : goal.hold_entries-requires-clause-shares
hold_entries-requires-clause-shares g c =
    let s = c.args.shelf.now.shelf in
    subst (λ (t : ShelfState). shares_places t.geometry.pool_chunks (shelf_pieces t ++ indexed (seen_entries c.args.target.now)) ≡ true) (sym c.in_ok-image.ensures.shelf)
    (second_shares s (new_held s (indexed (seen_entries c.args.image.now)) true 0) (indexed (seen_entries c.args.target.now)) c.requires.shares)

pub drop_image-requires : goal.drop_image-requires
drop_image-requires g c =
    let s = c.args.shelf.now.shelf in
    let es = seen_entries c.args.image.now in
    let number : c.in_ok-image.image.number ≡ next_held s = ap (λ (h : HeldName). h.number) c.in_ok-image.ensures.held in
    let unused : held_in s (next_held s) ≡ None = sym (ap (held_in s) number) ∙ c.in_ok-image.ensures.unused in
    let same : c.hold_entries.new.shelf.shelf ≡ with_image s es = ap (λ (v : ShelfView). v.shelf) c.in_default.ensures.err ∙ c.in_ok-image.ensures.shelf in
    let stands = ap (λ (t : ShelfState). held_in t c.in_ok-image.image.number) same ∙ ap (held_in (with_image s es)) number ∙ listed_stands s es true unused in
    ap is_some stands

pub returns-in_default-clause-err : goal.returns-in_default-clause-err
returns-in_default-clause-err g c =
    let s = c.args.shelf.now.shelf in
    let es = seen_entries c.args.image.now in
    let number : c.in_ok-image.image.number ≡ next_held s = ap (λ (h : HeldName). h.number) c.in_ok-image.ensures.held in
    let unused : held_in s (next_held s) ≡ None = sym (ap (held_in s) number) ∙ c.in_ok-image.ensures.unused in
    let same : c.hold_entries.new.shelf.shelf ≡ with_image s es = ap (λ (v : ShelfView). v.shelf) c.in_default.ensures.err ∙ c.in_ok-image.ensures.shelf in
    c.drop_image.ensures.shelf
    ∙ ap (λ (t : ShelfState). without_held t c.in_ok-image.image.number) same
    ∙ ap (without_held (with_image s es)) number
    ∙ added_removed s (new_held s (indexed es) true 0) unused
