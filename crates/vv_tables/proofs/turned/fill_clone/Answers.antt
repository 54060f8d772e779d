use Rattle.std.proofs.Common.{◌≡◌, Some, sym, ap, subst, ◌∙◌}
use Rattle.std.specs.Prelude.{IfSome}
use Rattle.std.specs.List.{find, position}
use Rattle.vv_flat.proofs.Positions.{found_is}
use Rattle.vv_tables.specs.Rows.{is_clone_row}
use Rattle.vv_tables.specs.Filling.{MayFill, with_filled, copy_indexes, copy_places}
use Rattle.vv_tables.proofs.turned.fill_clone.Goals as goal

pub fill_places-requires-clause-may : goal.fill_places-requires-clause-may
fill_places-requires-clause-may c =
    let items = c.args.rows.now.items in
    let row = c.index_mut-row.result.now in
    let at = ap (position (is_clone_row c.args.id.0)) (sym c.deref.ensures.value) ∙ c.standing_clone-at.ensures in
    let found : find (is_clone_row c.args.id.0) items ≡ Some row = found_is (is_clone_row c.args.id.0) items c.standing_clone-at.result row at c.index_mut-row.ensures.value in
    subst (λ o. IfSome o (λ r. MayFill c.args.shelf.now.shelf r.target.number c.args.id.0 (copy_indexes c.args.copies.now) (copy_places c.args.copies.now))) found c.requires.may

pub returns-clause-shelf : goal.returns-clause-shelf
returns-clause-shelf c =
    let items = c.args.rows.now.items in
    let row = c.index_mut-row.result.now in
    let at = ap (position (is_clone_row c.args.id.0)) (sym c.deref.ensures.value) ∙ c.standing_clone-at.ensures in
    let found : find (is_clone_row c.args.id.0) items ≡ Some row = found_is (is_clone_row c.args.id.0) items c.standing_clone-at.result row at c.index_mut-row.ensures.value in
    subst (λ o. IfSome o (λ r. c.fill_places.new.shelf.shelf ≡ with_filled c.args.shelf.now.shelf r.target.number c.args.id.0 (copy_indexes c.args.copies.now) (copy_places c.args.copies.now))) (sym found) c.fill_places.ensures.shelf
