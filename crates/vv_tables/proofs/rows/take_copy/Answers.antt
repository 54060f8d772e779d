use Rattle.std.proofs.Common.{◌≡◌, None, Some, ◌∙◌, sym, ap}
use Rattle.std.specs.List.{find, position}
use Rattle.vv_flat.proofs.Positions.{found_is, not_found, removed_step}
use Rattle.vv_tables.specs.Rows.{is_copy_row}
use Rattle.vv_tables.proofs.RunningRows.{absent}
use Rattle.vv_tables.proofs.rows.take_copy.Goals as goal

pub unreachable-requires : goal.unreachable-requires
unreachable-requires c =
    let at : position (is_copy_row c.args.id.0) c.args.rows.now.items ≡ None = ap (position (is_copy_row c.args.id.0)) (sym c.deref.ensures.value) ∙ sym c.in-None.ensures in
    absent (find (is_copy_row c.args.id.0) c.args.rows.now.items) (not_found (is_copy_row c.args.id.0) c.args.rows.now.items at) c.requires

pub returns-clause-row : goal.returns-clause-row
returns-clause-row c =
    let at : position (is_copy_row c.args.id.0) c.args.rows.now.items ≡ Some c.in-Some.at = ap (position (is_copy_row c.args.id.0)) (sym c.deref.ensures.value) ∙ sym c.in-Some.ensures in
    found_is (is_copy_row c.args.id.0) c.args.rows.now.items c.in-Some.at c.remove.result at c.remove.ensures.value

pub returns-clause-items : goal.returns-clause-items
returns-clause-items c =
    let at : position (is_copy_row c.args.id.0) c.args.rows.now.items ≡ Some c.in-Some.at = ap (position (is_copy_row c.args.id.0)) (sym c.deref.ensures.value) ∙ sym c.in-Some.ensures in
    c.remove.ensures.items ∙ removed_step (is_copy_row c.args.id.0) c.args.rows.now.items c.in-Some.at at
