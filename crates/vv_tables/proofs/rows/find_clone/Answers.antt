use Rattle.std.proofs.Common.{sym}
use Rattle.vv_flat.proofs.Positions.{found_is, not_found}
use Rattle.vv_tables.specs.Rows.{is_clone_row}
use Rattle.vv_tables.proofs.rows.find_clone.Goals as goal

pub returns-in-Some : goal.returns-in-Some
returns-in-Some c =
    sym (found_is (is_clone_row c.args.id.0) c.args.rows.now c.in-Some.at c.index-rows-at.result (sym c.in-Some.ensures) c.index-rows-at.is)

pub returns-in-None : goal.returns-in-None
returns-in-None c = sym (not_found (is_clone_row c.args.id.0) c.args.rows.now (sym c.in-None.ensures))
