use Rattle.std.proofs.Common.{◌≡◌, drop}
use Rattle.vv_vols.specs.Shelf.{first_gap}
use Rattle.vv_vols.specs.Rows.{held_numbers}
use Rattle.vv_vols.proofs.held_rows.next_number.Given as goal

abbrev pub invariant-loop-row : goal.invariant-loop-row
invariant-loop-row l = record {
  gap : first_gap 0 (held_numbers l.rows) ≡ first_gap l.number (held_numbers (drop l.row-index l.rows));
  passed : l.number ≡ l.row-index;
}
