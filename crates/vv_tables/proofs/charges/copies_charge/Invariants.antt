use Rattle.std.proofs.Common.{◌≡◌, ◌≤◌, ◌*◌, take}
use Rattle.vv_tables.specs.Charges.{copies_charge}
use Rattle.vv_tables.proofs.charges.copies_charge.Given as goal

abbrev pub invariant-loop-row : goal.invariant-loop-row
invariant-loop-row l = record {
  small : l.pieces ≤ l.row-index * 4294967295;
  counted : l.pieces ≡ copies_charge l.shelf.shelf l.tasks (take l.row-index l.copies) l.container.0;
}
