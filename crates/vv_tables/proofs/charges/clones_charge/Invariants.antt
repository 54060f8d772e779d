use Rattle.std.proofs.Common.{◌≡◌, ◌≤◌, ◌*◌, take}
use Rattle.vv_tables.specs.Charges.{clones_charge}
use Rattle.vv_tables.proofs.charges.clones_charge.Given as goal

abbrev pub invariant-loop-row : goal.invariant-loop-row
invariant-loop-row l = record {
  small : l.chunks ≤ l.row-index * 4294967295;
  counted : l.chunks ≡ clones_charge l.tasks (take l.row-index l.clones) l.container.0;
}
