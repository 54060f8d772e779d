use Rattle.std.proofs.Common.{◌≡◌, ◌≤◌, ◌*◌, take}
use Rattle.vv_tables.specs.Charges.{volumes_charge}
use Rattle.vv_tables.proofs.charges.volumes_charge.Given as goal

abbrev pub invariant-loop-i : goal.invariant-loop-i
invariant-loop-i l = record {
  small : l.chunks ≤ l.i * 4294967295;
  counted : l.chunks ≡ volumes_charge (take l.i l.shelf.shelf.volumes) l.container.0;
}
