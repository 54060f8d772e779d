use Rattle.std.proofs.Common.{◌≡◌, ◌≤◌, ◌*◌, take}
use Rattle.vv_tables.specs.Counts.{allocated_for}
use Rattle.vv_tables.proofs.ended.allocated_for.Given as goal

abbrev pub invariant-loop-i : goal.invariant-loop-i
invariant-loop-i l = record {
  small : l.chunks ≤ l.i * 4294967295;
  counted : l.chunks ≡ allocated_for (take l.i l.shelf.shelf.volumes) l.container.0;
}
