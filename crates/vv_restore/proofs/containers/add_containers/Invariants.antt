use Rattle.std.proofs.Common.{◌≡◌, take}
use Rattle.vv_area.specs.Area.{tables_of}
use Rattle.vv_restore.specs.Restoring.{nothing_of}
use Rattle.vv_restore.proofs.containers.add_containers.Given as goal

abbrev pub invariant-loop-row : goal.invariant-loop-row
invariant-loop-row l = l.restored ≡ record (nothing_of (tables_of l.raw)) { containers = take l.row-index l.raw.containers }
