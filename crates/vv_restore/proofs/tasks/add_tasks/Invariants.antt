use Rattle.std.proofs.Common.{◌≡◌, take}
use Rattle.vv_area.specs.Area.{tables_of}
use Rattle.vv_restore.specs.Restoring.{bindings_of}
use Rattle.vv_restore.proofs.tasks.add_tasks.Given as goal

abbrev pub invariant-loop-row : goal.invariant-loop-row
invariant-loop-row l = l.restored ≡ record (bindings_of (tables_of l.raw)) { tasks = take l.row-index l.raw.tasks }
