use Rattle.std.proofs.Common.{◌≡◌, ◌++◌, map, take, drop}
use Rattle.vv_flat.specs.Restart.{interrupted_task}
use Rattle.vv_task.proofs.rows.interrupt.Given as goal

abbrev pub invariant-loop-row : goal.invariant-loop-row
invariant-loop-row l =
    l.row-items ≡ map interrupted_task (take l.row-index l.initial.row-items) ++ drop l.row-index l.initial.row-items
