use Rattle.std.proofs.Common.{◌≡◌, ◌-◌, length}
use Rattle.vv_core.specs.Turns.{image_stamps, next_of, next_indexes}
use Rattle.vv_core.proofs.TurnWalk.{behind}
use Rattle.vv_core.proofs.turns.next_indexes.Given as goal

abbrev pub invariant-loop-task : goal.invariant-loop-task
invariant-loop-task l =
    next_of l.indexes.items l.ahead (behind (image_stamps l.tables.durable l.task.0) l.index) ≡ next_indexes l.tables.durable l.task.0 l.copied

abbrev pub decreases-loop-task : goal.decreases-loop-task
decreases-loop-task l = length (image_stamps l.tables.durable l.task.0) - l.index
