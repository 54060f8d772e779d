use Rattle.std.proofs.Common.{◌≤◌, ◌-◌, length}
use Rattle.vv_tables.proofs.questions_for_spelling.task_rows.Given as goal

abbrev pub invariant-loop-count : goal.invariant-loop-count
invariant-loop-count l = l.count ≤ length l.tasks

abbrev pub decreases-loop-count : goal.decreases-loop-count
decreases-loop-count l = length l.tasks - l.count
