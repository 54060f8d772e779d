use Rattle.std.proofs.Common.{◌≡◌, true}
use Rattle.vv_task.specs.Table.{is_above_all}
use Rattle.vv_task.proofs.tests.sixteen_tasks_run.Given as goal

abbrev pub invariant-loop-number : goal.invariant-loop-number
invariant-loop-number g l = is_above_all l.number l.table ≡ true
