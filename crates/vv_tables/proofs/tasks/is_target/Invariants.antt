use Rattle.std.proofs.Common.{◌≡◌, ◌≤◌, ◌-◌, false, length, take}
use Rattle.std.specs.List.{list_any}
use Rattle.vv_tables.specs.Tasks.{is_to_change}
use Rattle.vv_tables.proofs.tasks.is_target.Given as goal

abbrev pub invariant-loop-task : goal.invariant-loop-task
invariant-loop-task l = record {
  within : l.i ≤ length l.tasks;
  none : list_any (is_to_change l.id.0) (take l.i l.tasks) ≡ false;
}

abbrev pub decreases-loop-task : goal.decreases-loop-task
decreases-loop-task l = length l.tasks - l.i
