use Rattle.std.proofs.Common.{◌≡◌, ◌≤◌, ◌-◌, length, take}
use Rattle.vv_tables.specs.Charges.{all_left}
use Rattle.vv_tables.proofs.charges.all_left.Given as goal

abbrev pub invariant-loop-task : goal.invariant-loop-task
invariant-loop-task l = record {
  within : l.i ≤ length l.tasks;
  counted : l.left ≡ all_left (take l.i l.tasks);
}

abbrev pub decreases-loop-task : goal.decreases-loop-task
decreases-loop-task l = length l.tasks - l.i
