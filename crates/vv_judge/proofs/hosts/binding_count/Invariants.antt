use Rattle.std.proofs.Common.{◌≤◌, ◌-◌, length}
use Rattle.vv_judge.proofs.hosts.binding_count.Given as goal

abbrev pub invariant-loop-count : goal.invariant-loop-count
invariant-loop-count l = l.count ≤ length l.bindings.bindings

abbrev pub decreases-loop-count : goal.decreases-loop-count
decreases-loop-count l = length l.bindings.bindings - l.count
