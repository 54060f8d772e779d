use Rattle.std.proofs.Common.{◌≤◌, ◌-◌, length}
use Rattle.vv_tables.proofs.counts.container_rows.Given as goal

abbrev pub invariant-loop-count : goal.invariant-loop-count
invariant-loop-count l = l.count ≤ length l.containers

abbrev pub decreases-loop-count : goal.decreases-loop-count
decreases-loop-count l = length l.containers - l.count
