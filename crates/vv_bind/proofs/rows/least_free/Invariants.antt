use Rattle.std.proofs.Common.{◌+◌, ◌-◌, length}
use Rattle.vv_bind.proofs.RowLemmas.{AllBound}
use Rattle.vv_bind.proofs.rows.least_free.Given as goal

abbrev pub invariant-loop-host : goal.invariant-loop-host
invariant-loop-host l = AllBound l.bindings l.host.0 l.endpoint.0 l.secondary

abbrev pub decreases-loop-host : goal.decreases-loop-host
decreases-loop-host l = length l.bindings + 1 - l.secondary
