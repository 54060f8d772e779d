use Rattle.std.proofs.Common.{◌≡◌, ◌-◌, length, drop}
use Rattle.std.specs.List.{find}
use Rattle.vv_bind.specs.Table.{address}
use Rattle.vv_judge.specs.Hosts.{is_there}
use Rattle.vv_judge.proofs.hosts.is_bound_at.Given as goal

abbrev pub invariant-loop-binding : goal.invariant-loop-binding
invariant-loop-binding l = find (is_there (address l.host.0 l.endpoint.0 l.secondary.0)) (drop l.i l.bindings.bindings) ≡ find (is_there (address l.host.0 l.endpoint.0 l.secondary.0)) l.bindings.bindings

abbrev pub decreases-loop-binding : goal.decreases-loop-binding
decreases-loop-binding l = length l.bindings.bindings - l.i
