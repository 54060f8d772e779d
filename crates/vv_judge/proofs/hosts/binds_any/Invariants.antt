use Rattle.std.proofs.Common.{◌≡◌, ◌-◌, length, drop}
use Rattle.std.specs.List.{list_any}
use Rattle.vv_flat.specs.Bindings.{is_of_host}
use Rattle.vv_judge.proofs.hosts.binds_any.Given as goal

abbrev pub invariant-loop-binding : goal.invariant-loop-binding
invariant-loop-binding l = list_any (is_of_host l.host.0) (drop l.i l.bindings.bindings) ≡ list_any (is_of_host l.host.0) l.bindings.bindings

abbrev pub decreases-loop-binding : goal.decreases-loop-binding
decreases-loop-binding l = length l.bindings.bindings - l.i
