use Rattle.std.proofs.Common.{◌≡◌, ◌-◌, length, drop}
use Rattle.std.specs.List.{find}
use Rattle.vv_flat.specs.Bindings.{is_binding_of}
use Rattle.vv_judge.proofs.hosts.bound_count.Given as goal

abbrev pub invariant-loop-binding : goal.invariant-loop-binding
invariant-loop-binding l = find (is_binding_of l.host.0 l.volume.0) (drop l.i l.bindings.bindings) ≡ find (is_binding_of l.host.0 l.volume.0) l.bindings.bindings

abbrev pub decreases-loop-binding : goal.decreases-loop-binding
decreases-loop-binding l = length l.bindings.bindings - l.i
