use Rattle.std.proofs.Common.{◌≡◌, ◌-◌, length, drop}
use Rattle.std.specs.List.{list_all}
use Rattle.vv_bind.specs.Table.{numbers}
use Rattle.vv_judge.specs.Hosts.{keeps_binding}
use Rattle.vv_judge.proofs.hosts.keeps_bindings.Given as goal

abbrev pub invariant-loop-binding : goal.invariant-loop-binding
invariant-loop-binding l = list_all (keeps_binding l.host.0 (numbers l.endpoints)) (drop l.i l.bindings.bindings) ≡ list_all (keeps_binding l.host.0 (numbers l.endpoints)) l.bindings.bindings

abbrev pub decreases-loop-binding : goal.decreases-loop-binding
decreases-loop-binding l = length l.bindings.bindings - l.i
