use Rattle.std.proofs.Common.{◌≡◌, ◌≤◌, take}
use Rattle.vv_flat.specs.Bindings.{host_bindings}
use Rattle.vv_bind.proofs.questions_for_plans.host_count.Given as goal

abbrev pub invariant-loop-binding : goal.invariant-loop-binding
invariant-loop-binding l = record {
  counted : l.count ≡ host_bindings (take l.binding-index l.bindings) l.host.0;
  few : l.count ≤ l.binding-index;
}
