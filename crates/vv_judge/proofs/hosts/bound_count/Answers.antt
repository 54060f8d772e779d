use Rattle.std.proofs.Common.{Some, ◌<◌, length, sym, ap, ◌∙◌, arith, option_map}
use Rattle.vv_flat.specs.State.{Binding}
use Rattle.vv_flat.specs.Bindings.{is_binding_of}
use Rattle.vv_judge.proofs.Walks.{within, find_stops, find_more, find_done}
use Rattle.vv_judge.proofs.hosts.bound_count.Goals as goal

pub returns-then-is_binding_of : goal.returns-then-is_binding_of
returns-then-is_binding_of c = ap Some c.count.ensures.exact ∙ ap (option_map (λ (b : Binding). b.count)) (sym (find_stops (is_binding_of c.args.host.0 c.args.volume.0) c.args.bindings.now.bindings c.loop-binding.i c.in-Some.binding.now (sym c.in-Some.ensures.item) (sym c.is_binding_of.ensures ∙ c.if-is_binding_of.true)) ∙ c.loop-binding.invariant)

pub loop-binding-smaller : goal.loop-binding-smaller
loop-binding-smaller c =
    let here : c.loop-binding.i < length c.args.bindings.now.bindings = within c.args.bindings.now.bindings c.loop-binding.i c.in-Some.binding.now (sym c.in-Some.ensures.item) in omega arith

pub loop-binding-preserved : goal.loop-binding-preserved
loop-binding-preserved c =
    sym (find_more (is_binding_of c.args.host.0 c.args.volume.0) c.args.bindings.now.bindings c.loop-binding.i c.in-Some.binding.now (sym c.in-Some.ensures.item) (sym c.is_binding_of.ensures ∙ c.if-is_binding_of.false)) ∙ c.loop-binding.invariant

pub overflow_add-i : goal.overflow_add-i
overflow_add-i c =
    let here : c.loop-binding.i < length c.args.bindings.now.bindings = within c.args.bindings.now.bindings c.loop-binding.i c.in-Some.binding.now (sym c.in-Some.ensures.item) in omega (arith, c.in-Some.ensures.few)

pub returns : goal.returns
returns c = ap (option_map (λ (b : Binding). b.count)) (sym (find_done (is_binding_of c.args.host.0 c.args.volume.0) c.args.bindings.now.bindings c.loop-binding.i (sym c.in_default.ensures.item)) ∙ c.loop-binding.invariant)
