use Rattle.std.proofs.Common.{◌<◌, length, sym, ◌∙◌, arith}
use Rattle.vv_flat.specs.Bindings.{is_of_host}
use Rattle.vv_judge.proofs.Walks.{within, any_stops, any_more, any_done}
use Rattle.vv_judge.proofs.hosts.binds_any.Goals as goal

pub returns-then-is_of : goal.returns-then-is_of
returns-then-is_of c = sym (any_stops (is_of_host c.args.host.0) c.args.bindings.now.bindings c.loop-binding.i c.in-Some.binding.now (sym c.in-Some.ensures.item) (sym c.is_of.ensures ∙ c.if-is_of.true)) ∙ c.loop-binding.invariant

pub loop-binding-smaller : goal.loop-binding-smaller
loop-binding-smaller c =
    let here : c.loop-binding.i < length c.args.bindings.now.bindings = within c.args.bindings.now.bindings c.loop-binding.i c.in-Some.binding.now (sym c.in-Some.ensures.item) in omega arith

pub loop-binding-preserved : goal.loop-binding-preserved
loop-binding-preserved c =
    sym (any_more (is_of_host c.args.host.0) c.args.bindings.now.bindings c.loop-binding.i c.in-Some.binding.now (sym c.in-Some.ensures.item) (sym c.is_of.ensures ∙ c.if-is_of.false)) ∙ c.loop-binding.invariant

pub overflow_add-i : goal.overflow_add-i
overflow_add-i c =
    let here : c.loop-binding.i < length c.args.bindings.now.bindings = within c.args.bindings.now.bindings c.loop-binding.i c.in-Some.binding.now (sym c.in-Some.ensures.item) in omega (arith, c.in-Some.ensures.few)

pub returns : goal.returns
returns c = sym (any_done (is_of_host c.args.host.0) c.args.bindings.now.bindings c.loop-binding.i (sym c.in_default.ensures.item)) ∙ c.loop-binding.invariant
