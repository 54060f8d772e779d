use Rattle.std.proofs.Common.{◌<◌, length, sym, ◌∙◌, arith}
use Rattle.vv_bind.specs.Table.{numbers}
use Rattle.vv_judge.specs.Hosts.{keeps_binding}
use Rattle.vv_judge.proofs.Walks.{within, all_stops, all_more, all_done, not_true, not_false}
use Rattle.vv_judge.proofs.hosts.keeps_bindings.Goals as goal

pub returns-then-is_lost : goal.returns-then-is_lost
returns-then-is_lost c = sym (all_stops (keeps_binding c.args.host.0 (numbers c.args.endpoints.now)) c.args.bindings.now.bindings c.loop-binding.i c.in-Some.binding.now (sym c.in-Some.ensures.item) (not_true _ (sym c.is_lost.ensures ∙ c.if-is_lost.true))) ∙ c.loop-binding.invariant

pub loop-binding-smaller : goal.loop-binding-smaller
loop-binding-smaller c =
    let here : c.loop-binding.i < length c.args.bindings.now.bindings = within c.args.bindings.now.bindings c.loop-binding.i c.in-Some.binding.now (sym c.in-Some.ensures.item) in omega arith

pub loop-binding-preserved : goal.loop-binding-preserved
loop-binding-preserved c =
    sym (all_more (keeps_binding c.args.host.0 (numbers c.args.endpoints.now)) c.args.bindings.now.bindings c.loop-binding.i c.in-Some.binding.now (sym c.in-Some.ensures.item) (not_false _ (sym c.is_lost.ensures ∙ c.if-is_lost.false))) ∙ c.loop-binding.invariant

pub overflow_add-i : goal.overflow_add-i
overflow_add-i c =
    let here : c.loop-binding.i < length c.args.bindings.now.bindings = within c.args.bindings.now.bindings c.loop-binding.i c.in-Some.binding.now (sym c.in-Some.ensures.item) in omega (arith, c.in-Some.ensures.few)

pub returns : goal.returns
returns c = sym (all_done (keeps_binding c.args.host.0 (numbers c.args.endpoints.now)) c.args.bindings.now.bindings c.loop-binding.i (sym c.in_default.ensures.item)) ∙ c.loop-binding.invariant
