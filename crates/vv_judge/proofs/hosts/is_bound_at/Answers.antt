use Rattle.std.proofs.Common.{◌<◌, length, sym, ap, ◌∙◌, arith, is_some}
use Rattle.vv_bind.specs.Table.{address}
use Rattle.vv_judge.specs.Hosts.{is_there}
use Rattle.vv_judge.proofs.Walks.{within, find_stops, find_more, find_done}
use Rattle.vv_judge.proofs.hosts.is_bound_at.Goals as goal

pub returns-then-is_at : goal.returns-then-is_at
returns-then-is_at c = ap is_some (sym (find_stops (is_there (address c.args.host.0 c.args.endpoint.0 c.args.secondary.0)) c.args.bindings.now.bindings c.loop-binding.i c.in-Some.binding.now (sym c.in-Some.ensures.item) (sym c.is_at.ensures ∙ c.if-is_at.true)) ∙ c.loop-binding.invariant)

pub loop-binding-smaller : goal.loop-binding-smaller
loop-binding-smaller c =
    let here : c.loop-binding.i < length c.args.bindings.now.bindings = within c.args.bindings.now.bindings c.loop-binding.i c.in-Some.binding.now (sym c.in-Some.ensures.item) in omega arith

pub loop-binding-preserved : goal.loop-binding-preserved
loop-binding-preserved c =
    sym (find_more (is_there (address c.args.host.0 c.args.endpoint.0 c.args.secondary.0)) c.args.bindings.now.bindings c.loop-binding.i c.in-Some.binding.now (sym c.in-Some.ensures.item) (sym c.is_at.ensures ∙ c.if-is_at.false)) ∙ c.loop-binding.invariant

pub overflow_add-i : goal.overflow_add-i
overflow_add-i c =
    let here : c.loop-binding.i < length c.args.bindings.now.bindings = within c.args.bindings.now.bindings c.loop-binding.i c.in-Some.binding.now (sym c.in-Some.ensures.item) in omega (arith, c.in-Some.ensures.few)

pub returns : goal.returns
returns c = ap is_some (sym (find_done (is_there (address c.args.host.0 c.args.endpoint.0 c.args.secondary.0)) c.args.bindings.now.bindings c.loop-binding.i (sym c.in_default.ensures.item)) ∙ c.loop-binding.invariant)
