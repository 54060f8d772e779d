use Rattle.std.proofs.Common.{◌∙◌, ◌+◌, sym, arith}
use Rattle.vv_bind.proofs.RowLemmas.{bound_within, bound_more, bound_free, least_is}
use Rattle.vv_bind.proofs.rows.least_free.Goals as goal

pub loop-host-preserved : goal.loop-host-preserved
loop-host-preserved c =
    bound_more c.args.bindings.now c.args.host.0 c.args.endpoint.0 c.loop-host.secondary c.place_at.result c.loop-host.invariant
    c.place_at.ensures (sym c.is_some.ensures ∙ c.loop-host-test.true)

pub overflow_add-secondary : goal.overflow_add-secondary
overflow_add-secondary c =
    let more = bound_more c.args.bindings.now c.args.host.0 c.args.endpoint.0 c.loop-host.secondary c.place_at.result c.loop-host.invariant
    c.place_at.ensures (sym c.is_some.ensures ∙ c.loop-host-test.true) in
    let within = bound_within c.args.bindings.now c.args.host.0 c.args.endpoint.0 (c.loop-host.secondary + 1) more in
    omega arith

pub loop-host-smaller : goal.loop-host-smaller
loop-host-smaller c =
    let more = bound_more c.args.bindings.now c.args.host.0 c.args.endpoint.0 c.loop-host.secondary c.place_at.result c.loop-host.invariant
    c.place_at.ensures (sym c.is_some.ensures ∙ c.loop-host-test.true) in
    let within = bound_within c.args.bindings.now c.args.host.0 c.args.endpoint.0 (c.loop-host.secondary + 1) more in
    omega arith

pub returns-clause-free : goal.returns-clause-free
returns-clause-free c =
    bound_free c.args.bindings.now c.args.host.0 c.args.endpoint.0 c.loop-host.secondary c.place_at.result
    c.place_at.ensures (sym c.is_some.ensures ∙ c.loop-host-test.false)

pub returns-clause-least : goal.returns-clause-least
returns-clause-least c =
    least_is c.args.bindings.now c.args.host.0 c.args.endpoint.0 c.loop-host.secondary c.loop-host.invariant
    (bound_free c.args.bindings.now c.args.host.0 c.args.endpoint.0 c.loop-host.secondary c.place_at.result
    c.place_at.ensures (sym c.is_some.ensures ∙ c.loop-host-test.false))
