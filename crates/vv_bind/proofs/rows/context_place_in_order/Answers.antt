use Rattle.std.proofs.Common.{ap, arith, length, ◌∙◌, unwrap_or, nat_lt}
use Rattle.vv_flat.specs.State.{Context}
use Rattle.vv_flat.proofs.Positions.{position_or, place-le-length}
use Rattle.vv_bind.proofs.rows.context_place_in_order.Goals as goal

pub returns-clause-at : goal.returns-clause-at
returns-clause-at c =
    c.unwrap_or.ensures ∙ ap (λ r. unwrap_or r (length c.args.contexts.now)) c.context_place_above.ensures
    ∙ position_or (λ (x : Context). nat_lt c.args.host.0 x.host) c.args.contexts.now

pub returns-clause-within : goal.returns-clause-within
returns-clause-within c =
    let e = c.unwrap_or.ensures ∙ ap (λ r. unwrap_or r (length c.args.contexts.now)) c.context_place_above.ensures ∙ position_or (λ (x : Context). nat_lt c.args.host.0 x.host) c.args.contexts.now in
    let h = place-le-length (λ (x : Context). nat_lt c.args.host.0 x.host) c.args.contexts.now in
    omega arith
