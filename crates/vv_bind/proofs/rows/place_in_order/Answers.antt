use Rattle.std.proofs.Common.{ap, arith, length, ◌∙◌, unwrap_or}
use Rattle.vv_flat.specs.State.{Binding}
use Rattle.vv_flat.specs.Bindings.{is_below}
use Rattle.vv_bind.specs.Table.{address}
use Rattle.vv_flat.proofs.Positions.{position_or, place-le-length}
use Rattle.vv_bind.proofs.rows.place_in_order.Goals as goal

pub returns-clause-at : goal.returns-clause-at
returns-clause-at c =
    c.unwrap_or.ensures ∙ ap (λ r. unwrap_or r (length c.args.bindings.now)) c.place_above.ensures
    ∙ position_or (λ (b : Binding). is_below (address c.args.host.0 c.args.endpoint.0 c.args.secondary.0) b.address) c.args.bindings.now

pub returns-clause-within : goal.returns-clause-within
returns-clause-within c =
    let e = c.unwrap_or.ensures ∙ ap (λ r. unwrap_or r (length c.args.bindings.now)) c.place_above.ensures ∙ position_or (λ (b : Binding). is_below (address c.args.host.0 c.args.endpoint.0 c.args.secondary.0) b.address) c.args.bindings.now in
    let h = place-le-length (λ (b : Binding). is_below (address c.args.host.0 c.args.endpoint.0 c.args.secondary.0) b.address) c.args.bindings.now in
    omega arith
