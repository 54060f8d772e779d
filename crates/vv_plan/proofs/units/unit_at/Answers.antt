use Rattle.std.proofs.Common.{sym, ap, ◌∙◌}
use Rattle.vv_flat.specs.Bindings.{binding_at}
use Rattle.vv_bind.specs.Table.{BindState, address}
use Rattle.vv_plan.proofs.units.unit_at.Goals as goal

pub bound_unit-requires : goal.bound_unit-requires
bound_unit-requires c =
    let at = address c.args.host.0 c.args.endpoint.0 c.args.secondary.0 in
    (at, ap (λ (t : BindState). binding_at t.bindings at) (sym c.bindings-2.ensures) ∙ sym c.in-Some.ensures)
