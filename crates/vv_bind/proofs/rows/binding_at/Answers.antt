use Rattle.std.proofs.Common.{sym}
use Rattle.vv_flat.specs.State.{Binding}
use Rattle.vv_flat.specs.Bindings.{is_address}
use Rattle.vv_bind.specs.Table.{address}
use Rattle.vv_flat.proofs.Positions.{found_is, not_found}
use Rattle.vv_bind.proofs.rows.binding_at.Goals as goal

pub returns-in-Some : goal.returns-in-Some
returns-in-Some c =
    sym (found_is (λ (b : Binding). is_address b.address (address c.args.host.0 c.args.endpoint.0 c.args.secondary.0)) c.args.bindings.now c.in-Some.at
    c.index-bindings-at.result (sym c.in-Some.ensures) c.index-bindings-at.is)

pub returns-in-None : goal.returns-in-None
returns-in-None c =
    sym (not_found (λ (b : Binding). is_address b.address (address c.args.host.0 c.args.endpoint.0 c.args.secondary.0)) c.args.bindings.now (sym c.in-None.ensures))
