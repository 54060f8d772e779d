use Rattle.std.proofs.Common.{◌≡◌, true, sym, subst, arith}
use Rattle.std.proofs.lemmas.List.{length-map}
use Rattle.vv_units.specs.declared.numbers.EndpointId.{EndpointId}
use Rattle.vv_flat.specs.State.{Context}
use Rattle.vv_bind.specs.Table.{IsHost, has_endpoints, numbers}
use Rattle.vv_bind.proofs.TableLemmas.{context_room, kept-context, listed_from}
use Rattle.vv_bind.proofs.table.BindTable.set_endpoints.Goals as goal

pub set_context-requires : goal.set_context-requires
set_context-requires c =
    λ unset. context_room _ _ _ _ c.of.result c.self.invariant (subst (λ (x : Context). IsHost x.host) (sym c.of.ensures) c.requires.host) unset

pub invariant_of-self : goal.invariant_of-self
invariant_of-self c =
    kept-context _ _ _ _ _ _ c.of.result c.self.invariant (subst (λ (x : Context). IsHost x.host) (sym c.of.ensures) c.requires.host)
    (subst (λ (x : Context). has_endpoints x ≡ true) (sym c.of.ensures) (listed_from (numbers c.args.list.now) (omega (arith, length-map c.args.list.now (λ (e : EndpointId). e.0), c.requires.few)) c.requires.different c.requires.not_zero))
    c.set_context.ensures.items c.set_context.ensures.capacity
