use Rattle.std.proofs.Common.{◌≡◌, ◌<◌, length, None, sym, ap, subst}
use Rattle.vv_flat.specs.State.{Address, Binding}
use Rattle.vv_flat.specs.Bindings.{binding_at}
use Rattle.vv_bind.specs.Table.{BindState, IsHost, address}
use Rattle.vv_bind.proofs.TableLemmas.{kept-put}
use Rattle.vv_bind.proofs.table.BindTable.restore.Goals as goal

pub invariant_of-self : goal.invariant_of-self
invariant_of-self c =
    let free = subst (λ (t : BindState). binding_at t.bindings (address c.args.host.0 c.args.endpoint.0 c.args.secondary.0) ≡ None) (sym c.self.view_is) c.requires.free in
    let room = subst (λ (t : BindState). length t.bindings < 1024) (sym c.self.view_is) c.requires.room in
    kept-put _ _ _ _ _ _ c.of.result c.self.invariant
    (subst (λ (b : Binding). IsHost b.address.host) (sym c.of.ensures) c.requires.host)
    (subst (λ (a : Address). binding_at c.self.inside.bindings.items a ≡ None) (sym (ap (λ (b : Binding). b.address) c.of.ensures)) free)
    room c.put.ensures.items c.put.ensures.capacity
