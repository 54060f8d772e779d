use Rattle.std.proofs.Common.{◌≡◌, ◌-◌, None, sym, ap, subst, option_map}
use Rattle.vv_flat.specs.State.{Binding}
use Rattle.vv_flat.specs.Bindings.{is_address, binding_at, without_binding}
use Rattle.vv_bind.specs.Table.{BindState, address}
use Rattle.vv_flat.proofs.Positions.{not_found}
use Rattle.vv_bind.proofs.RowLemmas.{place_in}
use Rattle.vv_bind.proofs.TableLemmas.{kept-without, without_none, same_table}
use Rattle.vv_bind.proofs.table.BindTable.unbind.Goals as goal

pub invariant_of-self : goal.invariant_of-self
invariant_of-self c =
    kept-without _ _ _ _ _ _ (address c.args.host.0 c.args.endpoint.0 c.args.secondary.0) c.self.invariant c.lower.ensures.items c.lower.ensures.capacity

pub returns-in-None-clause-left : goal.returns-in-None-clause-left
returns-in-None-clause-left c =
    let a = address c.args.host.0 c.args.endpoint.0 c.args.secondary.0 in
    let test = λ (b : Binding). is_address b.address a in
    let none = not_found test c.self.inside.bindings.items (place_in test c.self.inside.bindings.items c.deref.result.now None c.deref.ensures.value c.in-None.ensures) in
    subst (λ (t : BindState). None ≡ option_map (λ (b : Binding). b.count - 1) (binding_at t.bindings a)) c.self.view_is
    (sym (ap (λ r. option_map (λ (b : Binding). b.count - 1) r) none))

pub returns-in-None-clause-table : goal.returns-in-None-clause-table
returns-in-None-clause-table c =
    let a = address c.args.host.0 c.args.endpoint.0 c.args.secondary.0 in
    let test = λ (b : Binding). is_address b.address a in
    let none = not_found test c.self.inside.bindings.items (place_in test c.self.inside.bindings.items c.deref.result.now None c.deref.ensures.value c.in-None.ensures) in
    same_table c.args.self.now (without_binding c.args.self.now.bindings a)
    (without_none c.args.self.now.bindings a (subst (λ (t : BindState). binding_at t.bindings a ≡ None) c.self.view_is none))
