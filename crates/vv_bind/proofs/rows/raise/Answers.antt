use Rattle.std.proofs.Common.{◌≡◌, ◌∙◌, ◌+◌, ◌≢◌, sym, ap, subst, IfSome}
use Rattle.vv_flat.specs.State.{Binding}
use Rattle.vv_flat.specs.Bindings.{is_binding_of}
use Rattle.vv_bind.specs.Table.{address}
use Rattle.vv_flat.proofs.Positions.{found_is, found_passes, changed_step}
use Rattle.vv_bind.proofs.RowLemmas.{host_is, address_is}
use Rattle.vv_bind.proofs.rows.raise.Goals as goal

pub raise-requires : goal.raise-requires
raise-requires c =
    let found = found_is (is_binding_of c.args.host.0 c.args.volume.0) c.args.bindings.now.items c.args.at c.index_mut-binding.result.now c.requires.found c.index_mut-binding.ensures.value in
    subst (λ r. IfSome r (λ (b : Binding). b.count ≢ 65535)) found c.requires.few

pub returns-clause-address : goal.returns-clause-address
returns-clause-address c =
    let b = c.index_mut-binding.result.now in
    let test = is_binding_of c.args.host.0 c.args.volume.0 in
    let found = found_is test c.args.bindings.now.items c.args.at b c.requires.found c.index_mut-binding.ensures.value in
    let passes = found_passes test c.args.bindings.now.items c.args.at b c.requires.found c.index_mut-binding.ensures.value in
    let there = address_is b.address c.args.host.0 c.endpoint.result.0 c.secondary.result.0 (host_is c.args.host.0 c.args.volume.0 b passes)
    (c.endpoint.ensures ∙ ap (λ (x : Binding). x.address.endpoint) c.raise.ensures)
    (c.secondary.ensures ∙ ap (λ (x : Binding). x.address.secondary) c.raise.ensures) in
    subst (λ r. IfSome r (λ (x : Binding). x.address ≡ address c.args.host.0 c.endpoint.result.0 c.secondary.result.0)) (sym found) there

pub returns-clause-items : goal.returns-clause-items
returns-clause-items c =
    changed_step (is_binding_of c.args.host.0 c.args.volume.0) (λ (b : Binding). record b { count = b.count + 1 }) c.args.bindings.now.items c.args.at
    c.index_mut-binding.result.now c.raise.new.self c.requires.found c.index_mut-binding.ensures.value c.raise.ensures
