use Rattle.std.proofs.Common.{◌≡◌, ◌∙◌, ◌+◌, ◌<◌, List, length, Some, None, is_some, refl, sym, ap, subst, arith}
use Rattle.std.specs.List.{position}
use Rattle.vv_flat.specs.Lists.{if_found}
use Rattle.vv_flat.specs.State.{Address, Binding, Context}
use Rattle.vv_flat.specs.Bindings.{is_binding_of, binding_of, binding_at, bound_address, endpoints_of, new_address, with_binding}
use Rattle.vv_bind.specs.Table.{BindState, IsHost, address, bind_fault, with_one_more}
use Rattle.vv_flat.proofs.Positions.{is_some_at, not_found}
use Rattle.vv_bind.proofs.RowLemmas.{place_in}
use Rattle.vv_bind.proofs.TableLemmas.{state, few_bound, room_new, kept-changed, kept-put, some_endpoint, address_found, with_found, with_new, new_is, table_is}
use Rattle.vv_bind.proofs.table.BindTable.bind.Goals as goal

pub raise-requires-clause-few : goal.raise-requires-clause-few
raise-requires-clause-few c =
    let t : BindState = state c.self.inside.contexts.items c.self.inside.bindings.items in
    few_bound t c.args.host.0 c.args.volume.0 (subst (λ (s : BindState). bind_fault s c.args.host.0 c.args.volume.0 ≡ None) (sym c.self.view_is) c.requires.may)

pub invariant_of-self : goal.invariant_of-self
invariant_of-self c =
    kept-changed _ _ _ _ _ _ (is_binding_of c.args.host.0 c.args.volume.0) (λ (b : Binding). b.count + 1) c.self.invariant c.raise.ensures.items c.raise.ensures.capacity

pub returns-in-Some-clause-address : goal.returns-in-Some-clause-address
returns-in-Some-clause-address c =
    let bs = c.self.inside.bindings.items in
    let test = is_binding_of c.args.host.0 c.args.volume.0 in
    let some = is_some_at test bs (Some c.in-Some.at) (c.in-Some.ensures ∙ ap (λ xs. position test xs) c.deref.ensures.value) refl in
    subst (λ (t : BindState). address c.args.host.0 c.raise.result.0.0 c.raise.result.1.0 ≡ bound_address t.contexts t.bindings c.args.host.0 c.args.volume.0) c.self.view_is
    (address_found (binding_of bs c.args.host.0 c.args.volume.0) (address c.args.host.0 c.raise.result.0.0 c.raise.result.1.0) (new_address c.self.inside.contexts.items bs c.args.host.0) some c.raise.ensures.address)

pub returns-in-Some-clause-table : goal.returns-in-Some-clause-table
returns-in-Some-clause-table c =
    let cs = c.self.inside.contexts.items in
    let bs = c.self.inside.bindings.items in
    let test = is_binding_of c.args.host.0 c.args.volume.0 in
    let some = is_some_at test bs (Some c.in-Some.at) (c.in-Some.ensures ∙ ap (λ xs. position test xs) c.deref.ensures.value) refl in
    table_is cs bs c.raise.new.bindings.items c.args.self.now (λ (t : BindState). with_binding t.contexts t.bindings c.args.host.0 c.args.volume.0) c.self.view_is
    (c.raise.ensures.items ∙ with_found cs bs c.args.host.0 c.args.volume.0 some)

pub put-requires : goal.put-requires
put-requires c =
    let t : BindState = state c.self.inside.contexts.items c.self.inside.bindings.items in
    let may = subst (λ (s : BindState). bind_fault s c.args.host.0 c.args.volume.0 ≡ None) (sym c.self.view_is) c.requires.may in
    let test = is_binding_of c.args.host.0 c.args.volume.0 in
    let none = not_found test t.bindings (place_in test t.bindings c.deref.result.now c.place_of.result c.deref.ensures.value c.place_of.ensures ∙ c.in_default.is) in
    let room : length c.self.inside.bindings.items < 1024 = room_new t c.args.host.0 c.args.volume.0 c.self.invariant.few none may in
    let size = ap length c.deref.ensures.value in
    let lent = c.deref.ensures.len in
    let fits = c.self.invariant.fits in
    omega arith

pub invariant_of-self-2 : goal.invariant_of-self-2
invariant_of-self-2 c =
    let t : BindState = state c.self.inside.contexts.items c.self.inside.bindings.items in
    let may = subst (λ (s : BindState). bind_fault s c.args.host.0 c.args.volume.0 ≡ None) (sym c.self.view_is) c.requires.may in
    let test = is_binding_of c.args.host.0 c.args.volume.0 in
    let none = not_found test t.bindings (place_in test t.bindings c.deref.result.now c.place_of.result c.deref.ensures.value c.place_of.ensures ∙ c.in_default.is) in
    let free = subst (λ (xs : List Binding). binding_at xs (address c.args.host.0 c.first_endpoint-endpoint.result.0 c.least_free-secondary.result.0) ≡ None) c.deref-3.ensures.value c.least_free-secondary.ensures.free in
    kept-put _ _ _ _ _ _ c.of.result c.self.invariant
    (subst (λ (b : Binding). IsHost b.address.host) (sym c.of.ensures) c.requires.host)
    (subst (λ (a : Address). binding_at c.self.inside.bindings.items a ≡ None) (sym (ap (λ (b : Binding). b.address) c.of.ensures)) free)
    (room_new t c.args.host.0 c.args.volume.0 c.self.invariant.few none may) c.put.ensures.items c.put.ensures.capacity

pub returns-clause-address : goal.returns-clause-address
returns-clause-address c =
    let cs = c.self.inside.contexts.items in
    let bs = c.self.inside.bindings.items in
    let test = is_binding_of c.args.host.0 c.args.volume.0 in
    let none = not_found test bs (place_in test bs c.deref.result.now c.place_of.result c.deref.ensures.value c.place_of.ensures ∙ c.in_default.is) in
    let new = new_is cs c.deref-2.result.now bs c.deref-3.result.now c.args.host.0 c.first_endpoint-endpoint.result.0 c.least_free-secondary.result.0
    c.deref-2.ensures.value c.deref-3.ensures.value c.first_endpoint-endpoint.ensures c.least_free-secondary.ensures.least in
    subst (λ (t : BindState). address c.args.host.0 c.first_endpoint-endpoint.result.0 c.least_free-secondary.result.0 ≡ bound_address t.contexts t.bindings c.args.host.0 c.args.volume.0) c.self.view_is
    (new ∙ sym (ap (λ r. if_found r (λ (b : Binding). b.address) (new_address cs bs c.args.host.0)) none))

pub returns-clause-table : goal.returns-clause-table
returns-clause-table c =
    let cs = c.self.inside.contexts.items in
    let bs = c.self.inside.bindings.items in
    let test = is_binding_of c.args.host.0 c.args.volume.0 in
    let none = not_found test bs (place_in test bs c.deref.result.now c.place_of.result c.deref.ensures.value c.place_of.ensures ∙ c.in_default.is) in
    let new = new_is cs c.deref-2.result.now bs c.deref-3.result.now c.args.host.0 c.first_endpoint-endpoint.result.0 c.least_free-secondary.result.0
    c.deref-2.ensures.value c.deref-3.ensures.value c.first_endpoint-endpoint.ensures c.least_free-secondary.ensures.least in
    table_is cs bs c.put.new.bindings.items c.args.self.now (λ (t : BindState). with_binding t.contexts t.bindings c.args.host.0 c.args.volume.0) c.self.view_is
    (c.put.ensures.items ∙ ap (λ x. with_one_more bs x) c.of.ensures
    ∙ with_new cs bs c.args.host.0 c.args.volume.0 (address c.args.host.0 c.first_endpoint-endpoint.result.0 c.least_free-secondary.result.0) (ap (λ r. is_some r) none) new)

pub first_endpoint-endpoint-requires : goal.first_endpoint-endpoint-requires
first_endpoint-endpoint-requires c =
    let t : BindState = state c.self.inside.contexts.items c.self.inside.bindings.items in
    let may = subst (λ (s : BindState). bind_fault s c.args.host.0 c.args.volume.0 ≡ None) (sym c.self.view_is) c.requires.may in
    let some = some_endpoint t c.args.host.0 c.args.volume.0 may in
    subst (λ (xs : List Context). 0 < length (endpoints_of xs c.args.host.0)) (sym c.deref-2.ensures.value) some
