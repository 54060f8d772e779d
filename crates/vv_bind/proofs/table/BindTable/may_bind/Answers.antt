use Rattle.std.proofs.Common.{◌≡◌, List, length, Some, None, sym, ap, subst}
use Rattle.vv_flat.specs.State.{Binding}
use Rattle.vv_flat.specs.Bindings.{is_binding_of}
use Rattle.vv_bind.specs.declared.fault.BindFault.TheVariants.{TooManyCount, TooManyBindings}
use Rattle.vv_bind.specs.Table.{BindState, bind_fault}
use Rattle.vv_flat.proofs.Positions.{found_is, not_found}
use Rattle.vv_bind.proofs.RowLemmas.{place_in}
use Rattle.vv_bind.proofs.TableLemmas.{state, some_listed, fault_bound, fault_new, count_full, count_free, table_full, table_free}
use Rattle.vv_bind.proofs.table.BindTable.may_bind.Goals as goal

pub returns-then-count : goal.returns-then-count
returns-then-count c =
    let t : BindState = state c.self.inside.contexts.items c.self.inside.bindings.items in
    let test = is_binding_of c.args.host.0 c.args.volume.0 in
    let listed = some_listed t.contexts c.deref.result.now c.endpoints_in.result.now c.args.host.0 c.is_empty.result c.deref.ensures.value c.endpoints_in.ensures c.is_empty.ensures c.if-is_empty.false in
    subst (λ (s : BindState). bind_fault s c.args.host.0 c.args.volume.0 ≡ Some TooManyCount) c.self.view_is
    (fault_bound t c.args.host.0 c.args.volume.0 c.index.result.now (Some TooManyCount) listed
    (found_is test t.bindings c.in-Some.at c.index.result.now (place_in test t.bindings c.deref-2.result.now (Some c.in-Some.at) c.deref-2.ensures.value c.in-Some.ensures) c.index.ensures)
    (count_full c.index.result.now.count c.count.result c.count.ensures.exact c.if-count.true))

pub returns-else-count : goal.returns-else-count
returns-else-count c =
    let t : BindState = state c.self.inside.contexts.items c.self.inside.bindings.items in
    let test = is_binding_of c.args.host.0 c.args.volume.0 in
    let listed = some_listed t.contexts c.deref.result.now c.endpoints_in.result.now c.args.host.0 c.is_empty.result c.deref.ensures.value c.endpoints_in.ensures c.is_empty.ensures c.if-is_empty.false in
    subst (λ (s : BindState). bind_fault s c.args.host.0 c.args.volume.0 ≡ None) c.self.view_is
    (fault_bound t c.args.host.0 c.args.volume.0 c.index.result.now (None) listed
    (found_is test t.bindings c.in-Some.at c.index.result.now (place_in test t.bindings c.deref-2.result.now (Some c.in-Some.at) c.deref-2.ensures.value c.in-Some.ensures) c.index.ensures)
    (count_free c.index.result.now.count c.count.result c.count.ensures.exact c.if-count.false))

pub returns-then-is_full : goal.returns-then-is_full
returns-then-is_full c =
    let t : BindState = state c.self.inside.contexts.items c.self.inside.bindings.items in
    let test = is_binding_of c.args.host.0 c.args.volume.0 in
    let listed = some_listed t.contexts c.deref.result.now c.endpoints_in.result.now c.args.host.0 c.is_empty.result c.deref.ensures.value c.endpoints_in.ensures c.is_empty.ensures c.if-is_empty.false in
    subst (λ (s : BindState). bind_fault s c.args.host.0 c.args.volume.0 ≡ Some TooManyBindings) c.self.view_is
    (fault_new t c.args.host.0 c.args.volume.0 (Some TooManyBindings) listed
    (not_found test t.bindings (place_in test t.bindings c.deref-2.result.now None c.deref-2.ensures.value c.in-None.ensures))
    (table_full (length t.bindings) (length c.deref-in-None.result.now) c.is_full.result (ap (λ (xs : List Binding). length xs) (sym c.deref-in-None.ensures.value)) c.is_full.ensures c.if-is_full.true))

pub returns-else-is_full : goal.returns-else-is_full
returns-else-is_full c =
    let t : BindState = state c.self.inside.contexts.items c.self.inside.bindings.items in
    let test = is_binding_of c.args.host.0 c.args.volume.0 in
    let listed = some_listed t.contexts c.deref.result.now c.endpoints_in.result.now c.args.host.0 c.is_empty.result c.deref.ensures.value c.endpoints_in.ensures c.is_empty.ensures c.if-is_empty.false in
    subst (λ (s : BindState). bind_fault s c.args.host.0 c.args.volume.0 ≡ None) c.self.view_is
    (fault_new t c.args.host.0 c.args.volume.0 (None) listed
    (not_found test t.bindings (place_in test t.bindings c.deref-2.result.now None c.deref-2.ensures.value c.in-None.ensures))
    (table_free (length t.bindings) (length c.deref-in-None.result.now) c.is_full.result (ap (λ (xs : List Binding). length xs) (sym c.deref-in-None.ensures.value)) c.is_full.ensures c.if-is_full.false))
