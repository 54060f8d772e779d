use Rattle.std.proofs.Common.{ℕ, List, length, ◌∙◌, ap, arith}
use Rattle.std.specs.Prelude.{nat_lt}
use Rattle.std.specs.List.{list_all}
use Rattle.std.proofs.lemmas.List.{length-map}
use Rattle.vv_units.specs.declared.numbers.EndpointId.{EndpointId}
use Rattle.vv_flat.specs.Lists.{all_different}
use Rattle.vv_flat.specs.State.{Context}
use Rattle.vv_flat.specs.Bindings.{endpoints_of}
use Rattle.vv_bind.proofs.TableLemmas.{endpoints_told, listed_parts}
use Rattle.vv_bind.proofs.table.BindTable.endpoints.Goals as goal

pub returns-clause-few : goal.returns-clause-few
returns-clause-few c =
    let is = c.endpoints_in.ensures ∙ ap (λ (cs : List Context). endpoints_of cs c.args.host.0) c.deref.ensures.value in
    let few = (listed_parts (endpoints_of c.self.inside.contexts.items c.args.host.0) (endpoints_told c.self.inside.contexts.items c.args.host.0 c.self.invariant.lists)).0 in
    let size = ap (λ (l : List ℕ). length l) is in
    omega (arith, few, size, length-map c.endpoints_in.result.now (λ (e : EndpointId). e.0))

pub returns-clause-different : goal.returns-clause-different
returns-clause-different c =
    let is = c.endpoints_in.ensures ∙ ap (λ (cs : List Context). endpoints_of cs c.args.host.0) c.deref.ensures.value in
    ap all_different is ∙ (listed_parts (endpoints_of c.self.inside.contexts.items c.args.host.0) (endpoints_told c.self.inside.contexts.items c.args.host.0 c.self.invariant.lists)).1

pub returns-clause-not_zero : goal.returns-clause-not_zero
returns-clause-not_zero c =
    let is = c.endpoints_in.ensures ∙ ap (λ (cs : List Context). endpoints_of cs c.args.host.0) c.deref.ensures.value in
    ap (λ (l : List ℕ). list_all (λ e. nat_lt 0 e) l) is ∙ (listed_parts (endpoints_of c.self.inside.contexts.items c.args.host.0) (endpoints_told c.self.inside.contexts.items c.args.host.0 c.self.invariant.lists)).2
