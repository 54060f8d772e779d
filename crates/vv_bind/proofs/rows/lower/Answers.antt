use Rattle.std.proofs.Common.{◌≡◌, ◌∙◌, ◌-◌, ◌<◌, Some, sym, ap, option_map, arith}
use Rattle.vv_flat.specs.State.{Binding}
use Rattle.vv_flat.specs.Bindings.{is_address}
use Rattle.vv_bind.specs.Table.{address}
use Rattle.vv_flat.proofs.Positions.{found_is, found_same}
use Rattle.vv_bind.proofs.RowLemmas.{last_count, not_last, without_last, without_one}
use Rattle.vv_bind.proofs.rows.lower.Goals as goal

pub returns-then-is_last-clause-left : goal.returns-then-is_last-clause-left
returns-then-is_last-clause-left c =
    let a = address c.args.host.0 c.args.endpoint.0 c.args.secondary.0 in
    ap (λ r. option_map (λ (b : Binding). b.count - 1) r)
    (found_is (λ (b : Binding). is_address b.address a) c.args.bindings.now.items c.args.at c.index.result.now c.requires c.index.ensures)
    ∙ ap (λ n. Some (n - 1)) (sym c.count-left.ensures.exact)

pub returns-else-is_last-clause-left : goal.returns-else-is_last-clause-left
returns-else-is_last-clause-left c =
    let a = address c.args.host.0 c.args.endpoint.0 c.args.secondary.0 in
    ap (λ r. option_map (λ (b : Binding). b.count - 1) r)
    (found_is (λ (b : Binding). is_address b.address a) c.args.bindings.now.items c.args.at c.index.result.now c.requires c.index.ensures)
    ∙ ap (λ n. Some (n - 1)) (sym c.count-left.ensures.exact)

pub returns-then-is_last-clause-items : goal.returns-then-is_last-clause-items
returns-then-is_last-clause-items c =
    let none : c.index-2.result.now.count - 1 ≡ 0 = last_count c.index-2.result.now.count c.is_last.result c.is_last.ensures c.if-is_last.true in
    c.remove.ensures.items
    ∙ without_last c.args.bindings.now.items (address c.args.host.0 c.args.endpoint.0 c.args.secondary.0) c.args.at c.index-2.result.now c.requires c.index-2.ensures none

pub returns-else-is_last-clause-items : goal.returns-else-is_last-clause-items
returns-else-is_last-clause-items c =
    let a = address c.args.host.0 c.args.endpoint.0 c.args.secondary.0 in
    let same : c.index.result.now ≡ c.index_mut.result.now =
    found_same (λ (b : Binding). is_address b.address a) c.args.bindings.now.items c.args.at c.index.result.now c.index_mut.result.now c.requires c.index.ensures c.index_mut.ensures.value
    in
    let looked : c.index-2.result.now ≡ c.index_mut.result.now =
    found_same (λ (b : Binding). is_address b.address a) c.args.bindings.now.items c.args.at c.index-2.result.now c.index_mut.result.now c.requires c.index-2.ensures c.index_mut.ensures.value
    in
    let count : c.count-left.result ≡ c.index_mut.result.now.count = c.count-left.ensures.exact ∙ ap (λ (b : Binding). b.count) same in
    let some = c.count-left.ensures.some in
    let not_one = not_last c.index-2.result.now.count c.is_last.result c.is_last.ensures c.if-is_last.false in
    let numbers = ap (λ (b : Binding). b.count) looked in
    let more : 0 < c.index_mut.result.now.count - 1 = omega arith in
    without_one c.args.bindings.now.items a c.args.at c.index_mut.result.now c.lower.new.self
    c.requires c.index_mut.ensures.value more c.lower.ensures
