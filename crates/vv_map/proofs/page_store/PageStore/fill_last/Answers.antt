use Rattle.std.proofs.Common.{ℕ, ◌≡◌, ◌<◌, ◌/◌, List, length, slice_index, ap, sym, subst, ◌∙◌, arith}
use Rattle.std.proofs.lemmas.List.{get_or_read}
use Rattle.vv_map.proofs.MapLemmas.{number_within}
use Rattle.vv_map.proofs.page_store.PageStore.fill_last.Goals as goal

pub grow_page-requires-clause-number : goal.grow_page-requires-clause-number
grow_page-requires-clause-number g c =
    let store = c.args.self.now in
    let map = c.args.map.now in
    let place = c.map.inside.len / 64 in
    let numbers = ap (λ m. m.numbers) c.map.view_is in
    let len = ap (λ m. m.len) c.map.view_is in
    let low : place < length map.numbers = omega (arith, c.requires.of.size, len, c.if-used-eq0.false) in
    let within = subst (λ (ns : List ℕ). place < length ns) (sym numbers) low in
    let number_is : c.index.result.now ≡ slice_index map.numbers place = get_or_read c.map.inside.numbers.items place c.index.result.now within c.index.ensures 0 ∙ ap (λ ns. slice_index ns place) numbers in
    omega (arith, number_is, number_within store map c.requires.of place low)
