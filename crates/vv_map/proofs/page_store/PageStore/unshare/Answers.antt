use Rattle.std.proofs.Common.{ℕ, ◌≡◌, ◌≢◌, ◌≤◌, ◌<◌, ◌/◌, List, length, slice_index, ap, sym, subst, ◌∙◌, arith}
use Rattle.std.proofs.lemmas.List.{get_or_read}
use Rattle.vv_map.specs.Pages.{StoreState, count_at}
use Rattle.vv_map.proofs.MapLemmas.{page_within, number_within, list_of-unshared, is_map-unshared}
use Rattle.vv_map.proofs.page_store.PageStore.unshare.Given.{Over}
use Rattle.vv_map.proofs.page_store.PageStore.unshare.Goals as goal
use Rattle.vv_map.proofs.page_store.PageStore.unshare.Goals.{After-take_own}

-- the page is named more than once
two : (g : Over) (c : After-take_own g) → 2 ≤ count_at c.args.self.now (slice_index c.args.map.now.numbers (c.args.at / 64))
two g c =
    let store = c.args.self.now in
    let map = c.args.map.now in
    let place = c.args.at / 64 in
    let numbers = ap (λ m. m.numbers) c.map.view_is in
    let low = page_within store map c.requires.of c.args.at c.requires.within in
    let within = subst (λ (ns : List ℕ). place < length ns) (sym numbers) low in
    let x = c.index-number.result.now in
    let number_is : x ≡ slice_index map.numbers place = get_or_read c.map.inside.numbers.items place x within c.index-number.ensures 0 ∙ ap (λ ns. slice_index ns place) numbers in
    let counts = ap (λ (s : StoreState g.row.E.Denot). length s.counts) c.self.view_is in
    let x_within : x < length c.self.inside.counts.items = omega (arith, number_within store map c.requires.of place low, counts, number_is) in
    let count_is : c.index.result.now ≡ count_at store (slice_index map.numbers place) =
    get_or_read c.self.inside.counts.items x c.index.result.now x_within c.index.ensures 0
    ∙ ap (λ (s : StoreState g.row.E.Denot). count_at s x) c.self.view_is ∙ ap (count_at store) number_is in
    let more : count_at store (slice_index map.numbers place) ≢ 1 = λ e. c.if-index-eq1.false (count_is ∙ e) in
    let one = c.requires.of.counted place low in
    omega (arith, more, one)

pub returns-clause-list : goal.returns-clause-list
returns-clause-list g c = list_of-unshared c.args.self.now c.take_own.new.self c.args.map.now c.take_own.new.map _ c.requires.of c.take_own.ensures (two g c) (page_within c.args.self.now c.args.map.now c.requires.of c.args.at c.requires.within)

pub returns-clause-of : goal.returns-clause-of
returns-clause-of g c = is_map-unshared c.args.self.now c.take_own.new.self c.args.map.now c.take_own.new.map _ c.requires.of c.take_own.ensures (two g c) (page_within c.args.self.now c.args.map.now c.requires.of c.args.at c.requires.within)
