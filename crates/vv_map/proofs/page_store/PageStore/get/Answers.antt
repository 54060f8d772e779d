use Rattle.std.proofs.Common.{ℕ, ◌≡◌, ◌<◌, ◌/◌, ◌%◌, List, [], length, slice_get, slice_index, ap, sym, subst, ◌∙◌, arith}
use Rattle.std.proofs.lemmas.List.{get_or_read}
use Rattle.vv_map.specs.Pages.{StoreState, page_at}
use Rattle.vv_map.proofs.MapLemmas.{page_within, place_within, entry_at, number_within}
use Rattle.vv_map.proofs.page_store.PageStore.get.Given.{Over}
use Rattle.vv_map.proofs.page_store.PageStore.get.Goals as goal
use Rattle.vv_map.proofs.page_store.PageStore.get.Goals.{After-self, After-index}

-- the number that was read is the list's
number_is : (g : Over) (c : After-self g) → c.index-number.result.now ≡ slice_index c.args.map.now.numbers (c.args.at / 64)
number_is g c =
    let numbers = ap (λ m. m.numbers) c.map.view_is in
    let within = subst (λ (ns : List ℕ). c.args.at / 64 < length ns) (sym numbers) (page_within c.args.self.now c.args.map.now c.requires.of c.args.at c.requires.within) in
    get_or_read c.map.inside.numbers.items (c.args.at / 64) c.index-number.result.now within c.index-number.ensures 0 ∙ ap (λ ns. slice_index ns (c.args.at / 64)) numbers

pages_within : (g : Over) (c : After-self g) → c.index-number.result.now < length c.self.inside.pages.items
pages_within g c =
    let number = number_is g c in
    let low = number_within c.args.self.now c.args.map.now c.requires.of (c.args.at / 64) (page_within c.args.self.now c.args.map.now c.requires.of c.args.at c.requires.within) in
    let counts = ap (λ (s : StoreState g.row.E.Denot). length s.counts) c.self.view_is in
    omega (arith, low, counts, number, c.self.invariant.same)

pub index-requires : goal.index-requires
index-requires g c = let within = pages_within g c in omega arith

-- the page that was read is the list's
page_is : (g : Over) (c : After-index g) → c.index.result.now ≡ page_at c.args.self.now (slice_index c.args.map.now.numbers (c.args.at / 64))
page_is g c =
    let before = (goal.at.get-requires g c).After-self in
    get_or_read c.self.inside.pages.items c.index-number.result.now c.index.result.now (pages_within g before) c.index.ensures []
    ∙ ap (λ (s : StoreState g.row.E.Denot). page_at s c.index-number.result.now) c.self.view_is
    ∙ ap (page_at c.args.self.now) (number_is g before)

pub get-requires : goal.get-requires
get-requires g c = subst (λ (page : List g.row.E.Denot). c.args.at % 64 < length page) (sym (page_is g c)) (place_within c.args.self.now c.args.map.now c.requires.of c.args.at c.requires.within)

pub returns : goal.returns
returns g c =
    entry_at c.args.self.now c.args.map.now c.requires.of c.args.at c.requires.within
    ∙ ap (λ (page : List g.row.E.Denot). slice_get page (c.args.at % 64)) (sym (page_is g (goal.at.returns g c).After-index))
    ∙ c.get.ensures
