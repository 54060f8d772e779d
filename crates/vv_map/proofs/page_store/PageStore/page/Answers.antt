use Rattle.std.proofs.Common.{ℕ, ◌≡◌, ◌<◌, ◌/◌, List, [], length, slice_index, ap, sym, subst, ◌∙◌, arith}
use Rattle.std.proofs.lemmas.List.{get_or_read}
use Rattle.vv_map.specs.Pages.{StoreState, page_at}
use Rattle.vv_map.proofs.MapLemmas.{page_within, number_within}
use Rattle.vv_map.proofs.page_store.PageStore.page.Given.{Over}
use Rattle.vv_map.proofs.page_store.PageStore.page.Goals as goal
use Rattle.vv_map.proofs.page_store.PageStore.page.Goals.{After-self}

-- the number that was read is the list's
number_is : (g : Over) (c : After-self g) → c.index-number.result.now ≡ slice_index c.args.map.now.numbers (c.args.at / 64)
number_is g c =
    let numbers = ap (λ m. m.numbers) c.map.view_is in
    let within = subst (λ (ns : List ℕ). c.args.at / 64 < length ns) (sym numbers) (page_within c.args.self.now c.args.map.now c.requires.of c.args.at c.requires.within) in
    get_or_read c.map.inside.numbers.items (c.args.at / 64) c.index-number.result.now within c.index-number.ensures 0 ∙ ap (λ ns. slice_index ns (c.args.at / 64)) numbers

pages_within : (g : Over) (c : After-self g) → c.index-number.result.now < length c.self.inside.pages.items
pages_within g c =
    let number = number_is g c in
    let low = number_within c.args.self.now c.args.map.now c.requires.of (c.args.at / 64) (page_within c.args.self.now c.args.map.now c.requires.of c.args.at c.requires.within) in
    let counts = ap (λ (s : StoreState g.row.E.Denot). length s.counts) c.self.view_is in
    omega (arith, low, counts, number, c.self.invariant.same)

pub index-requires : goal.index-requires
index-requires g c = let within = pages_within g c in omega arith

pub returns : goal.returns
returns g c =
    c.entries.ensures
    ∙ get_or_read c.self.inside.pages.items c.index-number.result.now c.index.result.now (pages_within g (goal.at.returns g c).After-self) c.index.ensures []
    ∙ ap (λ (s : StoreState g.row.E.Denot). page_at s c.index-number.result.now) c.self.view_is
    ∙ ap (page_at c.args.self.now) (number_is g (goal.at.returns g c).After-self)
