use Rattle.std.proofs.Common.{ℕ, ◌≡◌, List, [], vec_capacity, subst, arith}
use Rattle.std.proofs.lemmas.List.{nil_from_length}
use Rattle.vv_map.specs.Pages.{Appends}
use Rattle.vv_map.proofs.MapLemmas.{list_of-made, is_map-made}
use Rattle.vv_map.proofs.page_store.PageStore.make.Given.{Over}
use Rattle.vv_map.proofs.page_store.PageStore.make.Goals as goal
use Rattle.vv_map.proofs.page_store.PageStore.make.Goals.{After-append_pages}

added : (g : Over) (c : After-append_pages g) → Appends c.args.self.now c.append_pages.new.self [] c.append_pages.new.numbers.items c.args.n c.args.entry
added g c =
    let none : c.take_list-numbers.result.numbers.items ≡ [] = nil_from_length c.take_list-numbers.result.numbers.items (omega (arith, c.take_list-numbers.result.no_number, c.take_list-numbers.result.numbers.ok.0)) in
    subst (λ (xs : List ℕ). Appends c.args.self.now c.append_pages.new.self xs c.append_pages.new.numbers.items c.args.n c.args.entry) none c.append_pages.ensures.added

pub returns-clause-list : goal.returns-clause-list
returns-clause-list g c = let before = (goal.at.returns-clause-list g c).After-append_pages in
    list_of-made c.args.self.now c.append_pages.new.self c.append_pages.new.numbers.items c.args.n c.args.entry (added g before) c.append_pages.ensures.size

pub returns-clause-of : goal.returns-clause-of
returns-clause-of g c = let before = (goal.at.returns-clause-of g c).After-append_pages in
    is_map-made c.args.self.now c.append_pages.new.self c.append_pages.new.numbers.items c.args.n c.args.entry (added g before) c.append_pages.ensures.size (vec_capacity c.append_pages.new.numbers)
