use Rattle.std.proofs.Common.{ℕ, ◌≡◌, ◌+◌, ◌-◌, ◌*◌, ◌++◌, min, List, length, replicate, vec_capacity, ap, subst, ◌∙◌, arith}
use Rattle.std.proofs.lemmas.List.{append_assoc, replicate-append-replicate}
use Rattle.vv_map.specs.Pages.{StoreState, Appends, last_filled, list_of}
use Rattle.vv_map.proofs.GrowLemmas.{list_of-filled, is_map-filled, list_of-grown, is_map-grown}
use Rattle.vv_map.proofs.page_store.PageStore.grow.Given.{Over}
use Rattle.vv_map.proofs.page_store.PageStore.grow.Goals as goal
use Rattle.vv_map.proofs.page_store.PageStore.grow.Goals.{After-append_pages}

-- the pages that were added, to the store with the last page filled up
added : (g : Over) (c : After-append_pages g) → Appends (last_filled c.args.self.now c.args.map.now c.args.n c.args.entry) c.append_pages.new.self c.args.map.now.numbers c.append_pages.new.numbers.items c.args.n c.args.entry
added g c =
    let numbers : c.with_numbers-numbers.result.items ≡ c.args.map.now.numbers = c.with_numbers-numbers.ensures.items ∙ c.deref.ensures.value ∙ ap (λ m. m.numbers) c.map.view_is in
    subst (λ (s : StoreState g.row.E.Denot). Appends s c.append_pages.new.self c.args.map.now.numbers c.append_pages.new.numbers.items c.args.n c.args.entry) c.fill_last.ensures.filled
    (subst (λ (ns : List ℕ). Appends c.fill_last.new.self c.append_pages.new.self ns c.append_pages.new.numbers.items c.args.n c.args.entry) numbers c.append_pages.ensures.added)

pub returns-clause-list : goal.returns-clause-list
returns-clause-list g c =
    let before = (goal.at.returns-clause-list g c).After-append_pages in
    let store = c.args.self.now in
    let map = c.args.map.now in
    let n = c.args.n in
    let entry = c.args.entry in
    let some = min n (64 * length map.numbers) in
    let of = is_map-filled store map n entry c.requires.of c.requires.more c.fill_last.ensures.page in
    let both : some - map.len + (n - some) ≡ n - map.len = omega (arith, c.requires.of.size, c.requires.more) in
    list_of-grown (last_filled store map n entry) c.append_pages.new.self map c.append_pages.new.numbers.items n entry of (added g before) c.append_pages.ensures.size
    ∙ ap (λ es. es ++ replicate (n - some) entry) (list_of-filled store map n entry c.requires.of c.requires.more c.fill_last.ensures.page)
    ∙ append_assoc (list_of store map) (replicate (some - map.len) entry) (replicate (n - some) entry)
    ∙ ap (λ es. list_of store map ++ es) (replicate-append-replicate (some - map.len) (n - some) entry ∙ ap (λ k. replicate k entry) both)

pub returns-clause-of : goal.returns-clause-of
returns-clause-of g c =
    let before = (goal.at.returns-clause-of g c).After-append_pages in
    let store = c.args.self.now in
    let map = c.args.map.now in
    let n = c.args.n in
    let entry = c.args.entry in
    is_map-grown (last_filled store map n entry) c.append_pages.new.self map c.append_pages.new.numbers.items n entry
    (is_map-filled store map n entry c.requires.of c.requires.more c.fill_last.ensures.page) (added g before) c.append_pages.ensures.size (vec_capacity c.append_pages.new.numbers)
