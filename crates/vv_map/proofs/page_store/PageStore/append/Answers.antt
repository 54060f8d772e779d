use Rattle.std.proofs.Common.{ℕ, ◌≡◌, ◌+◌, ◌-◌, ◌*◌, ◌++◌, ◌/◌, min, List, length, replicate, vec_capacity, ap, sym, subst, ◌∙◌, arith}
use Rattle.std.proofs.lemmas.List.{append_assoc, replicate-append-replicate}
use Rattle.vv_map.specs.Rooms.{MapState}
use Rattle.vv_map.specs.Pages.{StoreState, Appends, IsMapOf, last_filled, list_of}
use Rattle.vv_map.proofs.GrowLemmas.{list_of-filled, is_map-filled, list_of-grown, is_map-grown}
use Rattle.vv_map.proofs.page_store.PageStore.append.Given.{Over}
use Rattle.vv_map.proofs.page_store.PageStore.append.Goals as goal
use Rattle.vv_map.proofs.page_store.PageStore.append.Goals.{After-append_pages}

-- the page that was added, if one was, to the store with the last page filled up
added : (g : Over) (c : After-append_pages g) → Appends (last_filled c.args.self.now c.args.map.now (c.args.map.now.len + 1) c.args.entry) c.append_pages.new.self c.args.map.now.numbers c.append_pages.new.numbers.items (c.args.map.now.len + 1) c.args.entry
added g c =
    let numbers : c.map.inside.numbers.items ≡ c.args.map.now.numbers = ap (λ (m : MapState). m.numbers) c.map.view_is in
    let n : c.map.inside.len + 1 ≡ c.args.map.now.len + 1 = ap (λ (m : MapState). m.len + 1) c.map.view_is in
    subst (λ k. Appends (last_filled c.args.self.now c.args.map.now k c.args.entry) c.append_pages.new.self c.args.map.now.numbers c.append_pages.new.numbers.items k c.args.entry) n
    (subst (λ (s : StoreState g.row.E.Denot). Appends s c.append_pages.new.self c.args.map.now.numbers c.append_pages.new.numbers.items (c.map.inside.len + 1) c.args.entry) c.fill_last.ensures.filled
    (subst (λ (ns : List ℕ). Appends c.fill_last.new.self c.append_pages.new.self ns c.append_pages.new.numbers.items (c.map.inside.len + 1) c.args.entry) numbers c.append_pages.ensures.added))

pub returns-clause-added : goal.returns-clause-added
returns-clause-added g c = added g (goal.at.returns-clause-added g c).After-append_pages

pub returns-clause-list : goal.returns-clause-list
returns-clause-list g c =
    let before = (goal.at.returns-clause-list g c).After-append_pages in
    let store = c.args.self.now in
    let map = c.args.map.now in
    let n = map.len + 1 in
    let entry = c.args.entry in
    let some = min n (64 * length map.numbers) in
    let len : c.map.inside.len ≡ map.len = ap (λ (m : MapState). m.len) c.map.view_is in
    let page = c.fill_last.ensures.page in
    let of = is_map-filled store map n entry c.requires.of (omega arith) page in
    let size : length c.append_pages.new.numbers.items ≡ (n + 63) / 64 = omega (arith, c.append_pages.ensures.size) in
    let both : some - map.len + (n - some) ≡ 1 = omega (arith, c.requires.of.size) in
    list_of-grown (last_filled store map n entry) c.append_pages.new.self map c.append_pages.new.numbers.items n entry of (added g before) size
    ∙ ap (λ es. es ++ replicate (n - some) entry) (list_of-filled store map n entry c.requires.of (omega arith) page)
    ∙ append_assoc (list_of store map) (replicate (some - map.len) entry) (replicate (n - some) entry)
    ∙ ap (λ es. list_of store map ++ es) (replicate-append-replicate (some - map.len) (n - some) entry ∙ ap (λ k. replicate k entry) both)

pub returns-clause-of : goal.returns-clause-of
returns-clause-of g c =
    let before = (goal.at.returns-clause-of g c).After-append_pages in
    let store = c.args.self.now in
    let map = c.args.map.now in
    let n = map.len + 1 in
    let entry = c.args.entry in
    let len : map.len + 1 ≡ c.map.inside.len + 1 = ap (λ k. k + 1) (sym (ap (λ (m : MapState). m.len) c.map.view_is)) in
    let size : length c.append_pages.new.numbers.items ≡ (n + 63) / 64 = omega (arith, c.append_pages.ensures.size) in
    subst (λ k. let m : MapState = record { numbers = c.append_pages.new.numbers.items; len = k; memory = vec_capacity c.append_pages.new.numbers } in IsMapOf c.append_pages.new.self m) len
    (is_map-grown (last_filled store map n entry) c.append_pages.new.self map c.append_pages.new.numbers.items n entry
    (is_map-filled store map n entry c.requires.of (omega arith) c.fill_last.ensures.page) (added g before) size (vec_capacity c.append_pages.new.numbers))
