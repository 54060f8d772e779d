use Rattle.std.proofs.Common.{ℕ, ◌≡◌, ◌<◌, ◌/◌, ◌%◌, List, length, slice_index, set, ap, sym, subst, ◌∙◌}
use Rattle.std.proofs.lemmas.List.{get_or_read}
use Rattle.vv_map.specs.Pages.{StoreState, IsMapOf, page_at, list_of, with_entries}
use Rattle.vv_map.proofs.MapLemmas.{page_within, list_of-written, is_map-written}
use Rattle.vv_map.proofs.page_store.PageStore.set.Goals as goal

pub returns-clause-list : goal.returns-clause-list
returns-clause-list g c =
    let store = c.args.self.now in
    let map = c.args.map.now in
    let at = c.args.at in
    let e = c.args.entry in
    let numbers = ap (λ m. m.numbers) c.map.view_is in
    let within = subst (λ (ns : List ℕ). at / 64 < length ns) (sym numbers) (page_within store map c.requires.of at c.requires.within) in
    let number_is : c.index-number.result.now ≡ slice_index map.numbers (at / 64) = get_or_read c.map.inside.numbers.items (at / 64) c.index-number.result.now within c.index-number.ensures 0 ∙ ap (λ ns. slice_index ns (at / 64)) numbers in
    ap (λ (s : StoreState g.row.E.Denot). list_of s map) c.write.ensures.written
    ∙ ap (λ n. list_of (with_entries store n (set (page_at store n) (at % 64) e)) map) number_is
    ∙ list_of-written store map c.requires.of at e c.requires.within (subst (λ n. n < length store.pages) number_is c.write.ensures.page)

pub returns-clause-of : goal.returns-clause-of
returns-clause-of g c =
    let store = c.args.self.now in
    let map = c.args.map.now in
    let at = c.args.at in
    subst (λ (s : StoreState g.row.E.Denot). IsMapOf s map) (sym c.write.ensures.written)
    (is_map-written store map c.index-number.result.now (at % 64) c.args.entry c.requires.of c.write.ensures.page)
