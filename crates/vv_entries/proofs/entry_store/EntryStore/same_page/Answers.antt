use Rattle.std.proofs.Common.{◌≡◌, slice_get, Some, sym, ap, ◌∙◌}
use Rattle.std.proofs.lemmas.Option.{slice_get_within, get_or_from_slice_get, slice_get-get_or, none-some}
use Rattle.vv_map.specs.Pages.{page_at}
use Rattle.vv_entries.proofs.PageCut.{page_of_list}
use Rattle.vv_entries.proofs.entry_store.EntryStore.same_page.Goals as goal

pub returns-in-Some-clause-entries : goal.returns-in-Some-clause-entries
returns-in-Some-clause-entries c = λ yes.
    let store = c.args.self.now.store in
    let map = c.args.map.now in
    let other = c.args.other.now in
    let at = c.args.at in
    let here : slice_get map.numbers at ≡ Some c.in-Some.number = sym c.in-Some.ensures in
    let there = c.names_at.ensures.0 yes in
    page_of_list store map at c.requires.of (slice_get_within map.numbers at c.in-Some.number here)
    ∙ ap (page_at store) (get_or_from_slice_get map.numbers at c.in-Some.number 0 here ∙ sym (get_or_from_slice_get other.numbers at c.in-Some.number 0 there))
    ∙ sym (page_of_list store other at c.requires.of_other (slice_get_within other.numbers at c.in-Some.number there))

pub returns-in-None-clause-page : goal.returns-in-None-clause-page
returns-in-None-clause-page c =
    let map = c.args.map.now in
    (λ yes. absurd (cc), λ both. absurd (none-some _ (c.in-None.ensures ∙ slice_get-get_or map.numbers c.args.at 0 both.0)))
