use Rattle.std.proofs.Common.{◌≡◌, ◌*◌, ◌/◌, slice_index, sym, ap, ◌∙◌, arith}
use Rattle.vv_map.specs.Pages.{page_at}
use Rattle.vv_entries.specs.Entries.{EntriesState}
use Rattle.vv_entries.proofs.PageCut.{page_of_list}
use Rattle.vv_entries.proofs.entry_store.EntryStore.page.Goals as goal

pub returns : goal.returns
returns c =
    let map = c.args.map.now in
    let at = c.args.at in
    let size = c.requires.of.size in
    let within = c.requires.within in
    let place : (64 * at) / 64 ≡ at = omega arith in
    c.page.ensures ∙ ap (λ k. page_at c.self.inside.store (slice_index map.numbers k)) place
    ∙ ap (λ (s : EntriesState). page_at s.store (slice_index map.numbers at)) c.self.view_is
    ∙ sym (page_of_list c.args.self.now.store map at c.requires.of (omega arith))
