use Rattle.std.proofs.Common.{sym, subst}
use Rattle.vv_entries.specs.declared.entry.Entry.{Entry}
use Rattle.vv_entries.specs.Changes.{IsAwaiting}
use Rattle.vv_entries.proofs.Awaited.{awaiting_unmapped}
use Rattle.vv_entries.proofs.entry_store.EntryStore.unmap.Goals as goal

pub replace-requires-clause-counted : goal.replace-requires-clause-counted
replace-requires-clause-counted g c =
    subst (λ (e : Entry). IsAwaiting c.own_page.new.store c.own_page.new.pool e) (sym c.unmapped.ensures)
    (awaiting_unmapped c.own_page.new.store c.own_page.new.pool c.own_page.ensures.counted)
