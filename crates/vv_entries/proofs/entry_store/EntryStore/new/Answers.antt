use Rattle.std.proofs.Common.{sym, subst, ap, ◌∙◌, ◌≡◌}
use Rattle.vv_map.specs.Pages.{StoreState, extended}
use Rattle.vv_pool.specs.Pool.{PoolState}
use Rattle.vv_entries.specs.declared.entry.Entry.{Entry}
use Rattle.vv_entries.specs.Entries.{IsCounted, empty_entries}
use Rattle.vv_entries.proofs.Started.{counted-empty}
use Rattle.vv_entries.proofs.entry_store.EntryStore.new.Goals as goal

pub invariant_of-result : goal.invariant_of-result
invariant_of-result c =
    let store : c.extend.new.self ≡ (empty_entries c.args.chunks c.args.pages).store = c.in_ok-extend.ensures.ok ∙ ap (λ (s : StoreState Entry). extended s c.args.pages) c.new-store.ensures in
    subst (λ (s : StoreState Entry). IsCounted s c.in_ok-pool.pool) (sym store)
    (subst (λ (p : PoolState). IsCounted (empty_entries c.args.chunks c.args.pages).store p) (sym c.in_ok-pool.ensures)
    (counted-empty c.args.chunks c.args.pages c.requires))
