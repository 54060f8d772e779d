use Rattle.std.proofs.Common.{sym, subst}
use Rattle.vv_pool.specs.Pool.{PoolState}
use Rattle.vv_entries.specs.Entries.{IsCounted}
use Rattle.vv_entries.proofs.Awaited.{counted_lowest}
use Rattle.vv_entries.proofs.entry_store.EntryStore.take_reserved.Goals as goal

pub invariant_of-self : goal.invariant_of-self
invariant_of-self c =
    let kept = counted_lowest c.self.inside.store c.self.inside.pool c.args.n c.self.invariant in
    subst (λ (pool : PoolState). IsCounted c.self.inside.store pool) (sym c.take_reserved.ensures.taken)
    (record { tidy = kept.tidy; counted = kept.counted })
