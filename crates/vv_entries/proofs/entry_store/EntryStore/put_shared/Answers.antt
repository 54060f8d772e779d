use Rattle.std.proofs.Common.{ap, arith}
use Rattle.vv_pool.specs.Pool.{count_of}
use Rattle.vv_entries.proofs.entry_store.EntryStore.put_shared.Goals as goal

pub await_entry-requires-clause-named : goal.await_entry-requires-clause-named
await_entry-requires-clause-named g c = λ p h.
    let was = c.requires.counted p h in
    let same = ap (λ s. count_of s.pool p) c.self.view_is in
    let more = c.own_page.ensures.counts p in
    omega arith
