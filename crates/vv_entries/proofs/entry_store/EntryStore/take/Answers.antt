use Rattle.vv_entries.proofs.Awaited.{counted_taken}
use Rattle.vv_entries.proofs.entry_store.EntryStore.take.Goals as goal

pub invariant_of-self : goal.invariant_of-self
invariant_of-self c =
    counted_taken c.self.inside.store c.self.inside.pool c.take.new.self c.args.n c.take.result c.self.invariant c.take.ensures.taken c.take.ensures.err
