use Rattle.std.proofs.Common.{arith}
use Rattle.vv_entries.proofs.Named.{named_in-few}
use Rattle.vv_entries.proofs.writing.await_entry.Goals as goal

pub raise_entry-requires-clause-small : goal.raise_entry-requires-clause-small
raise_entry-requires-clause-small g c = λ p.
    let few = named_in-few c.args.store.now p c.requires.counted.tidy in
    let was = c.requires.counted.counted p in
    omega arith
