use Rattle.std.proofs.Common.{ℕ, ◌≡◌, ◌+◌, length}
use Rattle.vv_pool.specs.Pool.{count_of}
use Rattle.vv_entries.specs.Entries.{named}
use Rattle.vv_entries.specs.Changes.{KeepsFresh}
use Rattle.vv_entries.proofs.places.lower_ended.Given as goal

abbrev pub invariant-loop-entry : goal.invariant-loop-entry
invariant-loop-entry l = record {
  counts : (p : ℕ) → count_of l.pool p + named p l.fn.ended ≡ count_of l.fn.pool p + named p l.ended;
  kept : KeepsFresh l.fn.pool l.pool;
}

abbrev pub decreases-loop-entry : goal.decreases-loop-entry
decreases-loop-entry l = length l.ended
