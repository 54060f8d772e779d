use Rattle.std.proofs.Common.{vec_len}
use Rattle.vv_tables.specs.Kept.{lists_of, HoldsEach}
use Rattle.vv_tables.proofs.rows.end_clones.Given as goal

abbrev pub invariant-loop-row : goal.invariant-loop-row
invariant-loop-row l = HoldsEach l.shelf.shelf (lists_of l.clones.items l.copies)

abbrev pub decreases-loop-row : goal.decreases-loop-row
decreases-loop-row l = vec_len l.clones
