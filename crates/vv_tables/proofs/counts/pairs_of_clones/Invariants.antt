use Rattle.std.proofs.Common.{◌≡◌, take}
use Rattle.vv_tables.specs.Counts.{clone_pairs}
use Rattle.vv_tables.proofs.counts.pairs_of_clones.Given as goal

abbrev pub invariant-loop-row : goal.invariant-loop-row
invariant-loop-row l = l.pairs ≡ clone_pairs (take l.row-index l.clones)
