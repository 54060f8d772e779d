use Rattle.std.proofs.Common.{◌≡◌, take}
use Rattle.vv_restore.proofs.heads.copy_pairs.Given as goal

abbrev pub invariant-loop-key : goal.invariant-loop-key
invariant-loop-key l = l.pairs ≡ take l.key-index l.rows
