use Rattle.std.proofs.Common.{length}
use Rattle.vv_map.proofs.tests.count.Given as goal

abbrev pub decreases-loop-entry : goal.decreases-loop-entry
decreases-loop-entry l = length l.ended
