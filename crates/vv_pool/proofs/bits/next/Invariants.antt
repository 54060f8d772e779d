use Rattle.std.proofs.Common.{◌/◌, ◌≤◌, length, ◌-◌}
use Rattle.vv_pool.specs.Bits.{NoBits}
use Rattle.vv_pool.proofs.bits.next.Given as goal

abbrev pub invariant-loop-from : goal.invariant-loop-from
invariant-loop-from l = record {
  later : l.fn.from ≤ l.from;
  none : NoBits l.words l.fn.from l.from;
}

abbrev pub decreases-loop-from : goal.decreases-loop-from
decreases-loop-from l = length l.words - l.from / 64
