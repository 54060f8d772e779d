use Rattle.std.proofs.Common.{◌≡◌, ◌≤◌, ◌+◌, ◌-◌, ◌*◌, ◌++◌, map, take, length}
use Rattle.vv_reply.specs.Objects.{separated}
use Rattle.vv_reply.specs.Values.{pair}
use Rattle.vv_reply.proofs.buffer.ReplyBuffer.pair_items.Given as goal

abbrev pub invariant-loop-key : goal.invariant-loop-key
invariant-loop-key l = record {
  text : l.self ≡ l.fn.self ++ separated (map pair (take l.i l.pairs));
  size : length l.self ≤ length l.fn.self + 256 * l.i;
  within : l.i ≤ length l.pairs;
}

abbrev pub decreases-loop-key : goal.decreases-loop-key
decreases-loop-key l = length l.pairs - l.i
