use Rattle.std.proofs.Common.{◌≡◌, ◌≤◌, ◌+◌, ◌*◌, ◌++◌, map, take, length}
use Rattle.vv_reply.specs.Objects.{separated}
use Rattle.vv_reply.specs.Values.{need}
use Rattle.vv_reply.proofs.buffer.ReplyBuffer.need_items.Given as goal

abbrev pub invariant-loop-i : goal.invariant-loop-i
invariant-loop-i l = record {
  text : l.self ≡ l.fn.self ++ separated (map need (take l.i l.needs));
  size : length l.self ≤ length l.fn.self + 128 * l.i;
}
