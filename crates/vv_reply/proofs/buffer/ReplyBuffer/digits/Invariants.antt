use Rattle.std.proofs.Common.{◌≡◌, ◌+◌, ◌++◌, map, take, length}
use Rattle.vv_reply.specs.Values.{bit_digit}
use Rattle.vv_reply.proofs.buffer.ReplyBuffer.digits.Given as goal

abbrev pub invariant-loop-bit : goal.invariant-loop-bit
invariant-loop-bit l = record {
  text : l.self ≡ l.fn.self ++ map bit_digit (take l.bit-index l.bits);
  size : length l.self ≡ length l.fn.self + l.bit-index;
}
