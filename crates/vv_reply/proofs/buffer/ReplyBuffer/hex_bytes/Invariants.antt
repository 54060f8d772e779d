use Rattle.std.proofs.Common.{◌≡◌, ◌+◌, ◌*◌, ◌++◌, take, length}
use Rattle.vv_reply.specs.Runs.{hex_texts}
use Rattle.vv_reply.proofs.buffer.ReplyBuffer.hex_bytes.Given as goal

abbrev pub invariant-loop-byte : goal.invariant-loop-byte
invariant-loop-byte l = record {
  text : l.self ≡ l.fn.self ++ hex_texts (take l.byte-index l.bytes);
  size : length l.self ≡ length l.fn.self + 2 * l.byte-index;
}
