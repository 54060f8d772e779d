use Rattle.std.proofs.Common.{◌≡◌, ◌≤◌, ◌+◌, ◌*◌, ◌++◌, length}
use Rattle.vv_reply.specs.Runs.{runs_of, runs_text}
use Rattle.vv_reply.proofs.buffer.ReplyBuffer.run_items.Given as goal

-- the text so far, and that of what is left
abbrev pub invariant-loop-rest : goal.invariant-loop-rest
invariant-loop-rest l = record {
  text : l.self ++ runs_text (runs_of l.rest) ≡ l.fn.self ++ runs_text (runs_of l.bytes);
  size : length l.self + 9 * length l.rest ≤ length l.fn.self + 9 * length l.bytes;
}

abbrev pub decreases-loop-rest : goal.decreases-loop-rest
decreases-loop-rest l = length l.rest
