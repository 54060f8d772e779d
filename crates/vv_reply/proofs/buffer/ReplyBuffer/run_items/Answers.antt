use Rattle.std.proofs.Common.{ℕ, List, arith, refl, ◌∙◌, get_or}
use Rattle.vv_reply.proofs.RunLemmas.{front_run_bound, more_written, last_written, not_empty, empty}
use Rattle.vv_reply.proofs.buffer.ReplyBuffer.run_items.Goals as goal

pub split_at-requires : goal.split_at-requires
split_at-requires c = omega (arith, front_run_bound (get_or c.loop-rest.rest.now 0 0) c.loop-rest.rest.now)

pub loop-rest-preserved-then-not-is_empty : goal.loop-rest-preserved-then-not-is_empty
loop-rest-preserved-then-not-is_empty c =
    let rest : List ℕ = c.loop-rest.rest.now in
    let bound = front_run_bound (get_or rest 0 0) rest in
    record {
      text = more_written c.loop-rest.self c.run.new.self c.put.new.self (get_or rest 0 0) c.run_length-length.result rest c.split_at.result.1.now
          (omega arith) refl c.run_length-length.ensures c.split_at.ensures.back (not_empty c.split_at.result.1.now c.is_empty.result c.is_empty.ensures c.if-not-is_empty.true) c.run.ensures.text c.put.ensures.text ∙ c.loop-rest.invariant.text;
      size = omega (arith, c.loop-rest.invariant.size, c.run.ensures.size, c.put.ensures.size, c.split_at.ensures.back_len);
    }

pub loop-rest-preserved : goal.loop-rest-preserved
loop-rest-preserved c =
    let rest : List ℕ = c.loop-rest.rest.now in
    let bound = front_run_bound (get_or rest 0 0) rest in
    record {
      text = last_written c.loop-rest.self c.run.new.self (get_or rest 0 0) c.run_length-length.result rest c.split_at.result.1.now
          (omega arith) refl c.run_length-length.ensures c.split_at.ensures.back (empty c.split_at.result.1.now c.is_empty.result c.is_empty.ensures c.if-not-is_empty.false) c.run.ensures.text ∙ c.loop-rest.invariant.text;
      size = omega (arith, c.loop-rest.invariant.size, c.run.ensures.size, c.split_at.ensures.back_len);
    }
