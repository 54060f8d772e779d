use Rattle.std.proofs.Common.{arith}
use Rattle.vv_reply.specs.Values.{need}
use Rattle.vv_reply.proofs.Joining.{listed_more, front_count}
use Rattle.vv_reply.proofs.buffer.ReplyBuffer.need_items.Goals as goal

pub loop-i-preserved : goal.loop-i-preserved
loop-i-preserved c = record {
  text = listed_more need c.args.self.now c.loop-i.self c.comma_behind.new.self c.need.new.self c.args.needs.now c.loop-i.i c.index-needs-i.result (omega arith) c.index-needs-i.is
      (front_count need c.args.needs.now c.loop-i.i (omega arith)) c.loop-i.invariant.text c.comma_behind.ensures.text c.need.ensures.text;
  size = omega arith;
}
