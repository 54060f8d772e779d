use Rattle.std.proofs.Common.{◌∙◌}
use Rattle.vv_flat.specs.Chunks.{shape_of_tables}
use Rattle.vv_plan.specs.Plans.{with_volatile}
use Rattle.vv_plan.proofs.ReplyRows.{nothing_same}
use Rattle.vv_plan.proofs.replies.nothing_reply.Goals as goal

pub returns-in_default : goal.returns-in_default
returns-in_default c v =
    c.accepted_reply.ensures v ∙ nothing_same (with_volatile (shape_of_tables c.args.tables.now.durable) v) c.args.call.now c.in_default.not-Turn
