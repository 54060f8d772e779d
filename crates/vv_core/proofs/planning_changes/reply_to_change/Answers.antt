use Rattle.vv_flat.specs.State.{empty_volatile}
use Rattle.vv_flat.specs.Chunks.{shape_of_tables}
use Rattle.vv_plan.specs.Plans.{with_volatile}
use Rattle.vv_core.proofs.PlainPlans.{one_is_accepted}
use Rattle.vv_core.proofs.planning_changes.reply_to_change.Goals as goal

pub unreachable-requires : goal.unreachable-requires
unreachable-requires c =
    one_is_accepted (with_volatile (shape_of_tables c.args.tables.now.durable) empty_volatile) c.args.call.now (c.requires empty_volatile) (c.in-None.ensures empty_volatile)
