use Rattle.std.proofs.Common.{arith}
use Rattle.vv_plan.proofs.TasksAfter.{lsn_few}
use Rattle.vv_plan.proofs.accepted.new_number.Goals as goal

pub overflow_add-result : goal.overflow_add-result
overflow_add-result c = omega (arith, c.lsn.ensures.number, lsn_few c.args.tables.now.durable c.lsn.ensures.well)
