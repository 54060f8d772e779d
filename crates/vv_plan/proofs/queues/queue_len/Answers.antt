use Rattle.std.proofs.Common.{length, ap}
use Rattle.vv_plan.proofs.QueueRows.{no_commands}
use Rattle.vv_plan.proofs.queues.queue_len.Goals as goal

pub returns-in-None-clause-exact : goal.returns-in-None-clause-exact
returns-in-None-clause-exact c = ap length (no_commands c.args.queues.now c.args.host.0 c.in-None.ensures)
