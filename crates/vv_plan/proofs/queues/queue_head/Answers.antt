use Rattle.vv_plan.proofs.QueueRows.{no_head}
use Rattle.vv_plan.proofs.queues.queue_head.Goals as goal

pub returns-in-None : goal.returns-in-None
returns-in-None c attentions = no_head c.args.queues.now c.args.host.0 attentions c.in-None.ensures
