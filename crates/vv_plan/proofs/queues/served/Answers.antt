use Rattle.vv_flat.specs.Volatile.{head_taken}
use Rattle.vv_meaning.specs.Commands.{command_of}
use Rattle.vv_plan.specs.SeenArrays.{seen_volatile, seen_array}
use Rattle.vv_plan.specs.SeenQueues.{seen_queues}
use Rattle.vv_plan.proofs.QueueRows.{served_some, served_none}
use Rattle.vv_plan.proofs.queues.served.Goals as goal

pub returns-in_ok-commanded-in-Some : goal.returns-in_ok-commanded-in-Some
returns-in_ok-commanded-in-Some c =
    let queues = seen_queues c.args.queues.now in
    let rest = head_taken (seen_volatile queues c.args.attentions.now) c.args.host.0 in
    served_some (seen_array c.args.tables.now queues c.args.attentions.now) c.args.host.0 (command_of c.in-Some.command.now) c.in_ok-commanded-in-Some.field-0
    (c.in-Some.ensures c.args.attentions.now) (c.in_ok-commanded-in-Some.ensures.ask rest.queues)

pub returns-in-None : goal.returns-in-None
returns-in-None c =
    served_none (seen_array c.args.tables.now (seen_queues c.args.queues.now) c.args.attentions.now) c.args.host.0 (c.in-None.ensures c.args.attentions.now)
