use Rattle.std.proofs.Common.{refl, ap}
use Rattle.vv_flat.specs.Chunks.{shape_of_tables}
use Rattle.vv_calls.specs.declared.call.Call.TheVariants as call
use Rattle.vv_meaning.specs.Commands.{command_of, commanded}
use Rattle.vv_plan.specs.SeenArrays.{seen_array}
use Rattle.vv_profile.specs.Known.{all_known}
use Rattle.vv_core.specs.Plans.{settled_reply}
use Rattle.vv_core.proofs.CommandPlans.{at_once, submitted_deed}
use Rattle.vv_core.proofs.DeedPlans.{planned_call, refused_call, settled_call, settled_fault, call_alike, fault_alike}
use Rattle.vv_core.proofs.planning.plan_call.Goals as goal

pub returns-in-Scsi-clause-planned : goal.returns-in-Scsi-clause-planned
returns-in-Scsi-clause-planned g c =
    let command = c.in-Scsi.command in
    let v = c.args.waiting.now in
    call_alike (all_known c.args.capabilities.now) (record { durable = c.args.tables.now.durable; volatile = c.args.waiting.now }) c.args.call.now (call.Scsi command) c.in-Scsi.is c.plan_command.result
    (planned_call (all_known c.args.capabilities.now) (record { durable = c.args.tables.now.durable; volatile = v }) (call.Scsi command)
    (commanded (seen_array c.args.tables.now v.queues c.attentions.result.now) (command_of command)).deed command.payload
    (at_once c.args.tables.now v c.attentions.result.now command c.attentions.ensures) refl
    c.plan_command.result (c.plan_command.ensures.planned v.queues))

pub returns-in-Scsi-clause-refused : goal.returns-in-Scsi-clause-refused
returns-in-Scsi-clause-refused g c =
    let command = c.in-Scsi.command in
    let v = c.args.waiting.now in
    fault_alike (all_known c.args.capabilities.now) (record { durable = c.args.tables.now.durable; volatile = c.args.waiting.now }) c.args.call.now (call.Scsi command) c.in-Scsi.is c.plan_command.result
    (refused_call (all_known c.args.capabilities.now) (record { durable = c.args.tables.now.durable; volatile = v }) (call.Scsi command)
    (commanded (seen_array c.args.tables.now v.queues c.attentions.result.now) (command_of command)).deed
    (at_once c.args.tables.now v c.attentions.result.now command c.attentions.ensures)
    c.plan_command.result (c.plan_command.ensures.refused v.queues))

pub returns-in-Submit-clause-planned : goal.returns-in-Submit-clause-planned
returns-in-Submit-clause-planned g c =
    let command = c.in-Submit.command in
    let v = c.args.waiting.now in
    let d = shape_of_tables c.args.tables.now.durable in
    call_alike (all_known c.args.capabilities.now) (record { durable = c.args.tables.now.durable; volatile = c.args.waiting.now }) c.args.call.now (call.Submit command) c.in-Submit.is c.settle.result
    (settled_call (all_known c.args.capabilities.now) (record { durable = c.args.tables.now.durable; volatile = v }) (call.Submit command) c.queued.result.reply
    (ap (settled_reply (all_known c.args.capabilities.now) d) (submitted_deed d v c.queues.result.now command c.queued.result c.queues.ensures (c.queued.ensures d v.attentions)))
    c.settle.result c.settle.ensures.planned)

pub returns-in-Submit-clause-refused : goal.returns-in-Submit-clause-refused
returns-in-Submit-clause-refused g c =
    let command = c.in-Submit.command in
    let v = c.args.waiting.now in
    let d = shape_of_tables c.args.tables.now.durable in
    fault_alike (all_known c.args.capabilities.now) (record { durable = c.args.tables.now.durable; volatile = c.args.waiting.now }) c.args.call.now (call.Submit command) c.in-Submit.is c.settle.result
    (settled_fault (all_known c.args.capabilities.now) (record { durable = c.args.tables.now.durable; volatile = v }) (call.Submit command) c.queued.result.reply
    (ap (settled_reply (all_known c.args.capabilities.now) d) (submitted_deed d v c.queues.result.now command c.queued.result c.queues.ensures (c.queued.ensures d v.attentions)))
    c.settle.result c.settle.ensures.refused)

pub returns-in-Turn-clause-planned : goal.returns-in-Turn-clause-planned
returns-in-Turn-clause-planned g c =
    call_alike (all_known c.args.capabilities.now) (record { durable = c.args.tables.now.durable; volatile = c.args.waiting.now }) c.args.call.now (call.Turn c.in-Turn.task) c.in-Turn.is c.plan_turn.result (c.plan_turn.ensures.planned c.args.waiting.now)

pub returns-in-Turn-clause-refused : goal.returns-in-Turn-clause-refused
returns-in-Turn-clause-refused g c =
    fault_alike (all_known c.args.capabilities.now) (record { durable = c.args.tables.now.durable; volatile = c.args.waiting.now }) c.args.call.now (call.Turn c.in-Turn.task) c.in-Turn.is c.plan_turn.result (c.plan_turn.ensures.refused c.args.waiting.now)

pub returns-in_default : goal.returns-in_default
returns-in_default g c = record { planned = c.plan_plain.ensures.planned c.args.waiting.now; refused = c.plan_plain.ensures.refused c.args.waiting.now }
