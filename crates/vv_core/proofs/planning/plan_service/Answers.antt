use Rattle.std.proofs.Common.{ap}
use Rattle.vv_flat.specs.Chunks.{shape_of_tables}
use Rattle.vv_flat.specs.Volatile.{head_taken}
use Rattle.vv_calls.specs.declared.call.Call.TheVariants as call
use Rattle.vv_meaning.specs.Commands.{command_of, commanded}
use Rattle.vv_plan.specs.SeenArrays.{seen_array}
use Rattle.vv_profile.specs.Known.{all_known}
use Rattle.vv_core.specs.Plans.{settled_reply}
use Rattle.vv_core.proofs.CommandPlans.{served_deed, served_payload, served_nothing}
use Rattle.vv_core.proofs.DeedPlans.{planned_call, refused_call, settled_call, settled_fault}
use Rattle.vv_core.proofs.planning.plan_service.Goals as goal

pub returns-in-Some-clause-planned : goal.returns-in-Some-clause-planned
returns-in-Some-clause-planned g c =
    let command = c.in-Some.command.now in
    let v = c.args.waiting.now in
    let queues = (head_taken v c.args.host.0).queues in
    planned_call (all_known c.args.capabilities.now) (record { durable = c.args.tables.now.durable; volatile = v }) (call.Serve c.args.host)
    (commanded (seen_array c.args.tables.now queues c.attentions.result.now) (command_of command)).deed command.payload
    (served_deed c.args.tables.now v c.args.host c.attentions.result.now command c.attentions.ensures c.in-Some.ensures) (served_payload v c.args.host command c.in-Some.ensures)
    c.plan_command.result (c.plan_command.ensures.planned queues)

pub returns-in-Some-clause-refused : goal.returns-in-Some-clause-refused
returns-in-Some-clause-refused g c =
    let command = c.in-Some.command.now in
    let v = c.args.waiting.now in
    let queues = (head_taken v c.args.host.0).queues in
    refused_call (all_known c.args.capabilities.now) (record { durable = c.args.tables.now.durable; volatile = v }) (call.Serve c.args.host)
    (commanded (seen_array c.args.tables.now queues c.attentions.result.now) (command_of command)).deed
    (served_deed c.args.tables.now v c.args.host c.attentions.result.now command c.attentions.ensures c.in-Some.ensures)
    c.plan_command.result (c.plan_command.ensures.refused queues)

pub returns-in-None-clause-planned : goal.returns-in-None-clause-planned
returns-in-None-clause-planned g c =
    let v = c.args.waiting.now in
    settled_call (all_known c.args.capabilities.now) (record { durable = c.args.tables.now.durable; volatile = v }) (call.Serve c.args.host) _
    (ap (settled_reply (all_known c.args.capabilities.now) (shape_of_tables c.args.tables.now.durable)) (served_nothing (shape_of_tables c.args.tables.now.durable) v c.args.host c.in-None.ensures))
    c.settle.result c.settle.ensures.planned

pub returns-in-None-clause-refused : goal.returns-in-None-clause-refused
returns-in-None-clause-refused g c =
    let v = c.args.waiting.now in
    settled_fault (all_known c.args.capabilities.now) (record { durable = c.args.tables.now.durable; volatile = v }) (call.Serve c.args.host) _
    (ap (settled_reply (all_known c.args.capabilities.now) (shape_of_tables c.args.tables.now.durable)) (served_nothing (shape_of_tables c.args.tables.now.durable) v c.args.host c.in-None.ensures))
    c.settle.result c.settle.ensures.refused
