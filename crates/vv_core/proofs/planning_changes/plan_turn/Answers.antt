use Rattle.std.proofs.Common.{refl, sym}
use Rattle.vv_flat.specs.Chunks.{shape_of_tables}
use Rattle.vv_flat.specs.Changes.{Turn}
use Rattle.vv_calls.specs.declared.call.Call.TheVariants as call
use Rattle.vv_event.specs.Events.{change_of}
use Rattle.vv_judge.specs.Seen.{seen_refusal}
use Rattle.vv_profile.specs.Known.{all_known}
use Rattle.vv_core.proofs.DeedPlans.{settled_call, settled_fault, fault_call, accepted_alone}
use Rattle.vv_core.proofs.TurnPlans.{turn_refused, turn_nothing}
use Rattle.vv_core.proofs.planning_changes.plan_turn.Goals as goal

pub verdict_on-requires : goal.verdict_on-requires
unfolding change_of
verdict_on-requires g c = refl

pub returns-in-Refuse-clause-planned : goal.returns-in-Refuse-clause-planned
unfolding change_of
returns-in-Refuse-clause-planned g c v =
    settled_call (all_known c.args.capabilities.now) (record { durable = c.args.tables.now.durable; volatile = v }) (call.Turn c.args.task) c.told_to_call.result
    (turn_refused (all_known c.args.capabilities.now) c.args.tables.now.durable v c.args.task (seen_refusal c.in-Refuse.refusal) c.told_to_call.result c.in-Refuse.ensures.verdict c.told_to_call.ensures)
    c.settle.result c.settle.ensures.planned

pub returns-in-Refuse-clause-refused : goal.returns-in-Refuse-clause-refused
unfolding change_of
returns-in-Refuse-clause-refused g c v =
    settled_fault (all_known c.args.capabilities.now) (record { durable = c.args.tables.now.durable; volatile = v }) (call.Turn c.args.task) c.told_to_call.result
    (turn_refused (all_known c.args.capabilities.now) c.args.tables.now.durable v c.args.task (seen_refusal c.in-Refuse.refusal) c.told_to_call.result c.in-Refuse.ensures.verdict c.told_to_call.ensures)
    c.settle.result c.settle.ensures.refused

pub returns-in-Nothing-clause-planned : goal.returns-in-Nothing-clause-planned
unfolding change_of
returns-in-Nothing-clause-planned g c v =
    settled_call (all_known c.args.capabilities.now) (record { durable = c.args.tables.now.durable; volatile = v }) (call.Turn c.args.task) c.task_now.result
    (turn_nothing (all_known c.args.capabilities.now) c.args.tables.now.durable v c.args.task c.task_now.result c.in-Nothing.ensures.verdict c.task_now.ensures)
    c.settle-in-Nothing.result c.settle-in-Nothing.ensures.planned

pub returns-in-Nothing-clause-refused : goal.returns-in-Nothing-clause-refused
unfolding change_of
returns-in-Nothing-clause-refused g c v =
    settled_fault (all_known c.args.capabilities.now) (record { durable = c.args.tables.now.durable; volatile = v }) (call.Turn c.args.task) c.task_now.result
    (turn_nothing (all_known c.args.capabilities.now) c.args.tables.now.durable v c.args.task c.task_now.result c.in-Nothing.ensures.verdict c.task_now.ensures)
    c.settle-in-Nothing.result c.settle-in-Nothing.ensures.refused

pub journal_turn-requires : goal.journal_turn-requires
unfolding change_of
journal_turn-requires g c = accepted_alone (all_known c.args.capabilities.now) (shape_of_tables c.args.tables.now.durable) (Turn c.args.task.0) c.in-Accept.ensures.verdict

pub returns-clause-planned : goal.returns-clause-planned
unfolding change_of
returns-clause-planned g c v = c.journal_turn.ensures.planned (all_known c.args.capabilities.now) v (sym c.in-Accept.ensures.verdict)

pub returns-clause-refused : goal.returns-clause-refused
returns-clause-refused g c v =
    fault_call (all_known c.args.capabilities.now) (record { durable = c.args.tables.now.durable; volatile = v }) (call.Turn c.args.task) c.journal_turn.result c.journal_turn.ensures.refused
