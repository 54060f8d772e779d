use Rattle.vv_flat.specs.State.{empty_volatile}
use Rattle.vv_flat.specs.Chunks.{shape_of_tables}
use Rattle.vv_event.specs.Events.{change_of}
use Rattle.vv_judge.specs.Seen.{seen_refusal}
use Rattle.vv_plan.specs.Plans.{plain_change, with_volatile}
use Rattle.vv_profile.specs.Known.{all_known}
use Rattle.vv_core.proofs.DeedPlans.{settled_call, settled_fault, accepted_alone}
use Rattle.vv_core.proofs.PlainPlans.{is_there, plain_refused, plain_nothing, plain_journaled}
use Rattle.vv_core.proofs.PlainRows.{formed_change, few_needs, takes_none}
use Rattle.vv_core.proofs.planning_changes.plan_event.Goals as goal

pub verdict_on-requires : goal.verdict_on-requires
verdict_on-requires g c =
    few_needs (change_of c.args.event)
    (formed_change (with_volatile (shape_of_tables c.args.tables.now.durable) empty_volatile) c.args.call.now (change_of c.args.event) c.requires.formed (c.requires.asked empty_volatile))

pub has_forms-requires-clause-formed : goal.has_forms-requires-clause-formed
has_forms-requires-clause-formed g c =
    formed_change (with_volatile (shape_of_tables c.args.tables.now.durable) empty_volatile) c.args.call.now (change_of c.args.event) c.requires.formed (c.requires.asked empty_volatile)

pub has_forms-requires-clause-accepted : goal.has_forms-requires-clause-accepted
has_forms-requires-clause-accepted g c =
    accepted_alone (all_known c.args.capabilities.now) (shape_of_tables c.args.tables.now.durable) (change_of c.args.event) c.in-Accept.ensures.verdict

pub is_placed-requires-clause-accepted : goal.is_placed-requires-clause-accepted
is_placed-requires-clause-accepted g c =
    accepted_alone (all_known c.args.capabilities.now) (shape_of_tables c.args.tables.now.durable) (change_of c.args.event) c.in-Accept.ensures.verdict

pub is_placed-requires-clause-none : goal.is_placed-requires-clause-none
is_placed-requires-clause-none g c =
    (takes_none c.args.tables.now.durable c.args.event
    (formed_change (with_volatile (shape_of_tables c.args.tables.now.durable) empty_volatile) c.args.call.now (change_of c.args.event) c.requires.formed (c.requires.asked empty_volatile))).none

pub is_placed-requires-clause-places : goal.is_placed-requires-clause-places
is_placed-requires-clause-places g c =
    (takes_none c.args.tables.now.durable c.args.event
    (formed_change (with_volatile (shape_of_tables c.args.tables.now.durable) empty_volatile) c.args.call.now (change_of c.args.event) c.requires.formed (c.requires.asked empty_volatile))).places

pub is_placed-requires-clause-indexes : goal.is_placed-requires-clause-indexes
is_placed-requires-clause-indexes g c =
    (takes_none c.args.tables.now.durable c.args.event
    (formed_change (with_volatile (shape_of_tables c.args.tables.now.durable) empty_volatile) c.args.call.now (change_of c.args.event) c.requires.formed (c.requires.asked empty_volatile))).indexes

pub reply_to_nothing-requires : goal.reply_to_nothing-requires
reply_to_nothing-requires g c v = is_there (change_of c.args.event) (plain_change (with_volatile (shape_of_tables c.args.tables.now.durable) v) c.args.call.now) (c.requires.asked v)

pub reply_to_change-requires : goal.reply_to_change-requires
reply_to_change-requires g c v = is_there (change_of c.args.event) (plain_change (with_volatile (shape_of_tables c.args.tables.now.durable) v) c.args.call.now) (c.requires.asked v)

pub returns-in-Refuse-clause-planned : goal.returns-in-Refuse-clause-planned
returns-in-Refuse-clause-planned g c v =
    settled_call (all_known c.args.capabilities.now) (record { durable = c.args.tables.now.durable; volatile = v }) c.args.call.now c.told_to_call.result
    (plain_refused (all_known c.args.capabilities.now) c.args.tables.now.durable v c.args.call.now (change_of c.args.event) (c.requires.asked v) (seen_refusal c.in-Refuse.refusal) c.told_to_call.result
    c.in-Refuse.ensures.verdict c.told_to_call.ensures) c.settle.result c.settle.ensures.planned

pub returns-in-Refuse-clause-refused : goal.returns-in-Refuse-clause-refused
returns-in-Refuse-clause-refused g c v =
    settled_fault (all_known c.args.capabilities.now) (record { durable = c.args.tables.now.durable; volatile = v }) c.args.call.now c.told_to_call.result
    (plain_refused (all_known c.args.capabilities.now) c.args.tables.now.durable v c.args.call.now (change_of c.args.event) (c.requires.asked v) (seen_refusal c.in-Refuse.refusal) c.told_to_call.result
    c.in-Refuse.ensures.verdict c.told_to_call.ensures) c.settle.result c.settle.ensures.refused

pub returns-in-Nothing-clause-planned : goal.returns-in-Nothing-clause-planned
returns-in-Nothing-clause-planned g c v =
    settled_call (all_known c.args.capabilities.now) (record { durable = c.args.tables.now.durable; volatile = v }) c.args.call.now c.reply_to_nothing.result
    (plain_nothing (all_known c.args.capabilities.now) c.args.tables.now.durable v c.args.call.now (change_of c.args.event) (c.requires.asked v) c.reply_to_nothing.result
    c.in-Nothing.ensures.verdict (c.reply_to_nothing.ensures v)) c.settle-in-Nothing.result c.settle-in-Nothing.ensures.planned

pub returns-in-Nothing-clause-refused : goal.returns-in-Nothing-clause-refused
returns-in-Nothing-clause-refused g c v =
    settled_fault (all_known c.args.capabilities.now) (record { durable = c.args.tables.now.durable; volatile = v }) c.args.call.now c.reply_to_nothing.result
    (plain_nothing (all_known c.args.capabilities.now) c.args.tables.now.durable v c.args.call.now (change_of c.args.event) (c.requires.asked v) c.reply_to_nothing.result
    c.in-Nothing.ensures.verdict (c.reply_to_nothing.ensures v)) c.settle-in-Nothing.result c.settle-in-Nothing.ensures.refused

pub returns-in-Accept-clause-planned : goal.returns-in-Accept-clause-planned
returns-in-Accept-clause-planned g c v =
    plain_journaled (all_known c.args.capabilities.now) c.args.tables.now.durable v c.args.call.now (change_of c.args.event) (c.requires.asked v) c.args.event c.reply_to_change.result
    (formed_change (with_volatile (shape_of_tables c.args.tables.now.durable) v) c.args.call.now (change_of c.args.event) c.requires.formed (c.requires.asked v))
    c.is_placed.ensures c.in-Accept.ensures.verdict (c.reply_to_change.ensures v)
