use Rattle.std.proofs.Common.{refl, map}
use Rattle.vv_flat.specs.Chunks.{shape_of_tables}
use Rattle.vv_flat.specs.Changes.{Unmap}
use Rattle.vv_event.specs.Events.{change_of, places_of, indexes_of}
use Rattle.vv_flat.specs.Changes.{changed_indexes}
use Rattle.vv_judge.specs.Seen.{seen_refusal}
use Rattle.vv_plan.specs.CommandAsks.{pair_of}
use Rattle.vv_record.specs.declared.record.Event.TheVariants as event
use Rattle.vv_profile.specs.Known.{all_known}
use Rattle.vv_core.proofs.CommandPlans.{told_sense, told_good}
use Rattle.vv_core.proofs.DeedPlans.{accepted_alone}
use Rattle.vv_core.proofs.UnmapPlans.{unmap_wanted, unmap_journaled}
use Rattle.vv_core.proofs.planning_commands.plan_unmap.Goals as goal

pub verdict_on-requires : goal.verdict_on-requires
unfolding change_of
verdict_on-requires g c = refl

pub has_forms-requires-clause-formed : goal.has_forms-requires-clause-formed
unfolding change_of
has_forms-requires-clause-formed g c = c.requires

pub has_forms-requires-clause-accepted : goal.has_forms-requires-clause-accepted
unfolding change_of
has_forms-requires-clause-accepted g c =
    accepted_alone (all_known c.args.capabilities.now) (shape_of_tables c.args.tables.now.durable) (Unmap c.args.volume.0 (map pair_of c.args.ranges)) c.in-Accept.ensures.verdict

pub is_placed-requires-clause-accepted : goal.is_placed-requires-clause-accepted
unfolding change_of
is_placed-requires-clause-accepted g c =
    accepted_alone (all_known c.args.capabilities.now) (shape_of_tables c.args.tables.now.durable) (Unmap c.args.volume.0 (map pair_of c.args.ranges)) c.in-Accept.ensures.verdict

pub is_placed-requires-clause-none : goal.is_placed-requires-clause-none
unfolding change_of changed_indexes
is_placed-requires-clause-none g c = refl

pub is_placed-requires-clause-places : goal.is_placed-requires-clause-places
unfolding places_of
is_placed-requires-clause-places g c = refl

pub is_placed-requires-clause-indexes : goal.is_placed-requires-clause-indexes
unfolding indexes_of
is_placed-requires-clause-indexes g c = refl

pub returns-in-Refuse-clause-planned : goal.returns-in-Refuse-clause-planned
unfolding change_of
returns-in-Refuse-clause-planned g c payload =
    told_sense (all_known c.args.capabilities.now) c.args.tables.now.durable (unmap_wanted c.args.volume.0 (map pair_of c.args.ranges)) c.told_to_command.result
    (seen_refusal c.in-Refuse.refusal) refl c.in-Refuse.ensures.verdict c.told_to_command.ensures

pub returns-in-Nothing-clause-planned : goal.returns-in-Nothing-clause-planned
unfolding change_of
returns-in-Nothing-clause-planned g c payload =
    told_good (all_known c.args.capabilities.now) c.args.tables.now.durable (unmap_wanted c.args.volume.0 (map pair_of c.args.ranges)) c.good.result refl c.in-Nothing.ensures.verdict c.good.ensures

pub returns-in-Accept-clause-planned : goal.returns-in-Accept-clause-planned
unfolding change_of
returns-in-Accept-clause-planned g c payload =
    unmap_journaled (all_known c.args.capabilities.now) c.args.tables.now.durable c.good-in-Accept.result payload (event.Unmap c.args.volume c.args.ranges) c.good-in-Accept.ensures c.args.volume.0 (map pair_of c.args.ranges)
    c.is_placed.ensures c.in-Accept.ensures.verdict
