-- For plans of turns: what a turn asks for, and of the replies to changes that take no place.
use Rattle.std.proofs.Common.{ℕ, ◌≡◌, ◌∙◌, List, [], Some, None, Ok, false, refl, sym, ap}
use Rattle.vv_units.specs.declared.numbers.TaskId.{TaskId}
use Rattle.vv_flat.specs.State.{Volatile, Durable}
use Rattle.vv_flat.specs.Chunks.{Entry, shape_of_tables}
use Rattle.vv_flat.specs.Changes as change
use Rattle.vv_flat.specs.Profiles.{Capability}
use Rattle.vv_flat.specs.Refusals as flat
use Rattle.vv_flat.specs.Refusals.{Refuse, Nothing, Accept}
use Rattle.vv_calls.specs.declared.call.Call.TheVariants as call
use Rattle.vv_record.specs.declared.record.Event.{Event}
use Rattle.vv_reply.specs.declared.reply.Reply.{Reply}
use Rattle.vv_meaning.specs.Asks.{OfImage, AsFault, Wanted, Changes}
use Rattle.vv_meaning.specs.Told.{refused_as}
use Rattle.vv_meaning.specs.Calls.{asked, task_after, task_now}
use Rattle.vv_meaning.specs.Meaning.{verdict_on}
use Rattle.vv_plan.specs.Plans.{with_volatile}
use Rattle.vv_core.specs.Placed.{IsPlacedEvent}
use Rattle.vv_core.specs.declared.planned.Fill.TheVariants as fill
use Rattle.vv_core.specs.declared.planned.Planned.TheVariants as planned
use Rattle.vv_core.specs.Plans.{settled_reply, IsPlannedFor}
use Rattle.vv_core.proofs.DeedPlans.{planned_call, settles_refused, settles_nothing, placed_journal}

abbrev turn_wanted : Durable ℕ → ℕ → Wanted
turn_wanted d task = record {
  change = change.Turn task;
  bytes = OfImage;
  compared = None;
  form = AsFault;
  accepted = task_after d (change.Turn task) task;
  nothing = task_now d task;
}

module _ (capabilities : List Capability) (d : Durable Entry) (v : Volatile) (task : TaskId) where
  turn_deed : (asked (with_volatile (shape_of_tables d) v) (call.Turn task)).deed ≡ Changes (turn_wanted (shape_of_tables d) task.0)
  unfolding asked
  turn_deed = refl

  pub turn_refused : (refusal : flat.Refusal) (answer : Reply) → Refuse refusal ≡ verdict_on capabilities (shape_of_tables d) (change.Turn task.0) → answer ≡ refused_as AsFault refusal
      → settled_reply capabilities (shape_of_tables d) (asked (with_volatile (shape_of_tables d) v) (call.Turn task)).deed ≡ Some answer
  turn_refused refusal answer e is =
      ap (settled_reply capabilities (shape_of_tables d)) turn_deed ∙ settles_refused capabilities d (turn_wanted (shape_of_tables d) task.0) answer refusal e is

  pub turn_nothing : (answer : Reply) → Nothing ≡ verdict_on capabilities (shape_of_tables d) (change.Turn task.0) → answer ≡ task_now (shape_of_tables d) task.0
      → settled_reply capabilities (shape_of_tables d) (asked (with_volatile (shape_of_tables d) v) (call.Turn task)).deed ≡ Some answer
  turn_nothing answer e is =
      ap (settled_reply capabilities (shape_of_tables d)) turn_deed ∙ settles_nothing capabilities d (turn_wanted (shape_of_tables d) task.0) answer e is

  pub turn_journaled : (e : Event) (answer : Reply) → IsPlacedEvent d (change.Turn task.0) e → Accept ≡ verdict_on capabilities (shape_of_tables d) (change.Turn task.0)
      → answer ≡ task_after (shape_of_tables d) (change.Turn task.0) task.0
      → IsPlannedFor capabilities (record { durable = d; volatile = v }) (call.Turn task) (planned.Journal e (fill.Image task) false answer)
  turn_journaled e answer placed accepted is =
      planned_call capabilities (record { durable = d; volatile = v }) (call.Turn task) (Changes (turn_wanted (shape_of_tables d) task.0)) [] (sym turn_deed) refl
      (Ok (planned.Journal e (fill.Image task) false answer))
      (placed_journal capabilities d (turn_wanted (shape_of_tables d) task.0) answer [] e (fill.Image task) false placed accepted is refl refl refl)
