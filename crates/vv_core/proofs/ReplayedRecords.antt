-- For replaying a record: from its event to its mark, and what a core is in which nothing waits.
use Rattle.std.proofs.Common.{◌≡◌, ◌&&◌, Bool, true, false, cond, ap, subst, ◌∙◌}
use Rattle.std.specs.Prelude.{Result, Ok, Err}
use Rattle.vv_units.specs.declared.failure.NoMemory.{NoMemory}
use Rattle.vv_flat.specs.State.{Volatile, Durable, Array, empty_volatile}
use Rattle.vv_flat.specs.Chunks.{Entry}
use Rattle.vv_flat.specs.Restart.{restarted, interrupted_durable, interrupted}
use Rattle.vv_flat.specs.Replay.{fits, replayed}
use Rattle.vv_flat.specs.Logs.{record_fits, after_record, has_turn_indexes}
use Rattle.vv_laws.specs.VolatileForm.{has_volatile_form}
use Rattle.vv_record.specs.declared.record.Event.{Event}
use Rattle.vv_event.specs.Events.{log_record, change_of, places_of, indexes_of}
use Rattle.vv_core.specs.declared.replay.Replayed.{Replayed}
use Rattle.vv_core.specs.declared.replay.Replayed.TheVariants as done
use Rattle.vv_core.specs.Replays.{IsReplayed}
use Rattle.vv_core.proofs.Kept.{forgotten_form}

-- a core in which nothing waits has its form
pub form_of_nothing : (d : Durable Entry) (v : Volatile) → v ≡ empty_volatile → has_volatile_form (record { durable = d; volatile = v }) ≡ true
form_of_nothing d v none = ap (λ (w : Volatile). has_volatile_form (record { durable = d; volatile = w })) none ∙ forgotten_form d

-- What a mark asks for, over the array of a core in which nothing waits.

pub nothing_waits : (old a b : Array Entry) (marked : Bool) → a ≡ restarted old → b ≡ cond marked (interrupted a) a → b.volatile ≡ empty_volatile
nothing_waits old a b true restarts is = ap (λ (x : Array Entry). x.volatile) is ∙ ap (λ (x : Array Entry). x.volatile) restarts
nothing_waits old a b false restarts is = ap (λ (x : Array Entry). x.volatile) is ∙ ap (λ (x : Array Entry). x.volatile) restarts

pub tables_before : (old a b : Array Entry) (marked : Bool) → a ≡ restarted old → b ≡ cond marked (interrupted a) a
    → b.durable ≡ cond marked (interrupted_durable old.durable) old.durable
tables_before old a b true restarts is = ap (λ (x : Array Entry). x.durable) is ∙ ap (λ (x : Array Entry). interrupted_durable x.durable) restarts
tables_before old a b false restarts is = ap (λ (x : Array Entry). x.durable) is ∙ ap (λ (x : Array Entry). x.durable) restarts

-- the event of a record was replayed over the tables that its mark leaves
pub marked_replayed : (r : Result Replayed NoMemory) (old middle new : Durable Entry) (marked : Bool) (e : Event)
    → middle ≡ cond marked (interrupted_durable old) old
    → IsReplayed r middle new (log_record (record { first_after_open = false; event = e }))
    → IsReplayed r old new (log_record (record { first_after_open = marked; event = e }))
unfolding record_fits after_record
marked_replayed (Ok done.Applied) old middle new marked e is h = (
  subst (λ (d : Durable Entry). (fits d (change_of e) (places_of e) && has_turn_indexes d (change_of e) (indexes_of e)) ≡ true) is h.0,
  h.1 ∙ ap (λ (d : Durable Entry). replayed d (change_of e) (places_of e)) is,
)
marked_replayed (Ok done.Misfit) old middle new marked e is h =
    subst (λ (d : Durable Entry). (fits d (change_of e) (places_of e) && has_turn_indexes d (change_of e) (indexes_of e)) ≡ false) is h
marked_replayed (Err none) old middle new marked e is h = h

-- an event that fits was done
pub event_applied : (old new : Durable Entry) (e : Event) → record_fits old (log_record (record { first_after_open = false; event = e })) ≡ true
    → new ≡ replayed old (change_of e) (places_of e)
    → IsReplayed (Ok done.Applied) old new (log_record (record { first_after_open = false; event = e }))
unfolding after_record
event_applied old new e fit is = (fit, is)
