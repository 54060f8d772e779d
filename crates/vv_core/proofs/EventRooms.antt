-- For the room of a call with its event: what is asked of the event, and that its memory can be given back.
use Rattle.std.proofs.Common.{ℕ, ◌≡◌, ◌≤◌, ◌+◌, ◌-◌, true, false, sym, ap, ◌∙◌, arith}
use Rattle.vv_flat.specs.State.{Volatile, Durable, Array}
use Rattle.vv_flat.specs.Chunks.{Entry, shape_of_tables}
use Rattle.vv_flat.specs.Replay.{fits, replayed}
use Rattle.vv_flat.specs.Changes.{attentions_after}
use Rattle.vv_laws.specs.VolatileForm.{has_volatile_form}
use Rattle.vv_flat.specs.Fields.{change_has_forms}
use Rattle.vv_flat.specs.Logs.{has_turn_indexes, record_fits}
use Rattle.vv_flat.proofs.Shares.{and_left, and_right}
use Rattle.vv_calls.specs.declared.call.Call.{Call}
use Rattle.vv_record.specs.declared.record.Event.{Event}
use Rattle.vv_record.specs.declared.record.Event.TheVariants.{MakeContainer, MakeVolume, DeleteVolume, GrowVolume, SetMetadata, Snapshot, FastClone, Revert, Write, Unmap, SetEndpoints, Bind, Unbind, UnbindAll, StartClone, StartCopy, Turn, Cancel}
use Rattle.vv_event.specs.Events.{log_record, change_of, places_of, indexes_of}
use Rattle.vv_meaning.specs.Calls.{asked}
use Rattle.vv_tables.specs.Seen.{TablesView}
use Rattle.vv_plan.specs.Plans.{with_volatile}
use Rattle.vv_change.specs.declared.room.Room.{Room}
use Rattle.vv_change.specs.declared.room.Room.TheVariants as room
use Rattle.vv_change.specs.Rooms as change
use Rattle.vv_change.specs.Rooms.{rows_of}
use Rattle.vv_core.specs.declared.step.WaitingStep.{WaitingStep}
use Rattle.vv_core.specs.Core.{CoreMemory, CoreState, seen_core, passed, applied}
use Rattle.vv_core.specs.Rooms.{CanStep, stepped, RoomState, IsEventRoomFor}
use Rattle.vv_core.proofs.Kept.{replayed_form}
use Rattle.vv_core.proofs.WaitingSteps.{stepped_form}

-- What a record without the mark asks of tables that it fits.

pub event_fits : (d : Durable Entry) (e : Event) → record_fits d (log_record (record { first_after_open = false; event = e })) ≡ true
    → fits d (change_of e) (places_of e) ≡ true
unfolding record_fits
event_fits d e h = and_left (fits d (change_of e) (places_of e)) _ h

pub turn_fits : (d : Durable Entry) (e : Event) → record_fits d (log_record (record { first_after_open = false; event = e })) ≡ true
    → has_turn_indexes d (change_of e) (indexes_of e) ≡ true
unfolding record_fits
turn_fits d e h = and_right (fits d (change_of e) (places_of e)) _ h

-- The rows of an event's memory are among those that the tables have.

rows_by : (r s : Room) (n : ℕ) → r ≡ s → rows_of s ≤ n → rows_of r ≤ n
rows_by r s n is le = rw is le

none_of : (n : ℕ) → 0 ≤ n
none_of n = omega arith

pub rows_within : (t : TablesView) (e : Event) (r : Room) → change.IsRoomFor t e r → rows_of r ≤ t.rooms
rows_within t (MakeContainer quota offers) r h = rows_by r (room.Container h.container) t.rooms h.is (none_of t.rooms)
rows_within t (MakeVolume container vtype chunks needs) r h = rows_by r (room.Volume h.head h.list) t.rooms h.is h.row
rows_within t (DeleteVolume volume) r h = rows_by r room.Without t.rooms h (none_of t.rooms)
rows_within t (GrowVolume volume chunks) r h = rows_by r (room.List h.list) t.rooms h.is h.row
rows_within t (SetMetadata volume key value) r h = rows_by r (room.Pairs h.pairs) t.rooms h.is (none_of t.rooms)
rows_within t (Snapshot volume) r h = rows_by r (room.Copy h.copy) t.rooms h.is h.row
rows_within t (FastClone volume) r h = rows_by r (room.Copy h.copy) t.rooms h.is h.row
rows_within t (Revert volume snapshot) r h = rows_by r (room.List h.list) t.rooms h.is h.row
rows_within t (Write volume first blocks places) r h = rows_by r (room.Write h.write) t.rooms h.is (none_of t.rooms)
rows_within t (Unmap volume ranges) r h = rows_by r (room.Range h.range) t.rooms h.is (none_of t.rooms)
rows_within t (SetEndpoints host endpoints) r h = rows_by r room.Without t.rooms h (none_of t.rooms)
rows_within t (Bind host volume) r h = rows_by r room.Without t.rooms h (none_of t.rooms)
rows_within t (Unbind host endpoint secondary) r h = rows_by r room.Without t.rooms h (none_of t.rooms)
rows_within t (UnbindAll host) r h = rows_by r room.Without t.rooms h (none_of t.rooms)
rows_within t (StartClone volume) r h = rows_by r (room.Clone h.clone) t.rooms h.is h.rows
rows_within t (StartCopy source base target) r h = rows_by r (room.List h.list) t.rooms h.is h.row
rows_within t (Turn task copies) r h = rows_by r (room.Turn h.turn) t.rooms h.is (none_of t.rooms)
rows_within t (Cancel task) r h = rows_by r room.Without t.rooms h (none_of t.rooms)

-- the memory of a core by its tables
abbrev memory_in : TablesView → CoreMemory
memory_in t = record { pages = t.pages; rooms = t.rooms }

-- the room that was taken over tables whose durable part stayed
pub event_room : (t u : TablesView) (v : Volatile) (c : Call) (e : Event) (s : WaitingStep) (r : Room) → u.durable ≡ t.durable
    → CanStep v s → stepped v s ≡ (asked (with_volatile (shape_of_tables t.durable) v) c).volatile
    → record_fits t.durable (log_record (record { first_after_open = false; event = e })) ≡ true → change_has_forms (change_of e) ≡ true
    → change.IsRoomFor u e r → IsEventRoomFor (seen_core u v) c e (record { step = s; change = r })
event_room t u v c e s r same can is fit forms enough = record {
  call = record {
    can = can;
    step = is ∙ ap (λ (d : Durable Entry). (asked (with_volatile (shape_of_tables d) v) c).volatile) (sym same);
    rows = rows_within u e r enough;
  };
  fits = ap (λ (d : Durable Entry). fits d (change_of e) (places_of e)) same ∙ event_fits t.durable e fit;
  forms = forms;
  indexes = ap (λ (d : Durable Entry). has_turn_indexes d (change_of e) (indexes_of e)) same ∙ turn_fits t.durable e fit;
  change = enough;
}

-- the memory that was taken for it, once it is given back
pub memory_back : (t u : TablesView) (r : Room) → u ≡ record t { rooms = t.rooms + rows_of r }
    → record { pages = u.pages; rooms = u.rooms - rows_of r } ≡ memory_in t
memory_back t u r is =
    let back : t.rooms + rows_of r - rows_of r ≡ t.rooms = omega arith in
    ap (λ (x : TablesView). record (memory_in x) { rooms = x.rooms - rows_of r }) is ∙ ap (λ n. record (memory_in t) { rooms = n }) back

-- the room of a core that is seen
pub room_seen : (k core : CoreState) (r s : RoomState) (c : Call) (e : Event) → k ≡ core → r ≡ s → IsEventRoomFor core c e s → IsEventRoomFor k c e r
room_seen k core r s c e same is h = rw (same, is) h

-- What a call makes of a core with its event.
module _ (t : TablesView) (v : Volatile) (c : Call) (e : Event) (s : WaitingStep) (r : Room) (h : IsEventRoomFor (seen_core t v) c e (record { step = s; change = r })) where
  pub applied_form : has_volatile_form (record { durable = t.durable; volatile = v }) ≡ true
      → has_volatile_form (record {
        durable = replayed t.durable (change_of e) (places_of e);
        volatile = record (stepped v s) { attentions = attentions_after t.durable (change_of e) (stepped v s).attentions };
      }) ≡ true
  applied_form form = replayed_form t.durable (stepped v s) (change_of e) (places_of e) h.fits (stepped_form t.durable v s h.call.can form)

  pub applied_is : record {
    durable = replayed t.durable (change_of e) (places_of e);
    volatile = record (stepped v s) { attentions = attentions_after t.durable (change_of e) (stepped v s).attentions };
  } ≡ applied (seen_core t v).array c e
  unfolding applied passed
  applied_is =
      ap {B = Array Entry} (λ (w : Volatile). record {
        durable = replayed t.durable (change_of e) (places_of e);
        volatile = record w { attentions = attentions_after t.durable (change_of e) w.attentions };
      }) h.call.step
