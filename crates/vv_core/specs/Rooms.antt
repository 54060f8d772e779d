-- What a call does to queues and attentions once it was asked, and what room for a call is.
use Rattle.std.specs.Prelude.{ℕ, ◌≡◌, ◌≤◌, ◌-◌, IsTrue, IsFalse, ⊤}
use Rattle.vv_flat.specs.State.{Volatile}
use Rattle.vv_flat.specs.Volatile.{is_queue_full, queue_of, submitted, head_taken, without_attention}
use Rattle.vv_bind.specs.Table.{IsHost, address}
use Rattle.vv_calls.specs.declared.call.Call.{Call}
use Rattle.vv_meaning.specs.Commands.{command_of}
use Rattle.vv_meaning.specs.Calls.{asked}
use Rattle.vv_flat.specs.Replay.{fits}
use Rattle.vv_flat.specs.Logs.{has_turn_indexes}
use Rattle.vv_flat.specs.Fields.{change_has_forms}
use Rattle.vv_record.specs.declared.record.Event.{Event}
use Rattle.vv_event.specs.Events.{change_of, places_of, indexes_of}
use Rattle.vv_change.specs.declared.room.Room.{Room as ChangeRoom}
use Rattle.vv_change.specs.Rooms as change
use Rattle.vv_change.specs.Rooms.{rows_of}
use Rattle.vv_core.specs.Core.{CoreMemory, CoreState, tables_in, entry_shape}
use Rattle.vv_core.specs.declared.step.WaitingStep.{WaitingStep}
use Rattle.vv_core.specs.declared.step.WaitingStep.TheVariants as step

-- without the attention at an address
abbrev pub without_at : Volatile → ℕ → ℕ → ℕ → Volatile
without_at v host endpoint secondary =
    record v { attentions = without_attention v.attentions (address host endpoint secondary) }

-- what waits after a step
abbrev pub stepped : Volatile → WaitingStep → Volatile
stepped v step.Stay = v
stepped v (step.Submit c) = submitted v (command_of c)
stepped v (step.Clear host endpoint secondary) = without_at v host.0 endpoint.0 secondary.0
stepped v (step.Take taken) = head_taken v taken.0
stepped v (step.TakeAndClear taken host endpoint secondary) = without_at (head_taken v taken.0) host.0 endpoint.0 secondary.0

-- a step that can be done: a command that is put into a queue has room there, and hosts have numbers of hosts
abbrev pub CanStep : Volatile → WaitingStep → Type 0
CanStep v step.Stay = ⊤
CanStep v (step.Submit c) = IsHost c.host.0 × IsFalse (is_queue_full (queue_of v c.host.0))
CanStep v (step.Clear host endpoint secondary) = ⊤
CanStep v (step.Take taken) = IsHost taken.0
CanStep v (step.TakeAndClear taken host endpoint secondary) = IsHost taken.0

-- Room for a call: the step of what waits, and the memory of its event. Callers hand it on and never look into it.
pub record RoomState : Type 0 where
  pub step : WaitingStep
  pub change : ChangeRoom

-- a core's memory once that of a room is given back: the rows that it has are promised to nobody
abbrev pub given_back : CoreMemory → RoomState → CoreMemory
given_back m room = record m { rooms = m.rooms - rows_of room.change }

-- Room for a call of this core that is not journaled: its step can be done, and is what the call asks.
pub record IsRoomFor (core : CoreState) (c : Call) (room : RoomState) : Type 0 where
  pub can : CanStep core.array.volatile room.step
  pub step : stepped core.array.volatile room.step ≡ (asked (entry_shape core.array) c).volatile
  pub rows : rows_of room.change ≤ core.memory.rooms

-- Room for a call of this core with this event, which serves where the call isn't journaled after all.
pub record IsEventRoomFor (core : CoreState) (c : Call) (e : Event) (room : RoomState) : Type 0 where
  pub call : IsRoomFor core c room
  pub fits : IsTrue (fits core.array.durable (change_of e) (places_of e))
  pub forms : IsTrue (change_has_forms (change_of e))
  pub indexes : IsTrue (has_turn_indexes core.array.durable (change_of e) (indexes_of e))
  pub change : change.IsRoomFor (tables_in core) e room.change
