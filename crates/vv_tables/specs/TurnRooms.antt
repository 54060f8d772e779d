-- Memory that was taken for a turn of a task.
use Rattle.std.specs.Prelude.{ℕ, ◌≡◌, ◌≤◌, [], IsTrue, IsSome, Some, option_and_then}
use Rattle.vv_flat.specs.State.{task_of}
use Rattle.vv_flat.specs.Chunks.{shape_of_tables}
use Rattle.vv_flat.specs.Space.{running_target}
use Rattle.vv_flat.specs.Changes.{size_of}
use Rattle.vv_pool.specs.FreshPlaces.{FreshPlaces}
use Rattle.vv_vols.specs.Rows.{RoomView}
use Rattle.vv_tables.specs.declared.turn_room.RoomKind.{RoomKind}
use Rattle.vv_tables.specs.declared.turn_room.RoomKind.TheVariants.{Clone, Copy}
use Rattle.vv_tables.specs.Seen.{TablesView}
use Rattle.vv_tables.specs.Rooms.{IsChangeRoomOf}
use Rattle.vv_tables.specs.Turns.{running_source, ends_next}

-- no fresh place was taken yet
abbrev pub IsUnspent : RoomKind → Type 0
IsUnspent (Clone taken) = taken.places ≡ []
IsUnspent (Copy room) = Unit {0}

-- the task runs and is a clone, and there is memory for one fresh place
pub record IsCloneTurnRoom (t : TablesView) (n : ℕ) (taken : FreshPlaces) : Type 0 where
  pub runs : IsSome (option_and_then running_source (task_of t.durable n))
  pub memory : 1 ≤ taken.capacity

-- the task runs and is a copy, and where its next turn is the last there is memory for changes of its whole target
pub record IsCopyTurnRoom (t : TablesView) (n : ℕ) (room : RoomView) : Type 0 where
  pub target : ℕ
  pub runs : option_and_then running_target (task_of t.durable n) ≡ Some target
  pub change : IsTrue (ends_next t.durable.tasks n) → IsChangeRoomOf t target 0 (size_of (shape_of_tables t.durable) target) room

-- memory for a turn of a task that runs
abbrev pub IsTurnRoom : TablesView → ℕ → RoomKind → Type 0
IsTurnRoom t n (Clone taken) = IsCloneTurnRoom t n taken
IsTurnRoom t n (Copy room) = IsCopyTurnRoom t n room
