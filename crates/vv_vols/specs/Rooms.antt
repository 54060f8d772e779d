-- Rooms that are out at once: what each was taken for, and one word for 'all of them are good'.
use Rattle.std.specs.Prelude.{ℕ, ◌≢◌, ◌≤◌, Bool, true, false, List, count_by}
use Rattle.std.specs.List.{All}
use Rattle.vv_vols.specs.Rows.{ShelfView, RoomView, IsListRoom, IsChangeRoom}

-- what a room was taken for: a new list of so many entries, or changes in a range of a volume
pub data Want : Type 0 where
  NewList : (chunks : ℕ) → Want
  Change : (volume first count : ℕ) → Want

-- a room, and what it was taken for
pub record Given : Type 0 where
  pub want : Want
  pub room : RoomView

abbrev pub for_list : ℕ → RoomView → Given
for_list chunks room = record { want = NewList chunks; room = room }

abbrev pub for_change : ℕ → ℕ → ℕ → RoomView → Given
for_change volume first count room = record { want = Change volume first count; room = room }

-- the room is enough for it
abbrev pub IsGoodFor : ShelfView → Want → RoomView → Type 0
IsGoodFor view (NewList chunks) room = IsListRoom chunks room
IsGoodFor view (Change volume first count) room = IsChangeRoom view volume first count room

abbrev pub is_list : Want → Bool
is_list (NewList chunks) = true
is_list (Change volume first count) = false

-- Each of some rooms is enough for what it was taken for, and there is the memory of a row for each new list.
pub record AreGood (view : ShelfView) (given : List Given) : Type 0 where
  pub each : All (λ (g : Given). IsGoodFor view g.want g.room) given
  pub rows : count_by (λ (g : Given). is_list g.want) given ≤ view.rooms

-- none of some rooms is for changes of this volume
abbrev pub IsOfOthers : ℕ → Want → Type 0
IsOfOthers n (NewList chunks) = Unit {0}
IsOfOthers n (Change volume first count) = volume ≢ n

abbrev pub AreOfOthers : ℕ → List Given → Type 0
AreOfOthers n given = All (λ (g : Given). IsOfOthers n g.want) given
