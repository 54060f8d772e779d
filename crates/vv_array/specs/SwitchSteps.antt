-- What a step of a switch says where an array is up: it stays up, and each image that a crash leaves during the step stands
-- for it.
use Rattle.std.specs.Prelude.{◌≡◌, ℕ, List, take, Option, IfSome}
use Rattle.vv_flat.specs.State.{Durable, Array}
use Rattle.vv_flat.specs.Chunks.{Entry, ChunkValue}
use Rattle.vv_disk.specs.Images.{LeavesOnly}
use Rattle.vv_area.specs.Spelling.{area_spelling}
use Rattle.vv_journal.specs.Calls.{JournalState}
use Rattle.vv_journal.specs.Switches.{SwitchingState, other_half, HasTables}
use Rattle.vv_array.specs.Standing.{UpOn, StandsKept}

-- It is a switch from the half of this journal to the other one.
abbrev pub IsSwitchOf : JournalState → SwitchingState → Type 0
IsSwitchOf journal switching =
    switching ≡ record { geometry = journal.geometry; half = other_half journal.half; done = switching.done; len = switching.len }

-- The other half has the first bytes of the area of these tables: as many as the switch has written.
abbrev pub HasFirst : SwitchingState → Durable Entry → Option (List ℕ) → Type 0
HasFirst switching d told = IfSome told (HasTables switching (take switching.done (area_spelling 2 d)))

-- An array with this journal and these tables, that stood for a flat array on the old disk, stands for it on the new one, and
-- so did it at each moment between.
pub record KeepsUp {D : Type 0} (content : D → Option (List ℕ)) (images : D → List ℕ → Type 0) (moment : D → ℕ) (left_since : D → ℕ → List ℕ → Type 0)
    (old new : D) (journal : JournalState) (a : Array Entry) (m : Array ChunkValue) : Type 0 where
  pub up : UpOn journal a (content new) (images new) m
  pub left : LeavesOnly moment left_since old new (StandsKept m)
