-- What a call of an array says of its step, and of opening its image again.
use Rattle.std.specs.Prelude.{◌≡◌, ◌≢◌, ℕ, List, Bool, true, false, Option, Some, None, Result, Ok, Err, ◌⊎◌, ⊤}
use Rattle.vv_units.specs.declared.damage.Damage.{Damage}
use Rattle.vv_units.specs.declared.damage.Part.TheVariants.{Gate}
use Rattle.vv_flat.specs.State.{Durable}
use Rattle.vv_flat.specs.Chunks.{Entry}
use Rattle.vv_flat.specs.Profiles.{Capability}
use Rattle.vv_calls.specs.Lines.{line_reading}
use Rattle.vv_calls.specs.declared.call.Call.{Call}
use Rattle.vv_reply.specs.declared.reply.Reply.{Reply}
use Rattle.vv_reply.specs.declared.reply.Reply.TheVariants.{Refused}
use Rattle.vv_reply.specs.declared.reply.Refusal.TheVariants as fault
use Rattle.vv_journal.specs.declared.opening.OpenFault.{OpenFault}
use Rattle.vv_journal.specs.declared.opening.OpenFault.TheVariants as journal
use Rattle.vv_image.specs.Opening.{opened}
use Rattle.vv_meaning.specs.Steps.{State, Step, is_restart, no_memory}
use Rattle.vv_array.specs.Seen.{ArrayView, IsUp, IsDown}

-- A call of a state that is answered so is a step, whatever line is read as the call.
abbrev pub IsStep : List Capability → State → Call → Option ℕ → Reply → State → Type 0
IsStep capabilities old c recovered answer new =
    (line : List ℕ) → line_reading line ≡ Ok c → Step capabilities old line recovered answer new

-- whether a call of an array opens its image again
abbrev pub is_reopening : ArrayView → Call → Bool
is_reopening (IsUp journal core) c = is_restart c
is_reopening (IsDown geometry) c = true

-- whether an array is up
abbrev pub is_up : ArrayView → Bool
is_up (IsUp journal core) = true
is_up (IsDown geometry) = false

-- what is told of an image that is opened again and is no image of an array
abbrev pub damage_of : OpenFault → Reply
damage_of (journal.NotFormatted found) = Refused (fault.Damaged (record { part = Gate; place = 0; found = found }))
damage_of (journal.Damaged damage) = Refused (fault.Damaged damage)
damage_of (journal.Disk cause) = no_memory

-- The disk failed while an image was opened again, or there was no memory: nothing was recovered.
abbrev pub HasFailed : Option ℕ → Reply → Type 0
HasFailed recovered answer =
    (recovered ≡ None)
    × ((answer ≡ Refused fault.ReadFault) ⊎ ((answer ≡ Refused fault.WriteFault) ⊎ (answer ≡ no_memory)))

-- Opening an image again finds this of what is read: the log number of its tables, or the first thing that is wrong with it,
-- unless the disk failed or there was no memory. A reopening may succeed and its call be answered anything.
abbrev pub TellsReopened : Result (Durable Entry) OpenFault → Option ℕ → Reply → Type 0
TellsReopened (Ok tables) recovered answer = (recovered ≡ Some tables.lsn) ⊎ HasFailed recovered answer
TellsReopened (Err found) recovered answer = ((recovered ≡ None) × (answer ≡ damage_of found)) ⊎ HasFailed recovered answer

-- no damage is told
abbrev pub IsUndamaged : Reply → Type 0
IsUndamaged answer = (damage : Damage) → answer ≢ Refused (fault.Damaged damage)
