-- The exit codes of the program, and which statuses end it ahead of the script.
use Rattle.std.specs.Prelude.{◌≡◌, ◌≢◌, ℕ, List, Bool, true, false, Option, Some, None, Err, IfSome, ⊤, ◌⊎◌}
use Rattle.vv_units.specs.Causes.{Rose}
use Rattle.vv_units.specs.declared.damage.Damage.{Damage}
use Rattle.vv_data.specs.Layout.{disk_len}
use Rattle.vv_journal.specs.declared.opening.OpenFault.{OpenFault}
use Rattle.vv_journal.specs.declared.opening.OpenFault.TheVariants as journal
use Rattle.vv_image.specs.Opening.{opened}
use Rattle.vv_array.specs.declared.fault.ArrayFault.{ArrayFault}
use Rattle.vv_array.specs.declared.fault.ArrayFault.TheVariants as array
use Rattle.vv_run.specs.declared.words.Command.{Command}
use Rattle.vv_run.specs.declared.words.Command.TheVariants.{New, Run}
use Rattle.vv_run.specs.declared.status.Status.{Status}
use Rattle.vv_run.specs.declared.status.Status.TheVariants.{Done, BadWords, SourceFault, SinkFault, NotFormatted, Damaged, DeviceFault, NoMemory, TooMuch, WrongSize}

abbrev pub code_of : Status → ℕ
code_of Done = 0
code_of BadWords = 2
code_of SourceFault = 3
code_of SinkFault = 4
code_of NotFormatted = 5
code_of (Damaged damage) = 6
code_of DeviceFault = 7
code_of NoMemory = 8
code_of TooMuch = 9
code_of (WrongSize needed found) = 10

-- whether a run ended ahead of its script
abbrev pub is_unserved : Status → Bool
is_unserved Done = false
is_unserved BadWords = true
is_unserved SourceFault = false
is_unserved SinkFault = false
is_unserved NotFormatted = true
is_unserved (Damaged damage) = true
is_unserved DeviceFault = true
is_unserved NoMemory = true
is_unserved TooMuch = false
is_unserved (WrongSize needed found) = true

-- .. and before it looked at the disk, or at no more than its length
abbrev pub is_before_disk : Status → Bool
is_before_disk Done = false
is_before_disk BadWords = true
is_before_disk SourceFault = false
is_before_disk SinkFault = false
is_before_disk NotFormatted = false
is_before_disk (Damaged damage) = false
is_before_disk DeviceFault = false
is_before_disk NoMemory = false
is_before_disk TooMuch = false
is_before_disk (WrongSize needed found) = true

-- How a run ends whose image can't be made or opened: by what the array tells, and by what opening an image finds.

abbrev pub status_of : ArrayFault → Status
status_of (array.NotFormatted found) = NotFormatted
status_of (array.Damaged damage) = Damaged damage
status_of (array.Disk fault) = DeviceFault
status_of array.NoMemory = NoMemory

abbrev pub status_for : OpenFault → Status
status_for (journal.NotFormatted found) = NotFormatted
status_for (journal.Damaged damage) = Damaged damage
status_for (journal.Disk fault) = DeviceFault

-- an image isn't formatted
abbrev pub IsUnformatted : List ℕ → Type 0
IsUnformatted image = (found : ℕ) × (opened image ≡ Err (journal.NotFormatted found))

-- this is the first thing that is wrong with an image
abbrev pub HasDamage : Damage → List ℕ → Type 0
HasDamage damage image = opened image ≡ Err (journal.Damaged damage)

-- an image can be opened
abbrev pub IsOpenable : List ℕ → Type 0
IsOpenable image = (fault : OpenFault) → opened image ≢ Err fault

-- A run that opens an image ends so, where opening it finds a fault: by the first thing that is wrong with it, unless the disk
-- failed or there was no memory.
abbrev pub EndsAsFound : Status → List ℕ → Type 0
EndsAsFound status image = (fault : OpenFault) → opened image ≡ Err fault
    → (status ≡ status_for fault) ⊎ ((status ≡ DeviceFault) ⊎ (status ≡ NoMemory))

-- an image is to be made, and the disk has another length than it needs
abbrev pub IsWrongSize : Option Command → ℕ → ℕ → ℕ → Type 0
IsWrongSize None size needed found = ⊥
IsWrongSize (Some Run) size needed found = ⊥
IsWrongSize (Some (New geometry)) size needed found = (needed ≡ disk_len geometry) × (found ≡ size) × (found ≢ needed)

-- A disk has the length that is needed, or what is told of it can be opened.
abbrev pub IsFit : Command → ℕ → Option (List ℕ) → Type 0
IsFit (New geometry) size told = size ≡ disk_len geometry
IsFit Run size told = IfSome told IsOpenable

-- how a run ends on a disk that isn't fit
abbrev pub Unfit : Command → ℕ → Option (List ℕ) → Status → Type 0
Unfit (New geometry) size told status = size ≢ disk_len geometry → status ≡ WrongSize (disk_len geometry) size
Unfit Run size told status = IfSome told (EndsAsFound status)

-- Why an array couldn't be made or opened: the disk has a wrong length, its image isn't one, a count of its faults rose, or
-- there was no memory.
abbrev pub Stopped : Command → ℕ → Option (List ℕ) → ℕ → ℕ → ℕ → ℕ → Status → Type 0
Stopped command size told reads_before reads_now writes_before writes_now Done = ⊥
Stopped command size told reads_before reads_now writes_before writes_now BadWords = ⊥
Stopped command size told reads_before reads_now writes_before writes_now SourceFault = ⊥
Stopped command size told reads_before reads_now writes_before writes_now SinkFault = ⊥
Stopped command size told reads_before reads_now writes_before writes_now TooMuch = ⊥
Stopped command size told reads_before reads_now writes_before writes_now NotFormatted = (command ≡ Run) × IfSome told IsUnformatted
Stopped command size told reads_before reads_now writes_before writes_now (Damaged damage) = (command ≡ Run) × IfSome told (HasDamage damage)
Stopped command size told reads_before reads_now writes_before writes_now DeviceFault = Rose reads_before reads_now ⊎ Rose writes_before writes_now
Stopped command size told reads_before reads_now writes_before writes_now NoMemory = ⊤
Stopped command size told reads_before reads_now writes_before writes_now (WrongSize needed found) = IsWrongSize (Some command) size needed found
