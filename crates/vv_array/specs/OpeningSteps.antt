-- How far opening an image has come: what reading its tables, and then its slots one after another, has found.
use Rattle.std.specs.Prelude.{◌≡◌, ◌≢◌, ◌≤◌, ◌<◌, ◌↔◌, ℕ, ◌+◌, ◌-◌, List, ◌++◌, Bool, true, false, Option, Some, Ok, Err, IfSome, ⊤}
use Rattle.vv_units.specs.Causes.{Rose}
use Rattle.vv_units.specs.declared.damage.DiskFault.TheVariants.{Read, Write}
use Rattle.vv_units.specs.declared.damage.Part.{Part}
use Rattle.vv_units.specs.declared.damage.Part.TheVariants as part
use Rattle.vv_fields.specs.Fields.{AreBytes}
use Rattle.vv_flat.specs.State.{Durable}
use Rattle.vv_flat.specs.Chunks.{Entry}
use Rattle.vv_disk.specs.Images.{LeavesOnly}
use Rattle.vv_units.specs.declared.geometry.Geometry.{Geometry}
use Rattle.vv_area.specs.Area.{tables_in, IsFaultOf}
use Rattle.vv_area.specs.declared.fault.AreaFault.{AreaFault}
use Rattle.vv_area.specs.declared.fault.AreaFault.TheVariants as area
use Rattle.vv_area_reader.specs.Told.{AreaReading}
use Rattle.vv_journal.specs.declared.opening.LogHead.{LogHead}
use Rattle.vv_journal.specs.declared.opening.OpenFault.{OpenFault}
use Rattle.vv_journal.specs.declared.opening.OpenFault.TheVariants as journal
use Rattle.vv_journal.specs.Half.{tables_at}
use Rattle.vv_journal.specs.Calls.{JournalState}
use Rattle.vv_journal.specs.Openings.{HasRead, gate_of_next, payload_of_next}
use Rattle.vv_image.specs.Opening.{Found, area_tables, slots}
use Rattle.vv_core.specs.Areas.{IsReading}
use Rattle.vv_array.specs.declared.fault.ArrayFault.{ArrayFault}
use Rattle.vv_array.specs.declared.fault.ArrayFault.TheVariants.{NotFormatted, Damaged, Disk, NoMemory}

-- ---- faults

-- a fault of the journal as one of the array
abbrev pub fault_of_open : OpenFault → ArrayFault
fault_of_open (journal.NotFormatted found) = NotFormatted found
fault_of_open (journal.Damaged damage) = Damaged damage
fault_of_open (journal.Disk fault) = Disk fault

-- this part is wrong at this place, where this was found
abbrev pub damaged_at : Part → ℕ → ℕ → ArrayFault
damaged_at wrong place found = Damaged (record { part = wrong; place = place; found = found })

-- what is told of an area of this half that isn't taken
abbrev pub fault_of_area : ℕ → AreaFault → ArrayFault
fault_of_area half (area.Bad at) = damaged_at part.Area at half
fault_of_area half (area.Rule rule found) = damaged_at part.Rule rule found
fault_of_area half area.NoMemory = NoMemory

-- The fault that is told is what was found, unless the disk failed or there was no memory.
abbrev pub IsFaultIn : Found → ArrayFault → Type 0
IsFaultIn found (NotFormatted n) = found ≡ Err (journal.NotFormatted n)
IsFaultIn found (Damaged damage) = found ≡ Err (journal.Damaged damage)
IsFaultIn found (Disk fault) = ⊤
IsFaultIn found NoMemory = ⊤

-- the disk didn't fail
abbrev pub IsNoneOfDisk : ArrayFault → Type 0
IsNoneOfDisk (NotFormatted n) = ⊤
IsNoneOfDisk (Damaged damage) = ⊤
IsNoneOfDisk (Disk fault) = ⊥
IsNoneOfDisk NoMemory = ⊤

-- Where the disk failed, it was at a read, whose count rose.
abbrev pub HasReadCause : ℕ → ℕ → ArrayFault → Type 0
HasReadCause before now (NotFormatted n) = ⊤
HasReadCause before now (Damaged damage) = ⊤
HasReadCause before now (Disk Read) = Rose before now
HasReadCause before now (Disk Write) = ⊥
HasReadCause before now NoMemory = ⊤

-- ---- the disk

-- The disk was read at most: it stays as it is, but for its count of reads that failed.
pub record OnlyReads {D : Type 0} (size : D → ℕ) (content : D → Option (List ℕ)) (is_image : D → List ℕ → Type 0) (is_honest : D → Type 0) (moment : D → ℕ) (left_since : D → ℕ → List ℕ → Type 0) (read_faults write_faults : D → ℕ) (old new : D) : Type 0 where
  pub len : size new ≡ size old
  pub told : content new ≡ content old
  pub images : (image : List ℕ) → is_image new image ↔ is_image old image
  pub any_moment : LeavesOnly moment left_since old new (is_image old)
  pub honesty : is_honest new ↔ is_honest old
  pub reads : read_faults old ≤ read_faults new
  pub writes : write_faults new ≡ write_faults old

-- ---- the area

-- the tables that the area of an image with this head spells
abbrev pub area_found : LogHead → List ℕ → Found
area_found head image = area_tables head.geometry head.half head.spelling (tables_at head.geometry head.half head.area_len image)

-- The bytes of the tables up to a place were fed to a reader.
pub record IsFed (reader : AreaReading) (head : LogHead) (at : ℕ) (told : Option (List ℕ)) : Type 0 where
  pub fed : List ℕ
  pub bytes : AreBytes fed
  pub reads : IsReading reader head.geometry head.spelling fed
  pub is : IfSome told (λ c. fed ≡ tables_at head.geometry head.half at c)

-- Feeding a piece leads from one reader to another.
abbrev pub FeedsOn : AreaReading → AreaReading → List ℕ → Type 0
FeedsOn old new piece = (geometry : Geometry) → (spelling : ℕ) → (bytes : List ℕ) → IsReading old geometry spelling bytes → IsReading new geometry spelling (bytes ++ piece)

-- A fault is told of each area which goes on with a piece.
abbrev pub FailsOn : AreaReading → List ℕ → AreaFault → Type 0
FailsOn old piece fault = (geometry : Geometry) → (spelling : ℕ) → (bytes : List ℕ) → IsReading old geometry spelling bytes
    → (coming : List ℕ) → IsFaultOf fault (tables_in geometry spelling (bytes ++ (piece ++ coming)))

-- ---- the slots

-- what the slots from the journal's next one on make of tables
abbrev pub slots_found : JournalState → List ℕ → Durable Entry → Found
slots_found j image tables = slots j.geometry j.half image (256 - j.records) j.records tables

-- the journal after its next slot, if a record was there
abbrev pub journal_past : Bool → JournalState → JournalState
journal_past true j = record j { records = j.records + 1 }
journal_past false j = j

-- The next slot was looked at: it has a record, which was applied to the tables; or its gate isn't open, and nothing is
-- behind it.
abbrev pub HasPassed : Bool → JournalState → Durable Entry → Durable Entry → List ℕ → Type 0
HasPassed true j old new image =
    (payload : List ℕ) × (gate_of_next j image ≡ 1) × (payload_of_next j image ≡ Some payload)
    × (slots_found j image old ≡ slots_found (journal_past true j) image new)
HasPassed false j old new image = (gate_of_next j image ≢ 1) × (slots_found j image old ≡ Ok new)

-- So many slots were read, and what the slots make of the first tables is what the rest of them make of these.
pub record HasComeTo (begun now : JournalState) (first tables : Durable Entry) (image : List ℕ) : Type 0 where
  pub records : List (List ℕ)
  pub read : HasRead now records image
  pub same : slots_found begun image first ≡ slots_found now image tables

-- All slots were read, up to one whose gate isn't open, and they make these tables of the first ones.
pub record HasReplayed (begun now : JournalState) (first tables : Durable Entry) (image : List ℕ) : Type 0 where
  pub records : List (List ℕ)
  pub read : HasRead now records image
  pub finds : slots_found begun image first ≡ Ok tables
  pub shut : now.records < 256 → gate_of_next now image ≢ 1
