-- What opening an image finds: the head of its log, or the first thing that is wrong. And what reading a slot finds.
use Rattle.std.specs.Prelude.{◌≡◌, ◌≢◌, ℕ, ◌<◌, ◌+◌, ◌*◌, ◌≤◌, ◌==◌, ◌&&◌, ◌||◌, Bool, true, nat_le, List, length, slice_index, take, drop, Option, Some, None, Result, Ok, Err, if◌then◌else◌}
use Rattle.vv_units.specs.Causes.{Rose}
use Rattle.vv_units.specs.Sizes.{is_chunk_size}
use Rattle.vv_units.specs.declared.damage.DiskFault.TheVariants.{Read, Write}
use Rattle.vv_units.specs.declared.damage.Part.{Part}
use Rattle.vv_units.specs.declared.damage.Part.TheVariants.{Header as in_header, Length as in_length, Area as in_area}
use Rattle.vv_data.specs.Layout.{header_bytes, disk_len}
use Rattle.vv_journal.specs.declared.opening.Fields.{Fields}
use Rattle.vv_journal.specs.declared.opening.LogHead.{LogHead}
use Rattle.vv_journal.specs.declared.opening.OpenFault.{OpenFault}
use Rattle.vv_journal.specs.declared.opening.OpenFault.TheVariants.{NotFormatted, Damaged, Disk}
use Rattle.vv_journal.specs.declared.reading.SlotRead.{SlotRead}
use Rattle.vv_journal.specs.declared.reading.SlotRead.TheVariants.{Closed, Bad, Payload}
use Rattle.vv_journal.specs.Header.{Header, header_of, half_of, is_version, magic, number_at}
use Rattle.vv_journal.specs.Log.{Log, log_of}
use Rattle.vv_journal.specs.Half.{all_given, area_of, gates_at, is_area, length_field, payload_at, payload_limit, slot_at, tables_at}
use Rattle.vv_journal.specs.Calls.{JournalState, journal_of}

-- ---- faults

-- this part is wrong at this place, where this was found
abbrev pub damaged : Part → ℕ → ℕ → OpenFault
damaged part place found = Damaged (record { part = part; place = place; found = found })

abbrev pub is_known_version : ℕ → Bool
is_known_version version = (version == 2) || (version == 1)

-- the chunks of the pool are few, and so are their blocks together
abbrev pub is_pool_size : ℕ → ℕ → Bool
is_pool_size chunk_blocks pool_chunks = nat_le 1 pool_chunks && (nat_le pool_chunks 262144 && nat_le (pool_chunks * chunk_blocks) 8388608)

-- and so are the entries of the map, in version 1 even fewer
abbrev pub is_map_size : ℕ → ℕ → Bool
is_map_size version map_chunks = nat_le 64 map_chunks && (nat_le map_chunks 1048576 && ((version == 2) || nat_le map_chunks 262144))

-- the first fault, where each is one unless its test holds
abbrev pub checked : Bool → OpenFault → Option OpenFault → Option OpenFault
checked test fault next = if test then next else Some fault

-- the first wrong field of a header: its offset, and the number there
unfoldable pub header_fault : List ℕ → Option OpenFault
header_fault image =
    checked (number_at 8 8 image == magic) (damaged in_header 8 (number_at 8 8 image))
    (checked (is_known_version (number_at 4 16 image)) (damaged in_header 16 (number_at 4 16 image))
    (checked (is_chunk_size (number_at 4 20 image)) (damaged in_header 20 (number_at 4 20 image))
    (checked (is_pool_size (number_at 4 20 image) (number_at 4 24 image)) (damaged in_header 24 (number_at 4 24 image))
    (checked (is_map_size (number_at 4 16 image) (number_at 4 28 image)) (damaged in_header 28 (number_at 4 28 image))
    None))))

-- Bytes have these fields of a header, which may be.
pub record HasFields (fields : Fields) (bytes : List ℕ) : Type 0 where
  pub words : number_at 8 8 bytes ≡ magic
  pub version : number_at 4 16 bytes ≡ fields.version
  pub known : is_version fields.version fields.geometry.map_chunks ≡ true
  pub chunk_blocks : number_at 4 20 bytes ≡ fields.geometry.chunk_blocks
  pub pool_chunks : number_at 4 24 bytes ≡ fields.geometry.pool_chunks
  pub map_chunks : number_at 4 28 bytes ≡ fields.geometry.map_chunks

-- what is wrong behind the header, if it has one: the length of the image, or the length of the selected area
abbrev pub fault_behind : Option Header → List ℕ → Option OpenFault
fault_behind None image = header_fault image
fault_behind (Some header) image =
    checked (length image == disk_len header.geometry) (damaged in_length (disk_len header.geometry) (length image))
    (checked (is_area header (length_field header.geometry (half_of image) image)) (damaged in_area 0 (half_of image))
    None)

-- The first thing that is wrong with an image, up to the length of the area: it is too short for a header, its first
-- byte isn't A5h, a field of the header is wrong, its length is another than the header says, or the area can't be.
unfoldable pub open_fault : List ℕ → Option OpenFault
open_fault image =
    checked (nat_le header_bytes (length image)) (NotFormatted (length image))
    (checked (slice_index image 0 == 0xA5) (NotFormatted (slice_index image 0))
    (fault_behind (header_of image) image))

-- the fault is one of the disk
abbrev pub IsOfDisk : OpenFault → Type 0
IsOfDisk (NotFormatted found) = ⊥
IsOfDisk (Damaged damage) = ⊥
IsOfDisk (Disk fault) = Unit {0}

-- the fault is damage
abbrev pub IsDamage : OpenFault → Type 0
IsDamage (NotFormatted found) = ⊥
IsDamage (Damaged damage) = Unit {0}
IsDamage (Disk fault) = ⊥

-- A fault of the disk shows in its count of reads that failed, or of writes and syncs.
abbrev pub HasDiskCause : ℕ → ℕ → ℕ → ℕ → OpenFault → Type 0
HasDiskCause reads_before reads_now writes_before writes_now (NotFormatted found) = Unit {0}
HasDiskCause reads_before reads_now writes_before writes_now (Damaged damage) = Unit {0}
HasDiskCause reads_before reads_now writes_before writes_now (Disk Read) = Rose reads_before reads_now
HasDiskCause reads_before reads_now writes_before writes_now (Disk Write) = Rose writes_before writes_now

-- this holds, unless the disk failed
abbrev pub UnlessDiskFailed : {T : Type 0} → Result T OpenFault → Type 0 → Type 0
UnlessDiskFailed (Ok opened) P = P
UnlessDiskFailed (Err (NotFormatted found)) P = P
UnlessDiskFailed (Err (Damaged damage)) P = P
UnlessDiskFailed (Err (Disk fault)) P = Unit {0}

-- ---- the head of a log

-- The image has this head: the sizes of its header, the selected half, the spelling of its tables, and their length.
pub record HasHead (head : LogHead) (image : List ℕ) : Type 0 where
  pub version : ℕ
  pub header : header_of image ≡ Some (record { geometry = head.geometry; version = version })
  pub half : half_of image ≡ head.half
  pub size : length image ≡ disk_len head.geometry
  pub area : area_of (record { geometry = head.geometry; version = version }) head.half image ≡ Some (record { spelling = head.spelling; tables = tables_at head.geometry head.half head.area_len image })

-- the journal before the first slot is read
abbrev pub journal_at_first : LogHead → JournalState
journal_at_first head = record { geometry = head.geometry; half = head.half; records = 0 }

-- ---- slots

-- the gate of the next slot
abbrev pub gate_of_next : JournalState → List ℕ → ℕ
gate_of_next journal image = slice_index image (gates_at journal.geometry journal.half + journal.records)

-- the payload of the next slot
abbrev pub payload_of_next : JournalState → List ℕ → Option (List ℕ)
payload_of_next journal image = payload_at (slot_at journal.geometry journal.half journal.records) image

-- What was read of the next slot stands there: its gate isn't open; or it is and the slot has no payload; or it is and
-- the payload is the front of what was read.
abbrev pub StandsNext : JournalState → List ℕ → SlotRead → List ℕ → Type 0
StandsNext journal got Closed image = gate_of_next journal image ≢ 1
StandsNext journal got Bad image = (gate_of_next journal image ≡ 1) × (payload_of_next journal image ≡ None)
StandsNext journal got (Payload len) image = (gate_of_next journal image ≡ 1) × (payload_of_next journal image ≡ Some (take len got))

-- A journal counts a payload that was read, and nothing else.
abbrev pub after_reading : SlotRead → JournalState → JournalState
after_reading Closed journal = journal
after_reading Bad journal = journal
after_reading (Payload len) journal = record journal { records = journal.records + 1 }

-- A slot without a payload leaves the room for one as it is, and a payload what stands behind it there.
abbrev pub LeavesRest : SlotRead → List ℕ → List ℕ → Type 0
LeavesRest Closed before now = now ≡ before
LeavesRest Bad before now = now ≡ before
LeavesRest (Payload len) before now = drop len now ≡ drop len before

-- a payload is no longer than the room for it
abbrev pub IsShort : SlotRead → Type 0
IsShort Closed = Unit {0}
IsShort Bad = Unit {0}
IsShort (Payload len) = len ≤ payload_limit

-- So many slots were read, each with an open gate and one of these payloads.
pub record HasRead (journal : JournalState) (records : List (List ℕ)) (image : List ℕ) : Type 0 where
  pub gates : (i : ℕ) → i < journal.records → slice_index image (gates_at journal.geometry journal.half + i) ≡ 1
  pub payloads : all_given (λ index. payload_at (slot_at journal.geometry journal.half index) image) journal.records ≡ Some records

-- a journal of an image with this head, after so many slots
abbrev pub journal_at : LogHead → ℕ → JournalState
journal_at head n = record { geometry = head.geometry; half = head.half; records = n }

-- The image holds a log with this head and these records.
abbrev pub HoldsRead : LogHead → List (List ℕ) → List ℕ → Type 0
HoldsRead head records image = (log : Log) × (log_of image ≡ Some log) × (journal_of log ≡ journal_at head (length records)) × (log.records ≡ records)
    × (log.spelling ≡ head.spelling) × (log.area ≡ tables_at head.geometry head.half head.area_len image)
