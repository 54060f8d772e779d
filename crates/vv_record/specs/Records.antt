-- The eighteen kinds of events, and the record that bytes are read as: a mark, a kind, the fields of the kind, and
-- nothing after.
use Rattle.std.specs.Prelude.{◌≡◌, ℕ, ◌==◌, List, length, Result, Ok, Err, ⊤, if◌then◌else◌}
use Rattle.vv_record.specs.declared.record.Event.{Event}
use Rattle.vv_record.specs.declared.record.Event.TheVariants.{MakeContainer, MakeVolume, DeleteVolume, GrowVolume, SetMetadata, Snapshot, FastClone, Revert, Write, Unmap, SetEndpoints, Bind, Unbind, UnbindAll, StartClone, StartCopy, Turn, Cancel}
use Rattle.vv_record.specs.declared.record.Record.{Record}
use Rattle.vv_record.specs.declared.record.RecordFault.{RecordFault}
use Rattle.vv_record.specs.declared.record.RecordFault.TheVariants as fault
use Rattle.vv_record.specs.Reading.{Form, Reading, Read, Fault, ◌>>=◌, done, number, number_within}
use Rattle.vv_record.specs.Forms as form

unfoldable pub make_container : Form Event
make_container = do
  quota ← form.quota
  offers ← form.offers
  done (MakeContainer quota offers)

unfoldable pub make_volume : Form Event
make_volume = do
  container ← form.container
  vtype ← form.vvol_type_field
  chunks ← form.size
  needs ← form.needs
  done (MakeVolume container vtype chunks needs)

unfoldable pub delete_volume : Form Event
delete_volume = do
  volume ← form.volume
  done (DeleteVolume volume)

unfoldable pub grow_volume : Form Event
grow_volume = do
  volume ← form.volume
  chunks ← form.size
  done (GrowVolume volume chunks)

unfoldable pub set_metadata : Form Event
set_metadata = do
  volume ← form.volume
  key ← form.key
  note ← form.optional_note
  done (SetMetadata volume key note)

unfoldable pub snapshot : Form Event
snapshot = do
  volume ← form.volume
  done (Snapshot volume)

unfoldable pub fast_clone : Form Event
fast_clone = do
  volume ← form.volume
  done (FastClone volume)

unfoldable pub revert : Form Event
revert = do
  volume ← form.volume
  snapshot ← form.volume
  done (Revert volume snapshot)

unfoldable pub write : Form Event
write = do
  volume ← form.volume
  first_block ← number 8
  blocks ← number_within 4 1 2048
  places ← form.places
  done (Write volume first_block blocks places)

unfoldable pub unmap : Form Event
unmap = do
  volume ← form.volume
  ranges ← form.ranges
  done (Unmap volume ranges)

unfoldable pub set_endpoints : Form Event
set_endpoints = do
  host ← form.host
  endpoints ← form.endpoints
  done (SetEndpoints host endpoints)

unfoldable pub bind : Form Event
bind = do
  host ← form.host
  volume ← form.volume
  done (Bind host volume)

unfoldable pub unbind : Form Event
unbind = do
  host ← form.host
  endpoint ← form.endpoint
  secondary ← form.secondary
  done (Unbind host endpoint secondary)

unfoldable pub unbind_all : Form Event
unbind_all = do
  host ← form.host
  done (UnbindAll host)

unfoldable pub start_clone : Form Event
start_clone = do
  volume ← form.volume
  done (StartClone volume)

unfoldable pub start_copy : Form Event
start_copy = do
  source ← form.volume
  base ← form.volume
  target ← form.volume
  done (StartCopy source base target)

unfoldable pub turn : Form Event
turn = do
  task ← form.task
  copies ← form.copies
  done (Turn task copies)

unfoldable pub cancel : Form Event
cancel = do
  task ← form.task
  done (Cancel task)

-- the fields of a kind from 1 to 18
unfoldable pub fields_of : ℕ → Form Event
fields_of kind =
    if kind == 1 then make_container
    else if kind == 2 then make_volume
    else if kind == 3 then delete_volume
    else if kind == 4 then grow_volume
    else if kind == 5 then set_metadata
    else if kind == 6 then snapshot
    else if kind == 7 then fast_clone
    else if kind == 8 then revert
    else if kind == 9 then write
    else if kind == 10 then unmap
    else if kind == 11 then set_endpoints
    else if kind == 12 then bind
    else if kind == 13 then unbind
    else if kind == 14 then unbind_all
    else if kind == 15 then start_clone
    else if kind == 16 then start_copy
    else if kind == 17 then turn
    else cancel

-- the mark, the kind and its fields
unfoldable pub record_form : Form Record
record_form = do
  mark ← number_within 1 0 1
  kind ← number_within 1 1 18
  event ← fields_of kind
  done (record { first_after_open = mark == 1; event = event })

-- Bytes that follow the last field are a fault at the first of them.
abbrev pub ended : {A : Type 0} → Reading A → Result A ℕ
ended (Read value behind) = if behind.at == length behind.bytes then Ok value else Err behind.at
ended (Fault at) = Err at

-- the record that bytes spell, or the place of the fault
unfoldable pub record_in : List ℕ → Result Record ℕ
record_in bytes = ended (record_form (record { bytes = bytes; at = 0 }))

-- A call returned the record that the bytes spell, or the place of their fault, unless there was no memory.

abbrev pub IsFaultOf : RecordFault → Result Record ℕ → Type 0
IsFaultOf (fault.Bad at) spelled = spelled ≡ Err at
IsFaultOf fault.NoMemory spelled = ⊤

abbrev pub Tells : Result Record RecordFault → Result Record ℕ → Type 0
Tells (Ok value) spelled = spelled ≡ Ok value
Tells (Err e) spelled = IsFaultOf e spelled
