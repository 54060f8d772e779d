-- What opening an image finds: the tables for which it stands, or the first thing that is wrong with it, in the order in
-- which it is looked at. First come format, header, length and the length of the area; then the bytes of the tables; then
-- their rules; and then slot after slot, of each whether it has a payload, whether that spells a record, and whether the
-- record fits the tables so far. All of it is this project's own.
use Rattle.std.specs.Prelude.{ℕ, zero, suc, ◌+◌, ◌==◌, List, [], ◌∷◌, length, slice_index, Option, Some, None, Result, Ok, Err, if◌then◌else◌}
use Rattle.vv_units.specs.declared.geometry.Geometry.{Geometry}
use Rattle.vv_units.specs.declared.damage.Part.TheVariants.{Area as in_area, Rule as in_rule, Slot as in_slot, Record as in_record}
use Rattle.vv_flat.specs.Lists.{if_found}
use Rattle.vv_flat.specs.State.{Durable}
use Rattle.vv_flat.specs.Chunks.{Entry}
use Rattle.vv_flat.specs.Rules.{RuleFault, first_fault}
use Rattle.vv_flat.specs.Logs.{record_fits, after_record}
use Rattle.vv_record.specs.declared.record.Record.{Record}
use Rattle.vv_record.specs.Records.{record_in}
use Rattle.vv_area.specs.Area.{tables_in}
use Rattle.vv_journal.specs.declared.opening.OpenFault.{OpenFault}
use Rattle.vv_journal.specs.Header.{Header, header_of, half_of}
use Rattle.vv_journal.specs.declared.opening.OpenFault.TheVariants.{NotFormatted}
use Rattle.vv_journal.specs.Half.{Area, area_of, gates_at, payload_at, slot_at}
use Rattle.vv_journal.specs.Log.{Log}
use Rattle.vv_journal.specs.Openings.{damaged, open_fault}
use Rattle.vv_event.specs.Events.{log_record}

-- Tables, or the first thing that is wrong.
abbrev pub Found : Type 0
Found = Result (Durable Entry) OpenFault

-- ---- the tables of the area

-- tables that meet all rules, or the first rule that fails
abbrev pub ruled : Durable Entry → Found
ruled tables =
    if_found (first_fault tables) (λ (f : RuleFault). Err (damaged in_rule f.rule f.found)) (Ok tables)

-- the tables that the bytes of an area of this half spell
abbrev pub spelled : ℕ → Result (Durable Entry) ℕ → Found
spelled half (Err at) = Err (damaged in_area at half)
spelled half (Ok tables) = ruled tables

unfoldable pub area_tables : Geometry → ℕ → ℕ → List ℕ → Found
area_tables geometry half spelling area = spelled half (tables_in geometry spelling area)

-- ---- the records behind it

-- a record that fits tables is applied to them
abbrev pub fitted : ℕ → Durable Entry → Record → Found
fitted slot tables r =
    if record_fits tables (log_record r) then Ok (after_record tables (log_record r))
    else Err (damaged in_record slot (tables.lsn + 1))

-- the record that a payload spells
abbrev pub decoded : ℕ → Durable Entry → Result Record ℕ → Found
decoded slot tables (Err at) = Err (damaged in_slot slot (8 + at))
decoded slot tables (Ok r) = fitted slot tables r

-- the payload of a slot, if it has one
unfoldable pub applied : ℕ → Option (List ℕ) → Durable Entry → Found
applied slot None tables = Err (damaged in_slot slot 0)
applied slot (Some payload) tables = decoded slot tables (record_in payload)

-- what is done with tables, unless something was wrong before
abbrev pub behind : (Durable Entry → Found) → Found → Found
behind next (Err fault) = Err fault
behind next (Ok tables) = next tables

-- the gate of a slot
abbrev pub gate_at : Geometry → ℕ → List ℕ → ℕ → ℕ
gate_at geometry half image slot = slice_index image (gates_at geometry half + slot)

-- the payload of a slot, if it has one
abbrev pub payload_in : Geometry → ℕ → List ℕ → ℕ → Option (List ℕ)
payload_in geometry half image slot = payload_at (slot_at geometry half slot) image

-- The records of so many slots from this one on, up to the first whose gate is not open. A gate is open where it is 1.
unfoldable pub slots : Geometry → ℕ → List ℕ → ℕ → ℕ → Durable Entry → Found
unfolding applied
slots geometry half image zero slot tables = Ok tables
slots geometry half image (suc left) slot tables =
    if gate_at geometry half image slot == 1
    then behind (slots geometry half image left (slot + 1)) (applied slot (payload_in geometry half image slot) tables)
    else Ok tables

-- ---- the whole image

abbrev pub opened_area : Header → List ℕ → Area → Found
opened_area header image area =
    behind (slots header.geometry (half_of image) image 256 0) (area_tables header.geometry (half_of image) area.spelling area.tables)

abbrev pub opened_header : List ℕ → Header → Found
opened_header image header =
    if_found (area_of header (half_of image) image) (opened_area header image) (Err (damaged in_area 0 (half_of image)))

unfoldable pub opened : List ℕ → Found
unfolding area_tables slots
opened image =
    if_found (open_fault image) (λ (fault : OpenFault). Err fault)
    (if_found (header_of image) (opened_header image) (Err (NotFormatted (length image))))

-- ---- the log that an image holds

-- the records with these payloads, the first of which stands in this slot
unfoldable pub payloads : ℕ → List (List ℕ) → Durable Entry → Found
unfolding applied
payloads slot [] tables = Ok tables
payloads slot (payload ∷ rest) tables = behind (payloads (slot + 1) rest) (applied slot (Some payload) tables)

-- the tables for which a log stands
unfoldable pub log_tables : Log → Found
unfolding area_tables payloads
log_tables log = behind (payloads 0 log.records) (area_tables log.geometry log.half log.spelling log.area)
