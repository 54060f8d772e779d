-- The slots of an image that are read one after another, and what each of them makes of the tables so far. They serve opening
-- an image.
use Rattle.std.proofs.Common.{◌≡◌, ◌≢◌, ◌==◌, ℕ, suc, ◌+◌, ◌-◌, ◌≤◌, ◌<◌, true, false, Bool, cond, List, [], ◌∷◌, ◌++◌, length, take, Option, None, Some, IfSome, Result, Ok, Err, refl, sym, ap, ◌∙◌, subst, arith}
use Rattle.std.proofs.lemmas.Bool.{and_parts, eq-eqb, ne_eqb, leb-true}
use Rattle.std.proofs.Math.Seq.{take-length}
use Rattle.vv_units.specs.declared.damage.Part.TheVariants as part
use Rattle.vv_fields.specs.Fields.{AreBytes}
use Rattle.vv_flat.specs.State.{Durable}
use Rattle.vv_flat.specs.Chunks.{Entry, shape_of_tables, placed_entries, unmapped_entry}
use Rattle.vv_flat.specs.Fields.{change_has_forms}
use Rattle.vv_flat.specs.Refusals.{last_lsn}
use Rattle.vv_flat.specs.Restart.{interrupted_durable}
use Rattle.vv_flat.specs.Changes.{Change, new_stamp}
use Rattle.vv_flat.specs.Replay.{replayed}
use Rattle.vv_flat.specs.Rules.{numbers_rule}
use Rattle.vv_flat.specs.WellFormed.{is_well_formed}
use Rattle.vv_flat.specs.Logs.{LogRecord, before_record, after_record}
use Rattle.vv_flat.proofs.Filled.{geometry-apply}
use Rattle.vv_flat.proofs.KeepRules.{rules_met}
use Rattle.vv_record.specs.declared.record.Record.{Record}
use Rattle.vv_record.specs.Records.{record_in, IsFaultOf}
use Rattle.vv_record.specs.declared.record.RecordFault.{RecordFault}
use Rattle.vv_record.specs.declared.record.RecordFault.TheVariants as wrong
use Rattle.vv_core.specs.Replays.{IsReplayed}
use Rattle.vv_core.specs.declared.replay.Replayed.{Replayed}
use Rattle.vv_core.specs.declared.replay.Replayed.TheVariants.{Applied, Misfit}
use Rattle.vv_record.proofs.RecordLaws.{read_is_spelled}
use Rattle.vv_event.specs.Events.{change_of}
use Rattle.vv_journal.specs.declared.opening.LogHead.{LogHead}
use Rattle.vv_journal.specs.declared.reading.SlotRead.{SlotRead}
use Rattle.vv_journal.specs.declared.reading.SlotRead.TheVariants.{Closed, Bad, Payload}
use Rattle.vv_journal.specs.Calls.{JournalState}
use Rattle.vv_journal.specs.Openings.{damaged, HasRead, StandsNext, gate_of_next, payload_of_next, journal_at}
use Rattle.vv_journal.proofs.Replayed.{read_none, read_more}
use Rattle.vv_image.specs.Opening.{Found, behind, decoded, fitted, applied, slots}
use Rattle.vv_image.proofs.Forms.{event_has_forms}
use Rattle.vv_array.specs.declared.fault.ArrayFault.{ArrayFault}
use Rattle.vv_array.specs.declared.fault.ArrayFault.TheVariants.{NotFormatted, Damaged, Disk, NoMemory}
use Rattle.vv_array.specs.OpeningSteps.{IsFaultIn, damaged_at, slots_found, journal_past, HasPassed, HasComeTo, HasReplayed}

-- ---- a record

lsn_ruled : (s : Durable ℕ) → numbers_rule s ≡ true → s.lsn ≤ last_lsn
unfolding numbers_rule
lsn_ruled s h = leb-true s.lsn last_lsn (and_parts _ _ h).1

-- the log number of well-formed tables is far from the end of 64 bits
pub lsn_below : (d : Durable Entry) → is_well_formed d ≡ true → d.lsn ≤ last_lsn
unfolding is_well_formed
lsn_below d well =
    let first = and_parts _ _ well in
    let both = and_parts _ _ first.0 in
    lsn_ruled (shape_of_tables d) (rules_met d both.0 both.1).0.numbers

-- what is read of bytes has its forms
pub forms_read : (payload : List ℕ) (r : Record) → AreBytes payload → record_in payload ≡ Ok r → change_has_forms (change_of r.event) ≡ true
forms_read payload r are is = event_has_forms r.event (read_is_spelled payload r are is).1

replayed_sized : (tables : Durable Entry) (change : Change) (places : List ℕ) → (replayed tables change places).geometry ≡ tables.geometry
unfolding replayed
replayed_sized tables change places = geometry-apply (λ (e : Entry). e.stamp) (placed_entries places (new_stamp tables change)) unmapped_entry tables change

before_sized : (tables : Durable Entry) (b : Bool) → (cond b (interrupted_durable tables) tables).geometry ≡ tables.geometry
before_sized tables true = refl
before_sized tables false = refl

-- a record leaves the sizes
pub after_sized : (tables : Durable Entry) (r : LogRecord) → (after_record tables r).geometry ≡ tables.geometry
unfolding after_record
after_sized tables r = replayed_sized (before_record tables r) r.change r.places ∙ before_sized tables r.marked

-- ---- a payload

pub payload_decoded : (slot : ℕ) (payload : List ℕ) (tables : Durable Entry) (r : Record) → record_in payload ≡ Ok r → applied slot (Some payload) tables ≡ fitted slot tables r
unfolding applied
payload_decoded slot payload tables r is = ap (decoded slot tables) is

pub payload_wrong : (slot at : ℕ) (payload : List ℕ) (tables : Durable Entry) → record_in payload ≡ Err at → applied slot (Some payload) tables ≡ Err (damaged part.Slot slot (8 + at))
unfolding applied
payload_wrong slot at payload tables is = ap (decoded slot tables) is

-- what is told of a payload that spells no record
pub bad_payload : (slot at : ℕ) (payload : List ℕ) (tables : Durable Entry) (fault : RecordFault) (told : ArrayFault) → fault ≡ wrong.Bad at → told ≡ damaged_at part.Slot slot (8 + at) → IsFaultOf fault (record_in payload)
    → IsFaultIn (applied slot (Some payload) tables) told
bad_payload slot at payload tables (wrong.Bad place) told is tells spells =
    let same : place ≡ at = cc in
    subst (IsFaultIn (applied slot (Some payload) tables)) (sym tells) (payload_wrong slot at payload tables (spells ∙ ap (λ (n : ℕ). let r : Result Record ℕ = Err n in r) same))
bad_payload slot at payload tables wrong.NoMemory told is tells spells = absurd cc

pub applied_sized : (r : Replayed) (old new : Durable Entry) (log : LogRecord) → r ≡ Applied → IsReplayed (Ok r) old new log → new.geometry ≡ old.geometry
applied_sized Applied old new log is done = ap (λ (d : Durable Entry). d.geometry) done.1 ∙ after_sized old log
applied_sized Misfit old new log is done = absurd cc

-- ---- a slot

-- what the next slot and those behind it make of tables
slot_found : (j : JournalState) (image : List ℕ) (t : Durable Entry) → j.records < 256
    → slots_found j image t ≡ cond (gate_of_next j image == 1) (behind (slots_found (journal_past true j) image) (applied j.records (payload_of_next j image) t)) (Ok t)
unfolding slots
slot_found j image t lt =
    let left : 256 - j.records ≡ suc (256 - (j.records + 1)) = omega (arith, lt) in
    ap (λ (n : ℕ). slots j.geometry j.half image n j.records t) left

found_shut : (j : JournalState) (image : List ℕ) (t : Durable Entry) → j.records < 256 → gate_of_next j image ≢ 1 → slots_found j image t ≡ Ok t
found_shut j image t lt shut =
    slot_found j image t lt
    ∙ ap (λ b. cond b (behind (slots_found (journal_past true j) image) (applied j.records (payload_of_next j image) t)) (Ok t)) (ne_eqb _ _ shut)

found_open : (j : JournalState) (image : List ℕ) (t : Durable Entry) (payload : Option (List ℕ)) → j.records < 256 → gate_of_next j image ≡ 1 → payload_of_next j image ≡ payload
    → slots_found j image t ≡ behind (slots_found (journal_past true j) image) (applied j.records payload t)
found_open j image t payload lt one is =
    slot_found j image t lt
    ∙ ap (λ b. cond b (behind (slots_found (journal_past true j) image) (applied j.records (payload_of_next j image) t)) (Ok t)) (eq-eqb _ _ one)
    ∙ ap (λ (o : Option (List ℕ)). behind (slots_found (journal_past true j) image) (applied j.records o t)) is

-- a fault of a slot is that of the whole
fault_ahead : (next : Durable Entry → Found) (x : Found) (fault : ArrayFault) → IsFaultIn x fault → IsFaultIn (behind next x) fault
fault_ahead next x (NotFormatted n) is = ap (behind next) is
fault_ahead next x (Damaged damage) is = ap (behind next) is
fault_ahead next x (Disk fault) is = tt
fault_ahead next x NoMemory is = tt

nothing_there : (slot : ℕ) (tables : Durable Entry) → applied slot None tables ≡ Err (damaged part.Slot slot 0)
unfolding applied
nothing_there slot tables = refl

-- its gate isn't open
pub passed_shut : (j : JournalState) (got : List ℕ) (t : Durable Entry) (told : Option (List ℕ)) (read : SlotRead) → read ≡ Closed → j.records < 256 → IfSome told (StandsNext j got read) → IfSome told (HasPassed false j t t)
passed_shut j got t None read what lt next = tt
passed_shut j got t (Some c) Closed what lt next = (next, found_shut j c t lt next)
passed_shut j got t (Some c) Bad what lt next = absurd cc
passed_shut j got t (Some c) (Payload n) what lt next = absurd cc

-- it has no payload
pub slot_wrong : (j : JournalState) (got : List ℕ) (t : Durable Entry) (told : Option (List ℕ)) (slot : ℕ) (fault : ArrayFault) (read : SlotRead) → read ≡ Bad → j.records < 256 → slot ≡ j.records → fault ≡ damaged_at part.Slot slot 0
    → IfSome told (StandsNext j got read) → IfSome told (λ c. IsFaultIn (slots_found j c t) fault)
slot_wrong j got t None slot fault read what lt at is next = tt
slot_wrong j got t (Some c) slot fault Closed what lt at is next = absurd cc
slot_wrong j got t (Some c) slot fault (Payload n) what lt at is next = absurd cc
slot_wrong j got t (Some c) slot fault Bad what lt at is next =
    let stands : slots_found j c t ≡ Err (damaged part.Slot j.records 0) = found_open j c t None lt next.0 next.1 ∙ ap (behind (slots_found (journal_past true j) c)) (nothing_there j.records t) in
    subst (λ (f : ArrayFault). IsFaultIn (slots_found j c t) f) (sym (is ∙ ap (λ (n : ℕ). damaged_at part.Slot n 0) at)) stands

-- its record was applied
pub passed_open : (j : JournalState) (len : ℕ) (got : List ℕ) (t after : Durable Entry) (told : Option (List ℕ)) (slot : ℕ) (read : SlotRead) → read ≡ Payload len → j.records < 256 → slot ≡ j.records → IfSome told (StandsNext j got read)
    → applied slot (Some (take len got)) t ≡ Ok after → IfSome told (HasPassed true j t after)
passed_open j len got t after None slot read what lt at next is = tt
passed_open j len got t after (Some c) slot read what lt at stands is =
    let next : StandsNext j got (Payload len) c = subst (λ (r : SlotRead). StandsNext j got r c) what stands in
    let here : applied j.records (Some (take len got)) t ≡ Ok after = ap (λ (n : ℕ). applied n (Some (take len got)) t) (sym at) ∙ is in
    (take len got, next.0, next.1, found_open j c t (Some (take len got)) lt next.0 next.1 ∙ ap (behind (slots_found (journal_past true j) c)) here)

-- its record wasn't
pub payload_fails : (j : JournalState) (len : ℕ) (got : List ℕ) (t : Durable Entry) (told : Option (List ℕ)) (slot : ℕ) (fault : ArrayFault) (read : SlotRead) → read ≡ Payload len → j.records < 256 → slot ≡ j.records → IfSome told (StandsNext j got read)
    → IsFaultIn (applied slot (Some (take len got)) t) fault → IfSome told (λ c. IsFaultIn (slots_found j c t) fault)
payload_fails j len got t None slot fault read what lt at next is = tt
payload_fails j len got t (Some c) slot fault read what lt at stands is =
    let next : StandsNext j got (Payload len) c = subst (λ (r : SlotRead). StandsNext j got r c) what stands in
    let here : IsFaultIn (applied j.records (Some (take len got)) t) fault = subst (λ (n : ℕ). IsFaultIn (applied n (Some (take len got)) t) fault) at is in
    subst (λ (x : Found). IsFaultIn x fault) (sym (found_open j c t (Some (take len got)) lt next.0 next.1))
    (fault_ahead (slots_found (journal_past true j) c) (applied j.records (Some (take len got)) t) fault here)

-- ---- slot after slot

-- some head of an image with this journal
abbrev head_for : JournalState → LogHead
head_for j = record { geometry = j.geometry; half = j.half; spelling = 2; area_len = 0 }

pub come_first : (j : JournalState) (t : Durable Entry) (told : Option (List ℕ)) → j.records ≡ 0 → IfSome told (HasComeTo j j t t)
come_first j t None none = tt
come_first j t (Some c) none = record {
  records = [];
  read = subst (λ (n : ℕ). HasRead (journal_at (head_for j) n) [] c) (sym none) (read_none (head_for j) c);
  same = refl;
}

more_read : (j : JournalState) (payload image : List ℕ) (records : List (List ℕ)) → HasRead j records image → gate_of_next j image ≡ 1 → payload_of_next j image ≡ Some payload → HasRead (journal_past true j) (records ++ payload ∷ []) image
more_read j payload image records read one is =
    let whole : take (length payload) payload ≡ payload = take-length payload in
    subst (λ (p : List ℕ). HasRead (journal_past true j) (records ++ p ∷ []) image) whole
    (read_more (head_for j) j.records (length payload) payload image records read (one, is ∙ ap (λ (p : List ℕ). Some p) (sym whole)))

pub come_more : (begun j now : JournalState) (first t after : Durable Entry) (told again : Option (List ℕ)) (more : Bool) → more ≡ true → again ≡ told → now ≡ journal_past more j → IfSome told (HasComeTo begun j first t)
    → IfSome again (HasPassed more j t after) → IfSome told (HasComeTo begun now first after)
come_more begun j now first t after None again more there same is come passed = tt
come_more begun j now first t after (Some c) again false there same is come passed = absurd cc
come_more begun j now first t after (Some c) again true there same is come passed =
    let one : HasPassed true j t after c = subst (λ (o : Option (List ℕ)). IfSome o (HasPassed true j t after)) same passed in
    subst (λ (k : JournalState). HasComeTo begun k first after c) (sym is)
    (record {
      records = come.records ++ one.0 ∷ [];
      read = more_read j one.0 c come.records come.read one.1 one.2;
      same = come.same ∙ one.3;
    })

-- the journal past a slot
pub past_geometry : (more : Bool) (j now : JournalState) → now ≡ journal_past more j → now.geometry ≡ j.geometry
past_geometry true j now is = ap (λ (k : JournalState). k.geometry) is
past_geometry false j now is = ap (λ (k : JournalState). k.geometry) is

pub past_half : (more : Bool) (j now : JournalState) → now ≡ journal_past more j → now.half ≡ j.half
past_half true j now is = ap (λ (k : JournalState). k.half) is
past_half false j now is = ap (λ (k : JournalState). k.half) is

pub past_count : (more : Bool) (j now : JournalState) → more ≡ true → now ≡ journal_past more j → now.records ≡ j.records + 1
past_count true j now there is = ap (λ (k : JournalState). k.records) is
past_count false j now there is = absurd cc

found_nothing_left : (j : JournalState) (image : List ℕ) (t : Durable Entry) → j.records ≡ 256 → slots_found j image t ≡ Ok t
unfolding slots
found_nothing_left j image t all =
    let left : 256 - j.records ≡ 0 = omega (arith, all) in
    ap (λ (n : ℕ). slots j.geometry j.half image n j.records t) left

pub come_through : (begun j : JournalState) (first t : Durable Entry) (told : Option (List ℕ)) → j.records ≡ 256 → IfSome told (HasComeTo begun j first t) → IfSome told (HasReplayed begun j first t)
come_through begun j first t None all come = tt
come_through begun j first t (Some c) all come = record {
  records = come.records;
  read = come.read;
  finds = come.same ∙ found_nothing_left j c t all;
  shut = λ lt. absurd (omega (arith, all, lt));
}
