-- The tables for which an image of bytes stands are well-formed. It serves the law.
use Rattle.std.proofs.Common.{◌≡◌, ◌&&◌, ◌==◌, ℕ, zero, suc, ◌+◌, true, false, Bool, cond, List, drop, length, Option, None, Some, Result, Ok, Err, refl, sym, ◌∙◌, subst}
use Rattle.std.proofs.lemmas.Bool.{and_from}
use Rattle.vv_units.specs.declared.geometry.Geometry.{Geometry}
use Rattle.vv_fields.specs.Fields.{AreBytes}
use Rattle.vv_fields.proofs.ByteLemmas.{AreBytes-drop, AreBytes-take}
use Rattle.vv_disk.specs.Images.{bytes_at}
use Rattle.vv_flat.specs.State.{Durable}
use Rattle.vv_flat.specs.Chunks.{Entry}
use Rattle.vv_flat.specs.Form.{is_formed}
use Rattle.vv_flat.specs.Rules.{RuleFault, first_fault, meets_rules}
use Rattle.vv_flat.specs.Fields.{have_forms}
use Rattle.vv_flat.specs.WellFormed.{is_well_formed}
use Rattle.vv_flat.specs.Logs.{record_fits, after_record}
use Rattle.vv_laws.proofs.Replays.{after_well}
use Rattle.vv_record.specs.declared.record.Record.{Record}
use Rattle.vv_record.specs.Records.{record_in}
use Rattle.vv_record.proofs.RecordLaws as records
use Rattle.vv_area.specs.Area.{tables_in}
use Rattle.vv_area.proofs.AreaLaws as areas
use Rattle.vv_area.proofs.ReadForms.{has_form, has_forms}
use Rattle.vv_journal.specs.declared.opening.OpenFault.{OpenFault}
use Rattle.vv_journal.specs.declared.opening.OpenFault.TheVariants.{NotFormatted}
use Rattle.vv_journal.specs.Header.{Header, header_of, half_of}
use Rattle.vv_journal.specs.Half.{Area, area_of, slot_at}
use Rattle.vv_units.specs.declared.damage.Part.TheVariants.{Area as in_area, Rule as in_rule, Record as in_record}
use Rattle.vv_journal.specs.Openings.{damaged, open_fault}
use Rattle.vv_journal.proofs.Parts.{payload_parts, area_parts}
use Rattle.vv_event.specs.Events.{log_record}
use Rattle.vv_image.specs.Opening.{Found, behind, fitted, decoded, applied, gate_at, payload_in, slots, ruled, spelled, area_tables, opened, opened_area, opened_header}
use Rattle.vv_image.proofs.Records.{behind_parts, found}
use Rattle.vv_image.proofs.Forms.{event_has_forms}

bytes_within : (at n : ℕ) (image : List ℕ) → AreBytes image → AreBytes (bytes_at at n image)
bytes_within at n image are = AreBytes-take n (drop at image) (AreBytes-drop at image are)

-- ---- a record

pub fitted_parts : (slot : ℕ) (tables after : Durable Entry) (r : Record) (b : Bool) → record_fits tables (log_record r) ≡ b → fitted slot tables r ≡ Ok after
    → (record_fits tables (log_record r) ≡ true) × (after_record tables (log_record r) ≡ after)
fitted_parts slot tables after r true is e = (is, let e1 : fitted slot tables r ≡ Ok (after_record tables (log_record r)) = rw is refl in cc)
fitted_parts slot tables after r false is e = let e1 : fitted slot tables r ≡ Err (damaged in_record slot (tables.lsn + 1)) = rw is refl in absurd cc

decoded_well : (slot : ℕ) (payload : List ℕ) (tables after : Durable Entry) (read : Result Record ℕ) → AreBytes payload → record_in payload ≡ read → is_well_formed tables ≡ true
    → decoded slot tables read ≡ Ok after → is_well_formed after ≡ true
decoded_well slot payload tables after (Err at) are is well e = absurd cc
decoded_well slot payload tables after (Ok r) are is well e =
    let forms = event_has_forms r.event (records.read_is_spelled payload r are is).1 in
    let parts = fitted_parts slot tables after r (record_fits tables (log_record r)) refl e in
    subst (λ (t : Durable Entry). is_well_formed t ≡ true) parts.1 (after_well tables (log_record r) well forms parts.0)

applied_well : (slot : ℕ) (payload : Option (List ℕ)) (tables after : Durable Entry) → ((p : List ℕ) → payload ≡ Some p → AreBytes p) → is_well_formed tables ≡ true
    → applied slot payload tables ≡ Ok after → is_well_formed after ≡ true
unfolding applied
applied_well slot None tables after are well e = absurd cc
applied_well slot (Some payload) tables after are well e = decoded_well slot payload tables after (record_in payload) (are payload refl) refl well e

payload_bytes : (geometry : Geometry) (half : ℕ) (image : List ℕ) (slot : ℕ) → AreBytes image → (p : List ℕ) → payload_in geometry half image slot ≡ Some p → AreBytes p
payload_bytes geometry half image slot are p is =
    let parts = payload_parts (slot_at geometry half slot) image p is in
    subst AreBytes parts.is (bytes_within _ _ image are)

-- ---- slots

same_well : (tables after : Durable Entry) → found tables ≡ Ok after → is_well_formed tables ≡ true → is_well_formed after ≡ true
same_well tables after e well = let same : tables ≡ after = cc in subst (λ (t : Durable Entry). is_well_formed t ≡ true) same well

slot_step : (b : Bool) (next : Found) (tables after : Durable Entry) → cond b next (Ok tables) ≡ Ok after → is_well_formed tables ≡ true → (next ≡ Ok after → is_well_formed after ≡ true) → is_well_formed after ≡ true
slot_step true next tables after e well there = there e
slot_step false next tables after e well there = same_well tables after e well

slots_well : (geometry : Geometry) (half : ℕ) (image : List ℕ) → AreBytes image → (left slot : ℕ) (tables after : Durable Entry) → is_well_formed tables ≡ true
    → slots geometry half image left slot tables ≡ Ok after → is_well_formed after ≡ true
unfolding slots
slots_well geometry half image are zero slot tables after well e = same_well tables after e well
slots_well geometry half image are (suc left) slot tables after well e =
    slot_step (gate_at geometry half image slot == 1) (behind (slots geometry half image left (slot + 1)) (applied slot (payload_in geometry half image slot) tables)) tables after e well
    (λ f.
    let parts = behind_parts (slots geometry half image left (slot + 1)) (applied slot (payload_in geometry half image slot) tables) after f in
    slots_well geometry half image are left (slot + 1) parts.0 after (applied_well slot (payload_in geometry half image slot) tables parts.0 (payload_bytes geometry half image slot are) well parts.1) parts.2)

-- ---- the area

ruled_parts : (tables after : Durable Entry) (fault : Option RuleFault) → first_fault tables ≡ fault → ruled tables ≡ Ok after → (meets_rules tables ≡ true) × (tables ≡ after)
ruled_parts tables after None is e = let stands : ruled tables ≡ Ok tables = rw is refl in (rw is refl, cc)
ruled_parts tables after (Some fault) is e = let fails : ruled tables ≡ Err (damaged in_rule fault.rule fault.found) = rw is refl in absurd cc

spelled_well : (geometry : Geometry) (half spelling : ℕ) (area : List ℕ) (tables : Durable Entry) (read : Result (Durable Entry) ℕ) → AreBytes area → tables_in geometry spelling area ≡ read → spelled half read ≡ Ok tables → is_well_formed tables ≡ true
unfolding is_well_formed
spelled_well geometry half spelling area tables (Err at) are is e = absurd cc
spelled_well geometry half spelling area tables (Ok read) are is e =
    let spells = areas.read_is_spelled geometry spelling area read are is in
    let parts = ruled_parts read tables (first_fault read) refl e in
    subst (λ (t : Durable Entry). (is_formed t && meets_rules t && have_forms t) ≡ true) parts.1
    (and_from _ _ (and_from _ _ (has_form spelling read spells.1) parts.0) (has_forms spelling read spells.1))

area_well : (geometry : Geometry) (half spelling : ℕ) (area : List ℕ) (tables : Durable Entry) → AreBytes area → area_tables geometry half spelling area ≡ Ok tables → is_well_formed tables ≡ true
unfolding area_tables
area_well geometry half spelling area tables are e = spelled_well geometry half spelling area tables (tables_in geometry spelling area) are refl e

-- ---- the image

area_bytes : (header : Header) (half : ℕ) (image : List ℕ) (area : Area) → AreBytes image → area_of header half image ≡ Some area → AreBytes area.tables
area_bytes header half image area are is =
    let parts = area_parts header half image area is in
    subst (λ (a : Area). AreBytes a.tables) parts.is (bytes_within _ _ image are)

header_well : (image : List ℕ) (header : Header) (area : Option Area) (tables : Durable Entry) → AreBytes image → area_of header (half_of image) image ≡ area → opened_header image header ≡ Ok tables → is_well_formed tables ≡ true
header_well image header None tables are is e = let fails : opened_header image header ≡ Err (damaged in_area 0 (half_of image)) = rw is refl in absurd cc
header_well image header (Some area) tables are is e =
    let stands : opened_header image header ≡ opened_area header image area = rw is refl in
    let parts = behind_parts (slots header.geometry (half_of image) image 256 0) (area_tables header.geometry (half_of image) area.spelling area.tables) tables (sym stands ∙ e) in
    slots_well header.geometry (half_of image) image are 256 0 parts.0 tables (area_well header.geometry (half_of image) area.spelling area.tables parts.0 (area_bytes header (half_of image) image area are is) parts.1) parts.2

opened_by : (image : List ℕ) (fault : Option OpenFault) (header : Option Header) (tables : Durable Entry) → AreBytes image → open_fault image ≡ fault → header_of image ≡ header → opened image ≡ Ok tables → is_well_formed tables ≡ true
unfolding opened
opened_by image (Some fault) header tables are no_fault is e = let fails : opened image ≡ Err fault = rw no_fault refl in absurd cc
opened_by image None None tables are no_fault is e = let fails : opened image ≡ Err (NotFormatted (length image)) = rw (no_fault, is) refl in absurd cc
opened_by image None (Some header) tables are no_fault is e =
    let stands : opened image ≡ opened_header image header = rw (no_fault, is) refl in
    header_well image header (area_of header (half_of image) image) tables are refl (sym stands ∙ e)

pub opened_well : (image : List ℕ) (tables : Durable Entry) → AreBytes image → opened image ≡ Ok tables → is_well_formed tables ≡ true
opened_well image tables are e = opened_by image (open_fault image) (header_of image) tables are refl refl e
