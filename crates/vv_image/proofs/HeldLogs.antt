-- An image that is opened holds a log, and stands for the tables of that log. It serves the law.
use Rattle.std.proofs.Common.{◌≡◌, ◌≢◌, ◌==◌, ℕ, zero, suc, ◌+◌, ◌<◌, ◌≤◌, true, false, Bool, cond, List, [], ◌∷◌, ◌++◌, take, length, Option, None, Some, Result, Ok, Err, refl, sym, ap, ◌∙◌, subst, arith}
use Rattle.std.proofs.lemmas.Bool.{eqb-true, eqb-false}
use Rattle.std.proofs.Math.Seq.{take-length}
use Rattle.vv_flat.specs.State.{Durable}
use Rattle.vv_flat.specs.Chunks.{Entry}
use Rattle.vv_flat.specs.Logs.{record_fits, after_record}
use Rattle.vv_record.specs.declared.record.Record.{Record}
use Rattle.vv_record.specs.Records.{record_in}
use Rattle.vv_data.specs.Layout.{disk_len}
use Rattle.vv_journal.specs.declared.opening.LogHead.{LogHead}
use Rattle.vv_journal.specs.declared.opening.OpenFault.{OpenFault}
use Rattle.vv_journal.specs.declared.opening.OpenFault.TheVariants.{NotFormatted}
use Rattle.vv_journal.specs.Calls.{JournalState}
use Rattle.vv_journal.specs.Header.{Header, header_of, half_of}
use Rattle.vv_journal.specs.Half.{Area, area_of, length_field, length_in, tables_at}
use Rattle.vv_journal.specs.Log.{Log, log_of}
use Rattle.vv_journal.specs.Openings.{damaged, HasHead, HasRead, HoldsRead, checked, fault_behind, journal_at, open_fault}
use Rattle.vv_journal.proofs.Parts.{area_parts}
use Rattle.vv_journal.proofs.Replayed.{read_none, read_more, read_all}
use Rattle.vv_event.specs.Events.{log_record}
use Rattle.vv_image.specs.Opening.{Found, behind, decoded, fitted, applied, gate_at, payload_in, slots, payloads, area_tables, opened, opened_area, opened_header, log_tables}
use Rattle.vv_units.specs.declared.damage.Part.TheVariants.{Area as in_area}
use Rattle.vv_image.proofs.Records.{behind_parts, behind_from, payloads_more, found}
use Rattle.vv_image.proofs.Formed.{fitted_parts}

-- ---- a record that was applied would be applied to the same in another slot

decoded_again : (slot other : ℕ) (tables after : Durable Entry) (read : Result Record ℕ) → decoded slot tables read ≡ Ok after → decoded other tables read ≡ Ok after
decoded_again slot other tables after (Err at) e = absurd cc
decoded_again slot other tables after (Ok r) e =
    let parts = fitted_parts slot tables after r (record_fits tables (log_record r)) refl e in
    let again : fitted other tables r ≡ Ok (after_record tables (log_record r)) = rw parts.0 refl in
    again ∙ ap (λ (t : Durable Entry). Ok t) parts.1

applied_again : (slot other : ℕ) (payload : List ℕ) (tables after : Durable Entry) → applied slot (Some payload) tables ≡ Ok after → applied other (Some payload) tables ≡ Ok after
unfolding applied
applied_again slot other payload tables after e = decoded_again slot other tables after (record_in payload) e

-- ---- slot after slot

-- what is held in the end: the records of the log, which give these tables
pub record HeldLog (head : LogHead) (image : List ℕ) (first after : Durable Entry) : Type 0 where
  pub records : List (List ℕ)
  pub holds : HoldsRead head records image
  pub gives : payloads 0 records first ≡ Ok after

all_held : (head : LogHead) (n : ℕ) (image : List ℕ) (records : List (List ℕ)) (first tables after : Durable Entry) → n ≤ 256 → HasHead head image → HasRead (journal_at head n) records image → payloads 0 records first ≡ Ok tables → (n < 256 → gate_at head.geometry head.half image n ≢ 1)
    → found tables ≡ Ok after → HeldLog head image first after
all_held head n image records first tables after le has read gives shut e = record { records = records; holds = read_all head n image records le has read shut; gives = gives ∙ e }

one_held : (head : LogHead) (n left : ℕ) (image payload : List ℕ) (records : List (List ℕ)) (first tables next : Durable Entry) → HasRead (journal_at head n) records image → payloads 0 records first ≡ Ok tables
    → gate_at head.geometry head.half image n ≡ 1 → payload_in head.geometry head.half image n ≡ Some payload → applied n (Some payload) tables ≡ Ok next
    → HasRead (journal_at head (n + 1)) (records ++ payload ∷ []) image × (payloads 0 (records ++ payload ∷ []) first ≡ Ok next)
one_held head n left image payload records first tables next read gives gate is e =
    let whole : take (length payload) payload ≡ payload = take-length payload in
    let more = read_more head n (length payload) payload image records read (gate, is ∙ ap (λ (p : List ℕ). Some p) (sym whole)) in (
      subst (λ (p : List ℕ). HasRead (journal_at head (n + 1)) (records ++ p ∷ []) image) whole more,
      payloads_more 0 records payload first tables next gives (λ at. applied_again n at payload tables next e),
    )

-- either the gate isn't open and that is all, or it is and there is more
gate_step : {P : Type 0} (gate : ℕ) (b : Bool) (next : Found) (tables after : Durable Entry) → (gate == 1) ≡ b → cond b next (Ok tables) ≡ Ok after
    → (gate ≢ 1 → found tables ≡ Ok after → P) → (gate ≡ 1 → next ≡ Ok after → P) → P
gate_step gate true next tables after is e shut open_too = open_too (eqb-true gate 1 is) e
gate_step gate false next tables after is e shut open_too = shut (eqb-false gate 1 is) e

-- an open slot has a payload
payload_step : {P : Type 0} (n : ℕ) (payload : Option (List ℕ)) (next : Durable Entry → Found) (tables after : Durable Entry) → behind next (applied n payload tables) ≡ Ok after
    → ((p : List ℕ) → payload ≡ Some p → behind next (applied n (Some p) tables) ≡ Ok after → P) → P
unfolding applied
payload_step n None next tables after e there = absurd cc
payload_step n (Some p) next tables after e there = there p refl e

slots_held : (head : LogHead) (image : List ℕ) → HasHead head image → (left n : ℕ) (records : List (List ℕ)) (first tables after : Durable Entry) → n + left ≡ 256 → HasRead (journal_at head n) records image → payloads 0 records first ≡ Ok tables
    → slots head.geometry head.half image left n tables ≡ Ok after → HeldLog head image first after
unfolding slots
slots_held head image has zero n records first tables after all read gives e =
    all_held head n image records first tables after (omega (arith, all)) has read gives (λ lt. absurd (omega (arith, lt, all))) e
slots_held head image has (suc left) n records first tables after all read gives e =
    let next : Durable Entry → Found = slots head.geometry head.half image left (n + 1) in
    let payload : Option (List ℕ) = payload_in head.geometry head.half image n in
    let gate : ℕ = gate_at head.geometry head.half image n in
    gate_step gate (gate == 1) (behind next (applied n payload tables)) tables after refl e
    (λ shut f. all_held head n image records first tables after (omega (arith, all)) has read gives (λ lt. shut) f)
    (λ one f. payload_step n payload next tables after f (λ p is g.
    let parts = behind_parts next (applied n (Some p) tables) after g in
    let more = one_held head n left image p records first tables parts.0 read gives one is parts.1 in
    slots_held head image has left (n + 1) (records ++ p ∷ []) first parts.0 after (omega (arith, all)) more.0 more.1 parts.2))

-- ---- the head of an image that is opened

checked_parts : (b : Bool) (fault : OpenFault) (next : Option OpenFault) → checked b fault next ≡ None → (b ≡ true) × (next ≡ None)
checked_parts true fault next e = (refl, e)
checked_parts false fault next e = absurd cc

fault_parts : (image : List ℕ) (header : Header) → open_fault image ≡ None → header_of image ≡ Some header → length image ≡ disk_len header.geometry
unfolding open_fault
fault_parts image header e is =
    let long = checked_parts _ _ _ e in
    let formatted = checked_parts _ _ _ long.1 in
    let size = checked_parts _ _ _ (sym (ap (λ (o : Option Header). fault_behind o image) is) ∙ formatted.1) in
    eqb-true _ _ size.0

-- ---- the log that is held stands for the tables

abbrev pub Holding : List ℕ → Durable Entry → Type 0
Holding image tables = (log : Log) × (log_of image ≡ Some log) × (log_tables log ≡ Ok tables)

abbrev head_of : Header → List ℕ → Area → LogHead
head_of header image area = record {
  geometry = header.geometry;
  half = half_of image;
  spelling = area.spelling;
  area_len = length_in (length_field header.geometry (half_of image) image);
}

has_head : (header : Header) (image : List ℕ) (area : Area) → open_fault image ≡ None → header_of image ≡ Some header → area_of header (half_of image) image ≡ Some area → HasHead (head_of header image area) image
has_head header image area fault is is_area =
    let parts = area_parts header (half_of image) image area is_area in
    record {
      version = header.version;
      header = is;
      half = refl;
      size = fault_parts image header fault is;
      area = is_area ∙ ap (λ (t : List ℕ). let a : Area = record { spelling = area.spelling; tables = t } in Some a) (sym (ap (λ (a : Area). a.tables) parts.is));
    }

same_area : (header : Header) (image : List ℕ) (area : Area) → area_of header (half_of image) image ≡ Some area → tables_at header.geometry (half_of image) (length_in (length_field header.geometry (half_of image) image)) image ≡ area.tables
same_area header image area is_area = ap (λ (a : Area). a.tables) (area_parts header (half_of image) image area is_area).is

log_gives : (header : Header) (image : List ℕ) (area : Area) (first after : Durable Entry) → area_of header (half_of image) image ≡ Some area → area_tables header.geometry (half_of image) area.spelling area.tables ≡ Ok first
    → HeldLog (head_of header image area) image first after → Holding image after
unfolding log_tables
log_gives header image area first after is_area stands held =
    let log : Log = held.holds.0 in
    let geometry : log.geometry ≡ header.geometry = ap (λ (j : JournalState). j.geometry) held.holds.2 in
    let half : log.half ≡ half_of image = ap (λ (j : JournalState). j.half) held.holds.2 in
    let tables : log.area ≡ area.tables = held.holds.5 ∙ same_area header image area is_area in
    let spelling : log.spelling ≡ area.spelling = held.holds.4 in
    let begins : area_tables log.geometry log.half log.spelling log.area ≡ Ok first = rw (geometry, half, spelling, tables) stands in
    (log, held.holds.1, behind_from (payloads 0 log.records) (area_tables log.geometry log.half log.spelling log.area) first after begins (ap (λ (rs : List (List ℕ)). payloads 0 rs first) held.holds.3 ∙ held.gives))

no_payloads : (tables : Durable Entry) → payloads 0 [] tables ≡ Ok tables
unfolding payloads
no_payloads tables = refl

area_holds : (header : Header) (image : List ℕ) (area : Area) (after : Durable Entry) → open_fault image ≡ None → header_of image ≡ Some header → area_of header (half_of image) image ≡ Some area → opened_area header image area ≡ Ok after → Holding image after
area_holds header image area after fault is is_area e =
    let head : LogHead = head_of header image area in
    let parts = behind_parts (slots header.geometry (half_of image) image 256 0) (area_tables header.geometry (half_of image) area.spelling area.tables) after e in
    log_gives header image area parts.0 after is_area parts.1
    (slots_held head image (has_head header image area fault is is_area) 256 0 [] parts.0 parts.0 after (omega arith) (read_none head image) (no_payloads parts.0) parts.2)

header_holds : (header : Header) (image : List ℕ) (area : Option Area) (after : Durable Entry) → open_fault image ≡ None → header_of image ≡ Some header → area_of header (half_of image) image ≡ area → opened_header image header ≡ Ok after → Holding image after
header_holds header image None after fault is is_area e = let fails : opened_header image header ≡ Err (damaged in_area 0 (half_of image)) = rw is_area refl in absurd cc
header_holds header image (Some area) after fault is is_area e =
    let stands : opened_header image header ≡ opened_area header image area = rw is_area refl in
    area_holds header image area after fault is is_area (sym stands ∙ e)

holds_by : (image : List ℕ) (fault : Option OpenFault) (header : Option Header) (after : Durable Entry) → open_fault image ≡ fault → header_of image ≡ header → opened image ≡ Ok after → Holding image after
unfolding opened
holds_by image (Some fault) header after no_fault is e = let fails : opened image ≡ Err fault = rw no_fault refl in absurd cc
holds_by image None None after no_fault is e = let fails : opened image ≡ Err (NotFormatted (length image)) = rw (no_fault, is) refl in absurd cc
holds_by image None (Some header) after no_fault is e =
    let stands : opened image ≡ opened_header image header = rw (no_fault, is) refl in
    header_holds header image (area_of header (half_of image) image) after no_fault is refl (sym stands ∙ e)

pub opened_holds : (image : List ℕ) (tables : Durable Entry) → opened image ≡ Ok tables → Holding image tables
opened_holds image tables e = holds_by image (open_fault image) (header_of image) tables refl refl e
