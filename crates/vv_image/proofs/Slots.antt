-- The records of an image, slot by slot, are those of the log that it holds. It serves the laws of images.
use Rattle.std.proofs.Common.{◌≡◌, ◌≢◌, ⊎_elim, ℕ, zero, suc, ◌+◌, ◌<◌, ◌≤◌, cond, List, [], ◌∷◌, ◌++◌, length, get_or, Option, Some, Ok, Err, refl, sym, ap, ◌∙◌, arith}
use Rattle.std.proofs.lemmas.Bool.{eq-eqb, ne_eqb, cases_eq}
use Rattle.std.proofs.lemmas.List.{get_or_append_left}
use Rattle.std.proofs.Math.Seq.{get_or-append_seam}
use Rattle.vv_units.specs.declared.geometry.Geometry.{Geometry}
use Rattle.vv_flat.specs.Lists.{if_found}
use Rattle.vv_flat.specs.State.{Durable}
use Rattle.vv_flat.specs.Chunks.{Entry}
use Rattle.vv_journal.specs.Header.{half_of}
use Rattle.vv_journal.specs.Half.{Area, all_given, area_of, gates_of, open_count, records_of}
use Rattle.vv_journal.specs.Log.{Log, log_of}
use Rattle.vv_units.specs.declared.damage.Part.TheVariants.{Area as in_area}
use Rattle.vv_journal.specs.Openings.{damaged}
use Rattle.vv_journal.proofs.Options.{given_parts, length-given}
use Rattle.vv_journal.proofs.Parts.{parts_of, header_in, area_in}
use Rattle.vv_journal.proofs.Gates.{open_before, open_more, gate_is, few_open}
use Rattle.vv_journal.proofs.Opened.{log_opens}
use Rattle.vv_image.specs.Opening.{Found, behind, applied, gate_at, payload_in, slots, payloads, area_tables, opened, log_tables}

pub behind_same : (f g : Durable Entry → Found) → ((t : Durable Entry) → f t ≡ g t) → (x : Found) → behind f x ≡ behind g x
behind_same f g same (Err fault) = refl
behind_same f g same (Ok tables) = same tables

-- these payloads stand in open slots from one on, and the slot behind them isn't open, if there is one
pub record AreSlots (geometry : Geometry) (half : ℕ) (image : List ℕ) (left slot : ℕ) (records : List (List ℕ)) : Type 0 where
  pub gates : (i : ℕ) → i < length records → gate_at geometry half image (slot + i) ≡ 1
  pub payloads : (i : ℕ) → i < length records → payload_in geometry half image (slot + i) ≡ Some (get_or records i [])
  pub few : length records ≤ left
  pub shut : length records < left → gate_at geometry half image (slot + length records) ≢ 1

closed_slot : (geometry : Geometry) (half : ℕ) (image : List ℕ) (left slot : ℕ) (tables : Durable Entry) → gate_at geometry half image slot ≢ 1 → slots geometry half image (suc left) slot tables ≡ Ok tables
unfolding slots
closed_slot geometry half image left slot tables shut =
    ap (λ b. cond b (behind (slots geometry half image left (slot + 1)) (applied slot (payload_in geometry half image slot) tables)) (Ok tables)) (ne_eqb _ _ shut)

open_slot : (geometry : Geometry) (half : ℕ) (image : List ℕ) (left slot : ℕ) (tables : Durable Entry) (payload : List ℕ) → gate_at geometry half image slot ≡ 1 → payload_in geometry half image slot ≡ Some payload
    → slots geometry half image (suc left) slot tables ≡ behind (slots geometry half image left (slot + 1)) (applied slot (Some payload) tables)
unfolding slots
open_slot geometry half image left slot tables payload is got =
    ap (λ b. cond b (behind (slots geometry half image left (slot + 1)) (applied slot (payload_in geometry half image slot) tables)) (Ok tables)) (eq-eqb _ _ is)
    ∙ ap (λ (o : Option (List ℕ)). behind (slots geometry half image left (slot + 1)) (applied slot o tables)) got

-- the rest of them from the next slot on
rest_of : (geometry : Geometry) (half : ℕ) (image : List ℕ) (left slot : ℕ) (payload : List ℕ) (rest : List (List ℕ)) → AreSlots geometry half image (suc left) slot (payload ∷ rest) → AreSlots geometry half image left (slot + 1) rest
rest_of geometry half image left slot payload rest are =
    let moved : (i : ℕ) → slot + suc i ≡ slot + 1 + i = λ i. omega arith in
    record {
      gates = λ i lt. ap (gate_at geometry half image) (sym (moved i)) ∙ are.gates (suc i) (omega (arith, lt));
      payloads = λ i lt. ap (payload_in geometry half image) (sym (moved i)) ∙ are.payloads (suc i) (omega (arith, lt));
      few = omega (arith, are.few);
      shut = λ lt one. are.shut (omega (arith, lt)) (ap (gate_at geometry half image) (moved (length rest)) ∙ one);
    }

pub slots_are_payloads : (geometry : Geometry) (half : ℕ) (image : List ℕ) (left slot : ℕ) (records : List (List ℕ)) (tables : Durable Entry) → AreSlots geometry half image left slot records
    → slots geometry half image left slot tables ≡ payloads slot records tables
unfolding slots payloads
slots_are_payloads geometry half image zero slot [] tables are = refl
slots_are_payloads geometry half image zero slot (payload ∷ rest) tables are = absurd (omega (arith, are.few))
slots_are_payloads geometry half image (suc left) slot [] tables are =
    let here : slot + 0 ≡ slot = omega arith in
    closed_slot geometry half image left slot tables (λ one. are.shut (omega arith) (ap (gate_at geometry half image) here ∙ one))
slots_are_payloads geometry half image (suc left) slot (payload ∷ rest) tables are =
    let here : slot ≡ slot + 0 = omega arith in
    open_slot geometry half image left slot tables payload (ap (gate_at geometry half image) here ∙ are.gates 0 (omega arith)) (ap (payload_in geometry half image) here ∙ are.payloads 0 (omega arith))
    ∙ behind_same _ _ (λ t. slots_are_payloads geometry half image left (slot + 1) rest t (rest_of geometry half image left slot payload rest are)) (applied slot (Some payload) tables)

-- ---- the records of a log stand in its slots

given_at : {X : Type 0} (given : ℕ → Option X) (m : ℕ) (items : List X) (d : X) (i : ℕ) → i < m → all_given given m ≡ Some items → given i ≡ Some (get_or items i d)
given_at given zero items d i lt e = absurd (omega (arith, lt))
given_at {X} given (suc m) items d i lt e =
    let parts = given_parts given m items e in
    let front : length parts.0 ≡ m = length-given given m parts.0 parts.2 in
    ⊎_elim
    (λ same. ap given same ∙ parts.3 ∙ ap (λ (x : X). Some x) (sym (get_or-append_seam parts.0 parts.1 [] d)) ∙ ap (λ (k : ℕ). Some (get_or (parts.0 ++ parts.1 ∷ []) k d)) (front ∙ sym same) ∙ ap (λ (l : List X). Some (get_or l i d)) parts.4)
    (λ other. given_at given m parts.0 d i (omega (arith, lt, other)) parts.2 ∙ ap (λ (x : X). Some x) (sym (get_or_append_left parts.0 (parts.1 ∷ []) d i (omega (arith, front, lt, other)))) ∙ ap (λ (l : List X). Some (get_or l i d)) parts.4)
    (cases_eq i m)

-- the gate behind the open ones isn't open
first_shut : (gates : List ℕ) → get_or gates (open_count gates) 0 ≢ 1
first_shut gates one =
    let more : suc (open_count gates) ≤ open_count gates = open_more gates (suc (open_count gates)) (λ i lt. ⊎_elim (λ same. ap (λ (k : ℕ). get_or gates k 0) same ∙ one) (λ other. open_before gates i (omega (arith, lt, other))) (cases_eq i (open_count gates))) in
    absurd (omega (arith, more))

records_are_slots : (geometry : Geometry) (half : ℕ) (image : List ℕ) (records : List (List ℕ)) → records_of geometry half image ≡ Some records → AreSlots geometry half image 256 0 records
records_are_slots geometry half image records e =
    let gates = gates_of geometry half image in
    let count : length records ≡ open_count gates = length-given (payload_in geometry half image) (open_count gates) records e in
    let few : open_count gates ≤ 256 = few_open geometry half image in
    let first : (i : ℕ) → 0 + i ≡ i = λ i. omega arith in
    record {
      gates = λ i lt. ap (gate_at geometry half image) (first i) ∙ sym (gate_is geometry half i image (omega (arith, lt, count, few))) ∙ open_before gates i (omega (arith, lt, count));
      payloads = λ i lt. ap (payload_in geometry half image) (first i) ∙ given_at (payload_in geometry half image) (open_count gates) records [] i (omega (arith, lt, count)) e;
      few = omega (arith, count, few);
      shut = λ lt one. first_shut gates (ap (λ (k : ℕ). get_or gates k 0) (sym count) ∙ gate_is geometry half (length records) image lt ∙ ap (gate_at geometry half image) (sym (first (length records))) ∙ one);
    }

-- ---- an image that holds a log is opened by it

slots_of_log : (log : Log) (image : List ℕ) → records_of log.geometry log.half image ≡ Some log.records
    → behind (slots log.geometry log.half image 256 0) (area_tables log.geometry log.half log.spelling log.area) ≡ log_tables log
unfolding log_tables
slots_of_log log image e =
    behind_same _ _ (λ t. slots_are_payloads log.geometry log.half image 256 0 log.records t (records_are_slots log.geometry log.half image log.records e)) (area_tables log.geometry log.half log.spelling log.area)

area_of_log : (log : Log) (image : List ℕ) (half : ℕ) → half ≡ log.half → records_of log.geometry log.half image ≡ Some log.records → area_of (header_in log) log.half image ≡ Some (area_in log)
    → if_found (area_of (header_in log) half image) (λ (area : Area). behind (slots log.geometry half image 256 0) (area_tables log.geometry half area.spelling area.tables)) (Err (damaged in_area 0 half)) ≡ log_tables log
area_of_log log image half is records area =
    rw is (rw area (slots_of_log log image records))

pub opened_by_log : (log : Log) (image : List ℕ) → log_of image ≡ Some log → opened image ≡ log_tables log
unfolding opened
opened_by_log log image e =
    let parts = parts_of log image e in
    rw (log_opens log image e) (rw parts.header (area_of_log log image (half_of image) parts.half parts.records parts.area))
