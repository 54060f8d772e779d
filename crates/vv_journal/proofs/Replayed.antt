-- Slots that were read one after another give the records of the log.
use Rattle.std.proofs.Common.{◌≡◌, ◌≢◌, ⊎_elim, ℕ, zero, suc, ◌+◌, ◌<◌, ◌≤◌, List, [], ◌∷◌, ◌++◌, get_or, take, Option, None, Some, refl, sym, ap, ◌∙◌, arith}
use Rattle.std.proofs.lemmas.Bool.{cases_eq, cases_lt}
use Rattle.vv_units.specs.declared.geometry.Geometry.{Geometry}
use Rattle.vv_journal.specs.declared.opening.LogHead.{LogHead}
use Rattle.vv_journal.specs.declared.reading.SlotRead.TheVariants.{Closed, Bad, Payload}
use Rattle.vv_journal.specs.Header.{Header}
use Rattle.vv_journal.specs.Half.{all_given, gates_at, gates_of, open_count, payload_at, slot_at, tables_at, records_of}
use Rattle.vv_journal.specs.Log.{Log, log_of}
use Rattle.vv_journal.specs.Openings.{HasHead, HasRead, HoldsRead, StandsNext, journal_at, journal_at_first}
use Rattle.vv_journal.proofs.Options.{given_from, given_parts}
use Rattle.vv_journal.proofs.Parts.{parts_of, log_from, header_in}
use Rattle.vv_journal.proofs.Gates.{open_is, open_more, gate_is, no_gate}

pub read_none : (head : LogHead) (image : List ℕ) → HasRead (journal_at_first head) [] image
read_none head image = record { gates = λ i lt. absurd (omega (arith, lt)); payloads = refl }

-- at the given number
abbrev payload_in : LogHead → List ℕ → ℕ → Option (List ℕ)
payload_in head image index = payload_at (slot_at head.geometry head.half index) image

pub read_more : (head : LogHead) (n len : ℕ) (got image : List ℕ) (records : List (List ℕ)) → HasRead (journal_at head n) records image → StandsNext (journal_at head n) got (Payload len) image → HasRead (journal_at head (n + 1)) (records ++ take len got ∷ []) image
read_more head n len got image records read next = record {
  gates = λ i lt. ⊎_elim (λ same. ap (λ (k : ℕ). get_or image (gates_at head.geometry head.half + k) 0) same ∙ next.0) (λ other. read.gates i (omega (arith, lt, other))) (cases_eq i n);
  payloads = ap (λ (k : ℕ). all_given (payload_in head image) k) (let e : n + 1 ≡ suc n = omega arith in e) ∙ given_from (payload_in head image) n records (take len got) read.payloads next.1;
}

-- the gates of those that were read are open
open_below : (head : LogHead) (n : ℕ) (image : List ℕ) (records : List (List ℕ)) → n ≤ 256 → HasRead (journal_at head n) records image → (i : ℕ) → i < n → get_or (gates_of head.geometry head.half image) i 0 ≡ 1
open_below head n image records le read i lt = gate_is head.geometry head.half i image (omega (arith, lt, le)) ∙ read.gates i lt

-- the next gate isn't open, or there is none
pub read_all : (head : LogHead) (n : ℕ) (image : List ℕ) (records : List (List ℕ)) → n ≤ 256 → HasHead head image → HasRead (journal_at head n) records image → (n < 256 → StandsNext (journal_at head n) [] Closed image) → HoldsRead head records image
read_all head n image records le has read ends =
    let gates = gates_of head.geometry head.half image in
    let shut : get_or gates n 0 ≢ 1 = ⊎_elim (λ lt one. ends lt (sym (gate_is head.geometry head.half n image lt) ∙ one)) (λ past. no_gate head.geometry head.half n image past) (cases_lt n 256) in
    let count : open_count gates ≡ n = open_is gates n (open_below head n image records le read) shut in
    let log : Log = record {
      geometry = head.geometry;
      version = has.version;
      half = head.half;
      spelling = head.spelling;
      area = tables_at head.geometry head.half head.area_len image;
      records = records;
    } in (
      log,
      log_from log image (record { header = has.header; half = has.half; size = has.size; area = has.area; records = ap (λ (k : ℕ). all_given (payload_in head image) k) count ∙ read.payloads }),
      refl,
      refl,
      refl,
      refl,
    )

given_at : {X : Type 0} (given : ℕ → Option X) (m : ℕ) (items : List X) (i : ℕ) → i < m → all_given given m ≡ Some items → (item : X) × (given i ≡ Some item)
given_at given zero items i lt e = absurd (omega (arith, lt))
given_at {X} given (suc m) items i lt e =
    let parts = given_parts given m items e in
    ⊎_elim (λ same. (parts.1, ap given same ∙ parts.3)) (λ other. given_at given m parts.0 i (omega (arith, lt, other)) parts.2) (cases_eq i m)

bad_by : (head : LogHead) (n : ℕ) (image : List ℕ) (records : List (List ℕ)) (log : Option Log) → n < 256 → HasHead head image → HasRead (journal_at head n) records image → StandsNext (journal_at head n) [] Bad image → log_of image ≡ log → log ≡ None
bad_by head n image records None lt has read bad e = refl
bad_by head n image records (Some log) lt has read bad e =
    let parts = parts_of log image e in
    let gates = gates_of head.geometry head.half image in
    let header : header_in log ≡ record { geometry = head.geometry; version = has.version } = let a = parts.header in let b = has.header in cc in
    let geometry : log.geometry ≡ head.geometry = ap (λ (h : Header). h.geometry) header in
    let half : log.half ≡ head.half = sym parts.half ∙ has.half in
    let given : records_of head.geometry head.half image ≡ Some log.records = ap (λ (g : Geometry). records_of g head.half image) (sym geometry) ∙ ap (λ (h : ℕ). records_of log.geometry h image) (sym half) ∙ parts.records in
    let each : (i : ℕ) → i < n + 1 → get_or gates i 0 ≡ 1 = λ i below.
    ⊎_elim (λ same. gate_is head.geometry head.half i image (omega (arith, same, lt)) ∙ ap (λ (k : ℕ). get_or image (gates_at head.geometry head.half + k) 0) same ∙ bad.0)
    (λ other. open_below head n image records (omega (arith, lt)) read i (omega (arith, below, other))) (cases_eq i n) in
    let more : n + 1 ≤ open_count gates = open_more gates (n + 1) each in
    let item = given_at (payload_in head image) (open_count gates) log.records n (omega (arith, more)) given in
    let none = bad.1 in
    let some = item.1 in
    absurd cc

-- a slot with an open gate that has no payload
pub read_bad : (head : LogHead) (n : ℕ) (image : List ℕ) (records : List (List ℕ)) → n < 256 → HasHead head image → HasRead (journal_at head n) records image → StandsNext (journal_at head n) [] Bad image → log_of image ≡ None
read_bad head n image records lt has read bad = bad_by head n image records (log_of image) lt has read bad refl
