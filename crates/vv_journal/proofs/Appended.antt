-- What the two steps of an append do to the log of an image: the slot behind the records changes, and then its gate.
use Rattle.std.proofs.Common.{◌≡◌, ◌≢◌, ◌⊎◌, inl, inr, ⊎_elim, ℕ, suc, ◌+◌, ◌*◌, ◌<◌, ◌≤◌, List, [], ◌∷◌, ◌++◌, length, get_or, Some, sym, ap, ◌∙◌, subst, arith}
use Rattle.std.proofs.lemmas.Bool.{cases_eq, cases_lt}
use Rattle.vv_disk.specs.Images.{DiffersWithin}
use Rattle.vv_disk.proofs.Bytes.{byte_before, byte_behind}
use Rattle.vv_data.specs.Layout.{area_bytes, half_at, disk_len}
use Rattle.vv_journal.specs.Header.{header_of, half_of}
use Rattle.vv_journal.specs.Half.{all_given, area_of, gates_at, gates_of, open_count, IsShutBehind, payload_at, records_of, slot_at}
use Rattle.vv_journal.specs.Log.{Log, Holds, IsWellKept, with_record}
use Rattle.vv_journal.proofs.Options.{given_from, given_kept, length-given}
use Rattle.vv_journal.proofs.Parts.{Parts, parts_of, log_from, header_in, area_in}
use Rattle.vv_journal.proofs.Kept.{Apart, part_apart, header_kept, half_kept, area_kept, gates_kept, payload_kept}
use Rattle.vv_journal.proofs.Gates.{open_before, open_is, gate_is, no_gate, few_open}

-- as many gates are open as there are records
pub counts : (log : Log) (image : List ℕ) → Parts log image → open_count (gates_of log.geometry log.half image) ≡ length log.records
counts log image parts = sym (length-given (λ index. payload_at (slot_at log.geometry log.half index) image) (open_count (gates_of log.geometry log.half image)) log.records parts.records)

pub few_records : (log : Log) (image : List ℕ) → Parts log image → length log.records ≤ 256
few_records log image parts = omega (arith, counts log image parts, few_open log.geometry log.half image)

-- All of a log stands in an image, but that its half may not be the selected one.
pub record Stands (log : Log) (image : List ℕ) : Type 0 where
  pub header : header_of image ≡ Some (header_in log)
  pub size : length image ≡ disk_len log.geometry
  pub area : area_of (header_in log) log.half image ≡ Some (area_in log)
  pub records : records_of log.geometry log.half image ≡ Some log.records
  pub kept : IsWellKept log image

pub stands_of : (log : Log) (image : List ℕ) → Holds log image → Stands log image
stands_of log image holds =
    let parts = parts_of log image holds.is in
    record { header = parts.header; size = parts.size; area = parts.area; records = parts.records; kept = holds.kept }

pub holds_from : (log : Log) (image : List ℕ) → half_of image ≡ log.half → Stands log image → Holds log image
holds_from log image half stands = record {
  is = log_from log image (record { header = stands.header; half = half; size = stands.size; area = stands.area; records = stands.records });
  kept = stands.kept;
}

-- a change outside what the log says
pub stands_kept : (log : Log) (at n : ℕ) (old new : List ℕ) → 32 ≤ at → Apart at n (half_at log.geometry log.half) (area_bytes log.geometry + 256 + 4096 * length log.records) → DiffersWithin at n old new → Stands log old → Stands log new
stands_kept log at n old new low used is stands =
    let g = log.geometry in
    let h = log.half in
    let len = area_bytes g + 256 + 4096 * length log.records in
    let count : open_count (gates_of g h old) ≡ length log.records = sym (length-given (λ index. payload_at (slot_at g h index) old) (open_count (gates_of g h old)) log.records stands.records) in
    let gates : gates_of g h new ≡ gates_of g h old = gates_kept at n g h old new (part_apart at n (half_at g h) len (gates_at g h) 256 (omega arith) (omega arith) used) is in
    let payloads : records_of g h new ≡ Some log.records =
    ap (λ (l : List ℕ). all_given (λ index. payload_at (slot_at g h index) new) (open_count l)) gates
    ∙ given_kept (λ index. payload_at (slot_at g h index) old) (λ index. payload_at (slot_at g h index) new) (open_count (gates_of g h old)) log.records
    (λ i item lt e. payload_kept at n (slot_at g h i) item old new (part_apart at n (half_at g h) len (slot_at g h i) 4096 (omega arith) (omega (arith, lt, count)) used) is e)
    stands.records in
    record {
      header = header_kept at n old new low is ∙ stands.header;
      size = is.size ∙ stands.size;
      area = area_kept at n (header_in log) h (area_in log) old new (part_apart at n (half_at g h) len (half_at g h) (area_bytes g) (omega arith) (omega arith) used) is stands.area;
      records = payloads;
      kept = subst IsShutBehind (sym gates) stands.kept;
    }

pub holds_kept : (log : Log) (at n : ℕ) (old new : List ℕ) → 32 ≤ at → Apart at n 512 1 → Apart at n (half_at log.geometry log.half) (area_bytes log.geometry + 256 + 4096 * length log.records) → DiffersWithin at n old new → Holds log old → Holds log new
holds_kept log at n old new low selector used is holds =
    holds_from log new (half_kept at n old new selector is ∙ (parts_of log old holds.is).half) (stands_kept log at n old new low used is (stands_of log old holds))

-- the slot behind the records may hold anything
pub slot_kept : (log : Log) (at n : ℕ) (old new : List ℕ) → slot_at log.geometry log.half (length log.records) ≤ at → DiffersWithin at n old new → Holds log old → Holds log new
slot_kept log at n old new le is holds = holds_kept log at n old new (omega (arith, le)) (inl (omega (arith, le))) (inl (omega (arith, le))) is holds

-- the gate behind the records changes
module _ (log : Log) (payload old new : List ℕ) (room : length log.records < 256) (is : DiffersWithin (gates_at log.geometry log.half + length log.records) 1 old new) (holds : Holds log old) where
  n : ℕ
  n = length log.records

  same_gate : (i : ℕ) → i < 256 → i ≢ length log.records → get_or (gates_of log.geometry log.half new) i 0 ≡ get_or (gates_of log.geometry log.half old) i 0
  same_gate i lt ne =
      let at = gates_at log.geometry log.half in
      let same : (i < length log.records) ⊎ (length log.records ≤ i) → get_or new (at + i) 0 ≡ get_or old (at + i) 0 = λ side.
      ⊎_elim (λ below. byte_before (at + length log.records) 1 (at + i) old new (omega (arith, below)) is)
      (λ above. byte_behind (at + length log.records) 1 (at + i) old new (omega (arith, above, ne)) is) side in
      gate_is log.geometry log.half i new lt ∙ same (cases_lt i (length log.records)) ∙ sym (gate_is log.geometry log.half i old lt)

  this_gate : get_or (gates_of log.geometry log.half new) (length log.records) 0 ≡ get_or new (gates_at log.geometry log.half + length log.records) 0
  this_gate = gate_is log.geometry log.half (length log.records) new room

  before : (i : ℕ) → i < length log.records → get_or (gates_of log.geometry log.half new) i 0 ≡ 1
  before i lt =
      let ne : i ≢ length log.records = λ e. absurd (omega (arith, e, lt)) in
      same_gate i (omega (arith, lt, room)) ne ∙ open_before (gates_of log.geometry log.half old) i (omega (arith, lt, counts log old (parts_of log old holds.is)))

  behind : (i : ℕ) → length log.records < i → get_or (gates_of log.geometry log.half new) i 0 ≢ 1
  behind i lt =
      let ne : i ≢ length log.records = λ e. absurd (omega (arith, e, lt)) in
      ⊎_elim (λ inside one. holds.kept i (omega (arith, lt, counts log old (parts_of log old holds.is))) (sym (same_gate i inside ne) ∙ one))
      (λ outside. no_gate log.geometry log.half i new outside) (cases_lt i 256)

  -- the records before the gate
  front : all_given (λ index. payload_at (slot_at log.geometry log.half index) new) (length log.records) ≡ Some log.records
  front =
      let parts = parts_of log old holds.is in
      given_kept (λ index. payload_at (slot_at log.geometry log.half index) old) (λ index. payload_at (slot_at log.geometry log.half index) new) (length log.records) log.records
      (λ i item lt e. payload_kept _ 1 (slot_at log.geometry log.half i) item old new (inr (omega (arith, room))) is e)
      (ap (λ (k : ℕ). all_given (λ index. payload_at (slot_at log.geometry log.half index) old) k) (sym (counts log old parts)) ∙ parts.records)

  -- with so many open gates, and these records
  gated : (records : List (List ℕ)) → records_of log.geometry log.half new ≡ Some records → Parts (record log { records = records }) new
  gated records e =
      let parts = parts_of log old holds.is in
      let at = gates_at log.geometry log.half + length log.records in
      record {
        header = header_kept at 1 old new (omega arith) is ∙ parts.header;
        half = half_kept at 1 old new (inl (omega arith)) is ∙ parts.half;
        size = is.size ∙ parts.size;
        area = area_kept at 1 (header_in log) log.half (area_in log) old new (inl (omega arith)) is parts.area;
        records = e;
      }

  -- it is shut
  pub gate_shut : get_or new (gates_at log.geometry log.half + length log.records) 0 ≢ 1 → Holds log new
  gate_shut ne =
      let shut : get_or (gates_of log.geometry log.half new) (length log.records) 0 ≢ 1 = λ one. ne (sym this_gate ∙ one) in
      let count : open_count (gates_of log.geometry log.half new) ≡ length log.records = open_is _ (length log.records) before shut in
      record {
        is = log_from log new (gated log.records (ap (λ (k : ℕ). all_given (λ index. payload_at (slot_at log.geometry log.half index) new) k) count ∙ front));
        kept = λ i le. ⊎_elim (λ same one. shut (ap (λ (k : ℕ). get_or (gates_of log.geometry log.half new) k 0) (sym same) ∙ one)) (λ other. behind i (omega (arith, le, count, other))) (cases_eq i (length log.records));
      }

  -- it is open, and the slot behind the records has a payload
  pub gate_open : payload_at (slot_at log.geometry log.half (length log.records)) old ≡ Some payload → get_or new (gates_at log.geometry log.half + length log.records) 0 ≡ 1 → Holds (with_record log payload) new
  gate_open staged one =
      let gates = gates_of log.geometry log.half new in
      let given = λ (index : ℕ). payload_at (slot_at log.geometry log.half index) new in
      let each : (i : ℕ) → i < suc (length log.records) → get_or gates i 0 ≡ 1 = λ i lt.
      ⊎_elim (λ same. ap (λ (k : ℕ). get_or gates k 0) same ∙ this_gate ∙ one) (λ other. before i (omega (arith, lt, other))) (cases_eq i (length log.records)) in
      let count : open_count gates ≡ suc (length log.records) = open_is gates (suc (length log.records)) each (behind (suc (length log.records)) (omega arith)) in
      let last : payload_at (slot_at log.geometry log.half (length log.records)) new ≡ Some payload = payload_kept _ 1 (slot_at log.geometry log.half (length log.records)) payload old new (inr (omega (arith, room))) is staged in
      record {
        is = log_from (with_record log payload) new (gated (log.records ++ payload ∷ []) (ap (all_given given) count ∙ given_from given (length log.records) log.records payload front last));
        kept = λ i le. behind i (omega (arith, le, count));
      }

  pub gate_either : payload_at (slot_at log.geometry log.half (length log.records)) old ≡ Some payload → Holds log new ⊎ Holds (with_record log payload) new
  gate_either staged = ⊎_elim (λ one. inr (gate_open staged one)) (λ other. inl (gate_shut other)) (cases_eq (get_or new (gates_at log.geometry log.half + length log.records) 0) 1)
