-- Forms that read at most so many bytes: where as many are left, one doesn't fail at the end of the bytes.
use Rattle.std.proofs.Common.{◌≡◌, ℕ, zero, suc, ◌+◌, ◌*◌, ◌≤◌, ◌<◌, Bool, true, false, cond, List, [], ◌∷◌, ◌++◌, length, Option, refl, sym, ap, ◌∙◌, subst, arith}
use Rattle.std.proofs.Math.Nat.{mul-le-mul_right}
use Rattle.vv_fields.specs.Fields.{ReaderState}
use Rattle.vv_fields.proofs.FieldLemmas.{field_at-left, taken_at-left}
use Rattle.vv_record.specs.Reading.{Form, Reading, Read, Fault, then_read, ◌>>=◌, done, found, number, bytes, checked, allowed, is_within, number_within, items}
use Rattle.vv_record.proofs.Passing.{between}

abbrev pub Stays : {A : Type 0} → ℕ → ReaderState → Reading A → Type 0
Stays n reader (Read value behind) = (behind.bytes ≡ reader.bytes) × (behind.at ≤ reader.at + n)
Stays n reader (Fault at) = at < length reader.bytes

pub record IsShort {A : Type 0} (n : ℕ) (form : Form A) : Type 0 where
  pub stays : (reader : ReaderState) → reader.at + n ≤ length reader.bytes → Stays n reader (form reader)

stays_longer : {A : Type 0} (m n : ℕ) (reader : ReaderState) (reading : Reading A) → m ≤ n → Stays m reader reading → Stays n reader reading
stays_longer m n reader (Read v behind) le h = (h.0, omega (arith, h.1))
stays_longer m n reader (Fault at) le h = h

pub short_longer : {A : Type 0} (m n : ℕ) (form : Form A) → m ≤ n → IsShort m form → IsShort n form
short_longer m n form le h = record { stays = λ reader left. stays_longer m n reader (form reader) le (h.stays reader (omega arith)) }

-- ---- one form after the other

stays_then : {A B : Type 0} (m n : ℕ) (reader : ReaderState) (first : Reading A) (next : A → Form B) → reader.at + (m + n) ≤ length reader.bytes → Stays m reader first → ((v : A) → IsShort n (next v))
    → Stays (m + n) reader (then_read first next)
stays_then m n reader (Read v behind) next left h more =
    let size : length behind.bytes ≡ length reader.bytes = ap length h.0 in
    let place : behind.at ≤ reader.at + m = h.1 in
    stays_behind m n reader behind (next v behind) h.0 h.1 ((more v).stays behind (omega arith))
  where
    stays_behind : {B : Type 0} (m n : ℕ) (reader behind : ReaderState) (reading : Reading B) → behind.bytes ≡ reader.bytes → behind.at ≤ reader.at + m → Stays n behind reading → Stays (m + n) reader reading
    stays_behind m n reader behind (Read v last) same le h = (h.0 ∙ same, omega (arith, h.1))
    stays_behind m n reader behind (Fault at) same le h = let size : length behind.bytes ≡ length reader.bytes = ap length same in omega (arith, h)
stays_then m n reader (Fault at) next left h more = h

pub short_then : {A B : Type 0} (m n : ℕ) (form : Form A) (next : A → Form B) → IsShort m form → ((v : A) → IsShort n (next v)) → IsShort (m + n) (form >>= next)
short_then m n form next first more = record {
  stays = λ reader left. stays_then m n reader (form reader) next left (first.stays reader (omega arith)) more;
}

pub short_done : {A : Type 0} (value : A) → IsShort 0 (done value)
short_done value = record { stays = λ reader left. (refl, omega arith) }

pub short_cond : {A : Type 0} (n : ℕ) (b : Bool) (one other : Form A) → IsShort n one → IsShort n other → IsShort n (cond b one other)
short_cond n true one other h k = h
short_cond n false one other h k = k

-- ---- numbers and bytes

pub short_number : (n : ℕ) → IsShort n (number n)
unfolding number
short_number n = record {
  stays = λ reader left. subst (λ (o : Option ℕ). Stays n reader (found n o reader)) (sym (field_at-left n reader.bytes reader.at left)) (refl, omega arith);
}

pub short_bytes : (n : ℕ) → IsShort n (bytes n)
unfolding bytes
short_bytes n = record {
  stays = λ reader left. subst (λ (o : Option (List ℕ)). Stays n reader (found n o reader)) (sym (taken_at-left n reader.bytes reader.at left)) (refl, omega arith);
}

-- ---- fields whose value is allowed

stays_test : {A : Type 0} (n : ℕ) (reader : ReaderState) (v : A) (behind : ReaderState) (b : Bool) → reader.at < length reader.bytes → Stays n reader (Read v behind) → Stays n reader (cond b (Read v behind) (Fault reader.at))
stays_test n reader v behind true lt h = h
stays_test n reader v behind false lt h = lt

stays_checked : {A : Type 0} (n : ℕ) (reader : ReaderState) (is_allowed : A → Bool) (reading : Reading A) → reader.at < length reader.bytes → Stays n reader reading → Stays n reader (checked is_allowed reader.at reading)
stays_checked n reader is_allowed (Read v behind) lt h = stays_test n reader v behind (is_allowed v) lt h
stays_checked n reader is_allowed (Fault at) lt h = h

pub short_allowed : {A : Type 0} (n : ℕ) (is_allowed : A → Bool) (form : Form A) → 0 < n → IsShort n form → IsShort n (allowed is_allowed form)
unfolding allowed
short_allowed n is_allowed form some h = record {
  stays = λ reader left. stays_checked n reader is_allowed (form reader) (omega arith) (h.stays reader left);
}

pub short_within : (n low high : ℕ) → 0 < n → IsShort n (number_within n low high)
unfolding number_within
short_within n low high some = short_allowed n (is_within low high) (number n) some (short_number n)

-- ---- a number within a range, and a form that looks at it

stays_few : {B : Type 0} (m n low high : ℕ) (reader : ReaderState) (first : Reading ℕ) (next : ℕ → Form B) → reader.at + (m + n) ≤ length reader.bytes → reader.at < length reader.bytes → Stays m reader first
    → ((v : ℕ) → v ≤ high → IsShort n (next v)) → Stays (m + n) reader (then_read (checked (is_within low high) reader.at first) next)
stays_few m n low high reader (Read v behind) next left inside h more = by_test (is_within low high v) refl
  where
    by_test : (b : Bool) → is_within low high v ≡ b → Stays (m + n) reader (then_read (cond b (Read v behind) (Fault reader.at)) next)
    by_test true is = stays_then m n reader (Read v behind) (λ w. next v) left h (λ w. more v (between low high v is).to)
    by_test false is = inside
stays_few m n low high reader (Fault at) next left inside h more = h

pub short_few : {B : Type 0} (m n low high : ℕ) (next : ℕ → Form B) → 0 < m → ((v : ℕ) → v ≤ high → IsShort n (next v)) → IsShort (m + n) (number_within m low high >>= next)
unfolding number_within allowed
short_few m n low high next some more = record {
  stays = λ reader left. stays_few m n low high reader (number m reader) next left (omega arith) ((short_number m).stays reader (omega arith)) more;
}

-- ---- so many items

short_items : {A : Type 0} (n : ℕ) (item : List A → Form A) → ((before : List A) → IsShort n (item before)) → (count : ℕ) (before : List A) → IsShort (count * n) (items item count before)
unfolding items
short_items n item each zero before = short_longer 0 (0 * n) (done before) (omega arith) (short_done before)
short_items n item each (suc count) before =
    short_longer (n + count * n) (suc count * n) _ (omega arith)
    (short_then n (count * n) (item before) (λ next. items item count (before ++ next ∷ [])) (each before) (λ next. short_items n item each count (before ++ next ∷ [])))

pub short_list : {A : Type 0} (n most : ℕ) (item : List A → Form A) → ((before : List A) → IsShort n (item before)) → (count : ℕ) → count ≤ most → (before : List A) → IsShort (most * n) (items item count before)
short_list n most item each count le before =
    short_longer (count * n) (most * n) _ (mul-le-mul_right n le) (short_items n item each count before)
