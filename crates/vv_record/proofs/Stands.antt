-- Where a text stands before a reader, and what reads it.
use Rattle.std.proofs.Common.{◌≡◌, ℕ, ◌+◌, ◌^◌, ◌<◌, ◌≤◌, Bool, true, false, cond, List, [], ◌++◌, length, take, drop, Option, Some, None, refl, sym, ap, subst, ◌∙◌, append_assoc, arith}
use Rattle.std.specs.Option.{option_map}
use Rattle.std.proofs.lemmas.List.{take_at, drop_at, take-append-drop, drop-drop, length-append}
use Rattle.vv_fields.specs.Fields.{ReaderState, AreBytes, be_bytes, be_number, field_at, taken_at}
use Rattle.vv_fields.proofs.ByteLemmas.{length-be_bytes, number_again}
use Rattle.vv_fields.proofs.FieldLemmas.{taken_at-left, taken_at-some, field_at-some}
use Rattle.vv_record.specs.Reading.{Reading, Read, Fault, then_read, found, number, bytes, checked, allowed}

-- the text stands at the reader's place, and the other reader is behind it
pub record Stands (reader : ReaderState) (text : List ℕ) (behind : ReaderState) : Type 0 where
  pub same : behind.bytes ≡ reader.bytes
  pub place : behind.at ≡ reader.at + length text
  pub within : behind.at ≤ length behind.bytes
  pub rest : drop reader.at reader.bytes ≡ text ++ drop behind.at behind.bytes

abbrev made : List ℕ → ℕ → ReaderState
made bytes at = record { bytes = bytes; at = at }

made_of : (a b : List ℕ) (m n : ℕ) → a ≡ b → m ≡ n → made a m ≡ made b n
made_of a b m n e f = rw (e, f) refl

abbrev pub moved : ℕ → ReaderState → ReaderState
moved n reader = record { bytes = reader.bytes; at = reader.at + n }

-- ---- texts one behind the other

pub Stands-then : {reader : ReaderState} {a : List ℕ} {middle : ReaderState} {b : List ℕ} {behind : ReaderState} → Stands reader a middle → Stands middle b behind → Stands reader (a ++ b) behind
Stands-then {a = a} {b = b} {behind = behind} p q = record {
  same = q.same ∙ p.same;
  place = omega (arith, p.place, q.place, length-append a b);
  within = q.within;
  rest = p.rest ∙ ap (λ (x : List ℕ). a ++ x) q.rest ∙ sym (append_assoc a b (drop behind.at behind.bytes));
}

pub Stands-front : (reader : ReaderState) (a b : List ℕ) (behind : ReaderState) → Stands reader (a ++ b) behind → Stands reader a (moved (length a) reader) × Stands (moved (length a) reader) b behind
Stands-front reader a b behind p =
    let middle = moved (length a) reader in
    let whole : drop reader.at reader.bytes ≡ a ++ (b ++ drop behind.at behind.bytes) = p.rest ∙ append_assoc a b (drop behind.at behind.bytes) in
    let back : drop (reader.at + length a) reader.bytes ≡ b ++ drop behind.at behind.bytes =
    sym (drop-drop (length a) reader.at reader.bytes) ∙ ap (drop (length a)) whole ∙ drop_at a (b ++ drop behind.at behind.bytes) (length a) refl
    in
    let size : length behind.bytes ≡ length reader.bytes = ap length p.same in (
      record {
        same = refl;
        place = refl;
        within = omega (arith, p.place, p.within, length-append a b, size);
        rest = whole ∙ ap (λ (x : List ℕ). a ++ x) (sym back);
      },
      record {
        same = p.same;
        place = omega (arith, p.place, length-append a b);
        within = p.within;
        rest = back;
      },
    )

-- nothing stands between
pub Stands-nothing : (reader behind : ReaderState) → Stands reader [] behind → reader ≡ behind
Stands-nothing reader behind p =
    let place : behind.at ≡ reader.at = omega (arith, p.place) in
    made_of reader.bytes behind.bytes reader.at behind.at (sym p.same) (sym place)

-- a reader of bytes that isn't past their end
pub record IsReader (reader : ReaderState) : Type 0 where
  pub are_bytes : AreBytes reader.bytes
  pub within : reader.at ≤ length reader.bytes

pub IsReader-behind : {reader : ReaderState} {text : List ℕ} {behind : ReaderState} → IsReader reader → Stands reader text behind → IsReader behind
IsReader-behind h p = record { are_bytes = subst AreBytes (sym p.same) h.are_bytes; within = p.within }

-- where nothing is read, nothing stands
pub Stands-here : (reader : ReaderState) → IsReader reader → Stands reader [] reader
Stands-here reader h = record { same = refl; place = omega arith; within = h.within; rest = refl }

-- ---- a field is found where it stands

is_moved : (reader : ReaderState) (text : List ℕ) (behind : ReaderState) (n : ℕ) → length text ≡ n → Stands reader text behind → moved n reader ≡ behind
is_moved reader text behind n size p =
    let place : behind.at ≡ reader.at + n = omega (arith, p.place, size) in
    made_of reader.bytes behind.bytes (reader.at + n) behind.at (sym p.same) (sym place)

taken_there : (reader : ReaderState) (text : List ℕ) (behind : ReaderState) (n : ℕ) → length text ≡ n → Stands reader text behind → taken_at n reader.bytes reader.at ≡ Some text
taken_there reader text behind n size p =
    let bytes_size : length behind.bytes ≡ length reader.bytes = ap length p.same in
    taken_at-left n reader.bytes reader.at (omega (arith, p.place, p.within, size, bytes_size))
    ∙ ap (λ (x : List ℕ). Some (take n x)) p.rest ∙ ap (λ (x : List ℕ). Some x) (take_at text (drop behind.at behind.bytes) n size)

stands_there : (reader : ReaderState) (text : List ℕ) (n : ℕ) → taken_at n reader.bytes reader.at ≡ Some text → Stands reader text (moved n reader) × (length text ≡ n)
stands_there reader text n e =
    let part = taken_at-some n reader.bytes reader.at text e in (
      record {
        same = refl;
        place = omega (arith, part.size);
        within = part.left;
        rest = sym (take-append-drop n (drop reader.at reader.bytes)) ∙ ap (λ (x : List ℕ). x ++ drop n (drop reader.at reader.bytes)) part.is ∙ ap (λ (x : List ℕ). text ++ x) (drop-drop n reader.at reader.bytes);
      },
      part.size,
    )

found_is : {A : Type 0} (n : ℕ) (o : Option A) (reader : ReaderState) (value : A) (behind : ReaderState) → found n o reader ≡ Read value behind → (o ≡ Some value) × (moved n reader ≡ behind)
found_is n (Some x) reader value behind e = (cc, cc)
found_is n None reader value behind e = absurd cc

pub bytes_again : (n : ℕ) (text : List ℕ) (reader behind : ReaderState) → length text ≡ n → Stands reader text behind → bytes n reader ≡ Read text behind
unfolding bytes
bytes_again n text reader behind size p =
    rw (taken_there reader text behind n size p) (ap (λ (r : ReaderState). Read text r) (is_moved reader text behind n size p))

pub bytes_takes : (n : ℕ) (text : List ℕ) (reader behind : ReaderState) → bytes n reader ≡ Read text behind → Stands reader text behind × (length text ≡ n)
unfolding bytes
bytes_takes n text reader behind e =
    let f = found_is n (taken_at n reader.bytes reader.at) reader text behind e in
    let s = stands_there reader text n f.0 in
    (subst (λ (r : ReaderState). Stands reader text r) f.1 s.0, s.1)

field_there : (reader : ReaderState) (behind : ReaderState) (n value : ℕ) → value < 256 ^ n → Stands reader (be_bytes n value) behind → field_at n reader.bytes reader.at ≡ Some value
unfolding field_at
field_there reader behind n value h p =
    ap (option_map be_number) (taken_there reader (be_bytes n value) behind n (length-be_bytes n value) p) ∙ ap (λ (x : ℕ). Some x) (number_again n value h)

pub number_again_at : (n value : ℕ) (reader behind : ReaderState) → value < 256 ^ n → Stands reader (be_bytes n value) behind → number n reader ≡ Read value behind
unfolding number
number_again_at n value reader behind h p =
    rw (field_there reader behind n value h p) (ap (λ (r : ReaderState). Read value r) (is_moved reader (be_bytes n value) behind n (length-be_bytes n value) p))

pub number_takes : (n value : ℕ) (reader behind : ReaderState) → AreBytes reader.bytes → number n reader ≡ Read value behind → Stands reader (be_bytes n value) behind × (value < 256 ^ n)
unfolding number
number_takes n value reader behind h e =
    let f = found_is n (field_at n reader.bytes reader.at) reader value behind e in
    let t = field_at-some n reader.bytes reader.at value h f.0 in
    let s = stands_there reader (be_bytes n value) n t.1 in
    (subst (λ (r : ReaderState). Stands reader (be_bytes n value) r) f.1 s.0, t.0)

-- ---- what was read before, and what was allowed

pub then_read_is : {A B : Type 0} (reading : Reading A) (next : A → ReaderState → Reading B) (value : B) (behind : ReaderState) → then_read reading next ≡ Read value behind
    → (x : A) × (middle : ReaderState) × (reading ≡ Read x middle) × (next x middle ≡ Read value behind)
then_read_is (Read x middle) next value behind e = (x, middle, refl, e)
then_read_is (Fault at) next value behind e = absurd cc

guard_read : {A : Type 0} (b : Bool) (x : A) (middle : ReaderState) (at : ℕ) (value : A) (behind : ReaderState) → cond b (Read x middle) (Fault at) ≡ Read value behind
    → (b ≡ true) × (x ≡ value) × (middle ≡ behind)
guard_read true x middle at value behind e = (refl, cc, cc)
guard_read false x middle at value behind e = absurd cc

checked_is : {A : Type 0} (is_allowed : A → Bool) (at : ℕ) (reading : Reading A) (value : A) (behind : ReaderState) → checked is_allowed at reading ≡ Read value behind
    → (reading ≡ Read value behind) × (is_allowed value ≡ true)
checked_is is_allowed at (Read x middle) value behind e =
    let g = guard_read (is_allowed x) x middle at value behind e in
    let b = g.0 in
    let v = g.1 in
    let m = g.2 in
    (cc, rw (← v) b)
checked_is is_allowed at (Fault place) value behind e = absurd cc

pub allowed_is : {A : Type 0} (is_allowed : A → Bool) (form : ReaderState → Reading A) (value : A) (reader behind : ReaderState) → allowed is_allowed form reader ≡ Read value behind
    → (form reader ≡ Read value behind) × (is_allowed value ≡ true)
unfolding allowed
allowed_is is_allowed form value reader behind e = checked_is is_allowed reader.at (form reader) value behind e

pub allowed_again : {A : Type 0} (is_allowed : A → Bool) (form : ReaderState → Reading A) (value : A) (reader behind : ReaderState) → is_allowed value ≡ true → form reader ≡ Read value behind → allowed is_allowed form reader ≡ Read value behind
unfolding allowed
allowed_again is_allowed form value reader behind h e = rw (e, h) refl
