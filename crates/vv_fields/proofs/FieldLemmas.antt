-- What was written is read again, and what is read stands there. Where a part stands, and what stands around it.
use Rattle.std.proofs.Common.{◌≡◌, ℕ, ◌+◌, ◌^◌, ◌<◌, ◌≤◌, true, leb, List, ◌++◌, length, take, drop, Option, Some, None, refl, sym, ap, ◌∙◌, append_assoc, arith, inl, inr}
use Rattle.std.specs.Option.{option_map}
use Rattle.std.proofs.Math.Seq.{drop-append-add}
use Rattle.std.proofs.lemmas.Bool.{cases_lt, le-leb, leb-true, lt-leb}
use Rattle.std.proofs.lemmas.List.{take_at, drop_at, take-append-drop, take-append-le, drop-append-le, drop-drop, length-append, length-take, length-drop}
use Rattle.std.proofs.lemmas.Option.{cond_some}
use Rattle.vv_fields.specs.Fields.{ReaderState, moved_on, be_bytes, be_number, AreBytes, taken_at, field_at}
use Rattle.vv_fields.proofs.ByteLemmas.{length-be_bytes, number_again, be_number-below, be_bytes-be_number, AreBytes-take, AreBytes-drop}

-- ---- where enough bytes are left, and where too few

pub taken_at-left : (n : ℕ) (bytes : List ℕ) (at : ℕ) → at + n ≤ length bytes → taken_at n bytes at ≡ Some (take n (drop at bytes))
unfolding taken_at
taken_at-left n bytes at h = rw (le-leb (at + n) (length bytes) h) refl

pub taken_at-few : (n : ℕ) (bytes : List ℕ) (at : ℕ) → length bytes < at + n → taken_at n bytes at ≡ None
unfolding taken_at
taken_at-few n bytes at h = rw (lt-leb (at + n) (length bytes) h) refl

pub field_at-left : (n : ℕ) (bytes : List ℕ) (at : ℕ) → at + n ≤ length bytes → field_at n bytes at ≡ Some (be_number (take n (drop at bytes)))
unfolding field_at
field_at-left n bytes at h = rw (taken_at-left n bytes at h) refl

pub field_at-few : (n : ℕ) (bytes : List ℕ) (at : ℕ) → length bytes < at + n → field_at n bytes at ≡ None
unfolding field_at
field_at-few n bytes at h = rw (taken_at-few n bytes at h) refl

pub taken_at-none : (n : ℕ) (bytes : List ℕ) (at : ℕ) → taken_at n bytes at ≡ None → length bytes < at + n
taken_at-none n bytes at e =
    elim (cases_lt (length bytes) (at + n)) [
      | inl few ↦ few
      | inr left ↦ let taken = taken_at-left n bytes at left in absurd (cc)
    ]

pub field_at-none : (n : ℕ) (bytes : List ℕ) (at : ℕ) → field_at n bytes at ≡ None → length bytes < at + n
field_at-none n bytes at e =
    elim (cases_lt (length bytes) (at + n)) [
      | inl few ↦ few
      | inr left ↦ let read = field_at-left n bytes at left in absurd (cc)
    ]

-- ---- what stands around

-- what stands before a list only moves its places
pub taken_at-before : (n : ℕ) (before bytes : List ℕ) (at : ℕ) → taken_at n (before ++ bytes) (length before + at) ≡ taken_at n bytes at
taken_at-before n before bytes at =
    elim (cases_lt (length bytes) (at + n)) [
      | inl few ↦ taken_at-few n (before ++ bytes) (length before + at) (omega (arith, length-append before bytes)) ∙ sym (taken_at-few n bytes at few)
      | inr left ↦ taken_at-left n (before ++ bytes) (length before + at) (omega (arith, length-append before bytes))
          ∙ ap (λ (x : List ℕ). Some (take n x)) (drop-append-add before bytes at) ∙ sym (taken_at-left n bytes at left)
    ]

-- what stands after it is not seen from within it
pub taken_at-after : (n : ℕ) (bytes after : List ℕ) (at : ℕ) → at + n ≤ length bytes → taken_at n (bytes ++ after) at ≡ taken_at n bytes at
taken_at-after n bytes after at left =
    taken_at-left n (bytes ++ after) at (omega (arith, length-append bytes after))
    ∙ ap (λ (x : List ℕ). Some (take n x)) (drop-append-le at bytes after (omega arith))
    ∙ ap (λ (x : List ℕ). Some x) (take-append-le n (drop at bytes) after (omega (arith, length-drop at bytes)))
    ∙ sym (taken_at-left n bytes at left)

pub field_at-before : (n : ℕ) (before bytes : List ℕ) (at : ℕ) → field_at n (before ++ bytes) (length before + at) ≡ field_at n bytes at
unfolding field_at
field_at-before n before bytes at = ap (option_map be_number) (taken_at-before n before bytes at)

pub field_at-after : (n : ℕ) (bytes after : List ℕ) (at : ℕ) → at + n ≤ length bytes → field_at n (bytes ++ after) at ≡ field_at n bytes at
unfolding field_at
field_at-after n bytes after at left = ap (option_map be_number) (taken_at-after n bytes after at left)

-- ---- what was written is read again

-- a part is taken from its place
pub taken_at-written : (n : ℕ) (before part after : List ℕ) (at : ℕ) → length before ≡ at → length part ≡ n → taken_at n (before ++ part ++ after) at ≡ Some part
unfolding taken_at
taken_at-written n before part after at place size =
    let there : leb (at + n) (length (before ++ part ++ after)) ≡ true = le-leb _ _ (omega (arith, length-append (before ++ part) after, length-append before part)) in
    let rest : drop at (before ++ part ++ after) ≡ part ++ after = ap (drop at) (append_assoc before part after) ∙ drop_at before (part ++ after) at place in
    rw (there, rest, take_at part after n size) refl

-- a number that fits n bytes is read from the place of its n bytes
pub field_at-written : (n number : ℕ) (before after : List ℕ) (at : ℕ) → length before ≡ at → number < 256 ^ n → field_at n (before ++ be_bytes n number ++ after) at ≡ Some number
unfolding field_at
field_at-written n number before after at place h =
    rw (taken_at-written n before (be_bytes n number) after at place (length-be_bytes n number)) (ap (λ (x : ℕ). Some x) (number_again n number h))

-- ---- what is read stands there

-- the n bytes at a place are this part
pub record IsPart (n : ℕ) (bytes : List ℕ) (at : ℕ) (part : List ℕ) : Type 0 where
  pub left : at + n ≤ length bytes
  pub size : length part ≡ n
  pub is : take n (drop at bytes) ≡ part
  pub whole : bytes ≡ take at bytes ++ part ++ drop (at + n) bytes

-- what is taken is the part at the place
pub taken_at-some : (n : ℕ) (bytes : List ℕ) (at : ℕ) (part : List ℕ) → taken_at n bytes at ≡ Some part → IsPart n bytes at part
unfolding taken_at
taken_at-some n bytes at part e =
    let both = cond_some (leb (at + n) (length bytes)) (take n (drop at bytes)) part e in
    let left : at + n ≤ length bytes = leb-true _ _ both.0 in
    let size : length part ≡ n = sym (ap length both.1) ∙ omega (arith, length-take n (drop at bytes), length-drop at bytes) in
    let rest : part ++ drop (at + n) bytes ≡ drop at bytes = ap (λ (x : List ℕ). x ++ drop (at + n) bytes) (sym both.1) ∙ ap (λ (x : List ℕ). take n (drop at bytes) ++ x) (sym (drop-drop n at bytes)) ∙ take-append-drop n (drop at bytes) in
    let whole : take at bytes ++ part ++ drop (at + n) bytes ≡ bytes = append_assoc (take at bytes) part (drop (at + n) bytes) ∙ ap (λ (x : List ℕ). take at bytes ++ x) rest ∙ take-append-drop at bytes in
    record { left = left; size = size; is = both.1; whole = sym whole }

-- the bytes of a number that was made of them
taken_of : (n : ℕ) (bytes : List ℕ) (at number : ℕ) (taken : Option (List ℕ)) → option_map be_number taken ≡ Some number → (part : List ℕ) × (taken ≡ Some part) × (be_number part ≡ number)
taken_of n bytes at number (Some part) e = (part, refl, cc)
taken_of n bytes at number None e = absurd cc

-- bytes that make a number are its bytes
number_of_part : (n number : ℕ) (part : List ℕ) → length part ≡ n → be_number part ≡ number → AreBytes part → (number < 256 ^ n) × (be_bytes n number ≡ part)
number_of_part n number part size is h = rw (← size, ← is) (be_number-below part h, be_bytes-be_number part h)

-- what is read fits its bytes, and they stand at the place
pub field_at-some : (n : ℕ) (bytes : List ℕ) (at number : ℕ) → AreBytes bytes → field_at n bytes at ≡ Some number → (number < 256 ^ n) × (taken_at n bytes at ≡ Some (be_bytes n number))
unfolding field_at
field_at-some n bytes at number h e =
    let taken = taken_of n bytes at number (taken_at n bytes at) e in
    let part = taken_at-some n bytes at taken.0 taken.1 in
    let part_h : AreBytes taken.0 = rw (← part.is) (AreBytes-take n (drop at bytes) (AreBytes-drop at bytes h)) in
    let both = number_of_part n number taken.0 part.size taken.2 part_h in
    (both.0, taken.1 ∙ ap (λ (p : List ℕ). Some p) (sym both.1))

-- ---- the reader moved on

-- the bytes stay
pub moved_on-bytes : {A : Type 0} → (n : ℕ) (read : Option A) (reader : ReaderState) → (moved_on n read reader).bytes ≡ reader.bytes
moved_on-bytes n (Some value) reader = refl
moved_on-bytes n None reader = refl

-- where something was read
pub moved_on-some : {A : Type 0} → (n : ℕ) (read : Option A) (value : A) (reader : ReaderState) → read ≡ Some value → moved_on n read reader ≡ record { bytes = reader.bytes; at = reader.at + n }
moved_on-some n (Some x) value reader e = refl
moved_on-some n None value reader e = absurd cc

-- where nothing was read
pub moved_on-none : {A : Type 0} → (n : ℕ) (read : Option A) (reader : ReaderState) → read ≡ None → moved_on n read reader ≡ reader
moved_on-none n (Some x) reader e = absurd cc
moved_on-none n None reader e = refl
