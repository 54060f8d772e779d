-- Forms that read alike wherever their bytes stand: what one reads of some bytes tells what it reads where others stand
-- before and behind them, unless the bytes end within it.
use Rattle.std.proofs.Common.{◌≡◌, ℕ, zero, suc, ◌+◌, ◌≤◌, ◌<◌, Bool, true, false, cond, List, [], ◌∷◌, ◌++◌, length, Option, Some, None, refl, sym, ap, ◌∙◌, subst, arith, inl, inr, length-append}
use Rattle.std.proofs.lemmas.Bool.{cases_lt}
use Rattle.vv_fields.specs.Fields.{ReaderState, field_at, taken_at}
use Rattle.vv_fields.proofs.FieldLemmas.{field_at-left, field_at-few, field_at-before, field_at-after, taken_at-left, taken_at-few, taken_at-before, taken_at-after}
use Rattle.vv_record.specs.Reading.{Form, Reading, Read, Fault, then_read, ◌>>=◌, done, found, number, bytes, checked, allowed, is_within, number_within, items}

-- a reader of some bytes, and the same where others stand before and behind them
abbrev pub within : List ℕ → ℕ → ReaderState
within window at = record { bytes = window; at = at }

abbrev pub among : List ℕ → List ℕ → List ℕ → ℕ → ReaderState
among before window rest at = record { bytes = before ++ (window ++ rest); at = length before + at }

-- what was read of some bytes is read among others: a value, or a fault, unless it is the end of the bytes and others
-- stand behind them
abbrev pub Carried : {A : Type 0} → List ℕ → List ℕ → List ℕ → Reading A → Reading A → Type 0
Carried before window rest (Read value behind) total =
    (behind.bytes ≡ window) × (behind.at ≤ length window) × (total ≡ Read value (among before window rest behind.at))
Carried before window rest (Fault at) total =
    (at ≤ length window) × ((at ≡ length window → rest ≡ []) → total ≡ Fault (length before + at))

pub record IsLocal {A : Type 0} (form : Form A) : Type 0 where
  pub carries : (before window rest : List ℕ) (at : ℕ) → at ≤ length window → Carried before window rest (form (within window at)) (form (among before window rest at))

-- ---- one form after the other

carried_then : {A B : Type 0} (before window rest : List ℕ) (part total : Reading A) (next : A → Form B) → Carried before window rest part total → ((v : A) → IsLocal (next v))
    → Carried before window rest (then_read part next) (then_read total next)
carried_then before window rest (Read v behind) total next h more =
    let here : within window behind.at ≡ behind = ap (λ (b : List ℕ). within b behind.at) (sym h.0) in
    let step = (more v).carries before window rest behind.at h.1 in
    subst (λ (t : Reading _). Carried before window rest (next v behind) (then_read t next)) (sym h.2)
    (subst (λ (r : ReaderState). Carried before window rest (next v r) (next v (among before window rest behind.at))) here step)
carried_then before window rest (Fault at) total next h more = (h.0, λ last. ap (λ t. then_read t next) (h.1 last))

pub local_then : {A B : Type 0} (form : Form A) (next : A → Form B) → IsLocal form → ((v : A) → IsLocal (next v)) → IsLocal (form >>= next)
local_then form next first more = record {
  carries = λ before window rest at inside.
      carried_then before window rest (form (within window at)) (form (among before window rest at)) next (first.carries before window rest at inside) more;
}

pub local_done : {A : Type 0} (value : A) → IsLocal (done value)
local_done value = record { carries = λ before window rest at inside. (refl, inside, refl) }

pub local_cond : {A : Type 0} (b : Bool) (one other : Form A) → IsLocal one → IsLocal other → IsLocal (cond b one other)
local_cond true one other h k = h
local_cond false one other h k = k

-- ---- numbers and bytes

none_behind : (before window rest : List ℕ) (at n : ℕ) → rest ≡ [] → length window < at + n → length (before ++ (window ++ rest)) < length before + at + n
none_behind before window rest at n none few =
    let empty : length rest ≡ 0 = ap length none in
    omega (arith, length-append before (window ++ rest), length-append window rest)

end_is : (before window rest : List ℕ) → rest ≡ [] → length (before ++ (window ++ rest)) ≡ length before + length window
end_is before window rest none =
    let empty : length rest ≡ 0 = ap length none in
    omega (arith, length-append before (window ++ rest), length-append window rest)

further : (a b n : ℕ) → a + b + n ≡ a + (b + n)
further a b n = omega arith

-- n bytes that were found, or not, at the place of some bytes are found, or not, among others
carried_found : {A : Type 0} (before window rest : List ℕ) (at n : ℕ) (value : A) (part total : Option A) → at ≤ length window
    → (at + n ≤ length window → (part ≡ Some value) × (total ≡ Some value)) → (length window < at + n → part ≡ None) → (length (before ++ (window ++ rest)) < length before + at + n → total ≡ None)
    → Carried before window rest (found n part (within window at)) (found n total (among before window rest at))
carried_found before window rest at n value part total inside both few none =
    elim (cases_lt (length window) (at + n)) [
      | inl lt ↦
          subst (λ p. Carried before window rest (found n p (within window at)) (found n total (among before window rest at))) (sym (few lt)) (
            omega arith,
            λ last.
                let empty : rest ≡ [] = last refl in
                ap (λ t. found n t (among before window rest at)) (none (none_behind before window rest at n empty lt))
                ∙ ap (λ (k : ℕ). Fault k) (end_is before window rest empty),
          )
      | inr le ↦
          subst (λ p. Carried before window rest (found n p (within window at)) (found n total (among before window rest at))) (sym (both le).0) (
            refl,
            le,
            ap (λ t. found n t (among before window rest at)) (both le).1
                ∙ ap (λ (k : ℕ). Read value (record { bytes = before ++ (window ++ rest); at = k })) (further (length before) at n),
          )
    ]

field_among : (n : ℕ) (before window rest : List ℕ) (at : ℕ) → at + n ≤ length window → field_at n (before ++ (window ++ rest)) (length before + at) ≡ field_at n window at
field_among n before window rest at le = field_at-before n before (window ++ rest) at ∙ field_at-after n window rest at le

taken_among : (n : ℕ) (before window rest : List ℕ) (at : ℕ) → at + n ≤ length window → taken_at n (before ++ (window ++ rest)) (length before + at) ≡ taken_at n window at
taken_among n before window rest at le = taken_at-before n before (window ++ rest) at ∙ taken_at-after n window rest at le

pub local_number : (n : ℕ) → IsLocal (number n)
unfolding number
local_number n = record {
  carries = λ before window rest at inside.
      carried_found before window rest at n _ (field_at n window at) (field_at n (before ++ (window ++ rest)) (length before + at)) inside
      (λ le. (field_at-left n window at le, field_among n before window rest at le ∙ field_at-left n window at le))
      (λ lt. field_at-few n window at lt)
      (λ lt. field_at-few n (before ++ (window ++ rest)) (length before + at) lt);
}

pub local_bytes : (n : ℕ) → IsLocal (bytes n)
unfolding bytes
local_bytes n = record {
  carries = λ before window rest at inside.
      carried_found before window rest at n _ (taken_at n window at) (taken_at n (before ++ (window ++ rest)) (length before + at)) inside
      (λ le. (taken_at-left n window at le, taken_among n before window rest at le ∙ taken_at-left n window at le))
      (λ lt. taken_at-few n window at lt)
      (λ lt. taken_at-few n (before ++ (window ++ rest)) (length before + at) lt);
}

-- ---- fields whose value is allowed

carried_test : {A : Type 0} (before window rest : List ℕ) (at : ℕ) (v : A) (behind : ReaderState) (b : Bool) → at ≤ length window → behind.bytes ≡ window → behind.at ≤ length window
    → Carried before window rest (cond b (Read v behind) (Fault at)) (cond b (Read v (among before window rest behind.at)) (Fault (length before + at)))
carried_test before window rest at v behind true inside same le = (same, le, refl)
carried_test before window rest at v behind false inside same le = (inside, λ last. refl)

carried_checked : {A : Type 0} (is_allowed : A → Bool) (before window rest : List ℕ) (at : ℕ) (part total : Reading A) → at ≤ length window → Carried before window rest part total
    → Carried before window rest (checked is_allowed at part) (checked is_allowed (length before + at) total)
carried_checked is_allowed before window rest at (Read v behind) total inside h =
    subst (λ t. Carried before window rest (checked is_allowed at (Read v behind)) (checked is_allowed (length before + at) t)) (sym h.2)
    (carried_test before window rest at v behind (is_allowed v) inside h.0 h.1)
carried_checked is_allowed before window rest at (Fault place) total inside h =
    (h.0, λ last. ap (λ t. checked is_allowed (length before + at) t) (h.1 last))

pub local_allowed : {A : Type 0} (is_allowed : A → Bool) (form : Form A) → IsLocal form → IsLocal (allowed is_allowed form)
unfolding allowed
local_allowed is_allowed form h = record {
  carries = λ before window rest at inside.
      carried_checked is_allowed before window rest at (form (within window at)) (form (among before window rest at)) inside (h.carries before window rest at inside);
}

pub local_within : (n low high : ℕ) → IsLocal (number_within n low high)
unfolding number_within
local_within n low high = local_allowed (is_within low high) (number n) (local_number n)

-- ---- so many items

pub local_items : {A : Type 0} (item : List A → Form A) → ((before : List A) → IsLocal (item before)) → (n : ℕ) (before : List A) → IsLocal (items item n before)
unfolding items
local_items item each zero before = local_done before
local_items item each (suc n) before = local_then (item before) (λ next. items item n (before ++ next ∷ [])) (each before) (λ next. local_items item each n (before ++ next ∷ []))
