-- How many gates are open, gate by gate.
use Rattle.std.proofs.Common.{◌≡◌, ◌≢◌, ◌⊎◌, inl, inr, ℕ, zero, suc, ◌+◌, ◌<◌, ◌≤◌, cond, List, [], ◌∷◌, length, get_or, drop, refl, ap, ◌∙◌, arith}
use Rattle.std.proofs.lemmas.Bool.{eq-eqb, ne_eqb, cases_eq}
use Rattle.std.proofs.lemmas.List.{get_or-take, get_or-drop, get_or_past, length-take}
use Rattle.vv_units.specs.declared.geometry.Geometry.{Geometry}
use Rattle.vv_journal.specs.Half.{gates_at, gates_of, open_count}

count_open : (gate : ℕ) (gates : List ℕ) → gate ≡ 1 → open_count (gate ∷ gates) ≡ suc (open_count gates)
count_open gate gates is = ap (λ b. cond b (suc (open_count gates)) zero) (eq-eqb gate 1 is)

count_shut : (gate : ℕ) (gates : List ℕ) → gate ≢ 1 → open_count (gate ∷ gates) ≡ zero
count_shut gate gates ne = ap (λ b. cond b (suc (open_count gates)) zero) (ne_eqb gate 1 ne)

-- each gate before is open
open_before_by : (gate : ℕ) (gates : List ℕ) → ((i : ℕ) → i < open_count gates → get_or gates i 0 ≡ 1) → (gate ≡ 1) ⊎ (gate ≡ 1 → ⊥) → (i : ℕ) → i < open_count (gate ∷ gates) → get_or (gate ∷ gates) i 0 ≡ 1
open_before_by gate gates rest (inl is) zero lt = is
open_before_by gate gates rest (inl is) (suc i) lt = rest i (omega (arith, lt, count_open gate gates is))
open_before_by gate gates rest (inr ne) i lt = absurd (omega (arith, lt, count_shut gate gates ne))

pub open_before : (gates : List ℕ) (i : ℕ) → i < open_count gates → get_or gates i 0 ≡ 1
open_before [] i lt = absurd (omega (arith, lt))
open_before (gate ∷ gates) i lt = open_before_by gate gates (open_before gates) (cases_eq gate 1) i lt

-- no more are open than there are
open_within_by : (gate : ℕ) (gates : List ℕ) → open_count gates ≤ length gates → (gate ≡ 1) ⊎ (gate ≡ 1 → ⊥) → open_count (gate ∷ gates) ≤ suc (length gates)
open_within_by gate gates le (inl is) = omega (arith, le, count_open gate gates is)
open_within_by gate gates le (inr ne) = omega (arith, count_shut gate gates ne)

open_within : (gates : List ℕ) → open_count gates ≤ length gates
open_within [] = omega arith
open_within (gate ∷ gates) = open_within_by gate gates (open_within gates) (cases_eq gate 1)

-- open gates, and then one that is not open
pub open_is : (gates : List ℕ) (n : ℕ) → ((i : ℕ) → i < n → get_or gates i 0 ≡ 1) → get_or gates n 0 ≢ 1 → open_count gates ≡ n
open_is [] zero before shut = refl
open_is [] (suc n) before shut = absurd (omega (arith, before 0 (omega arith)))
open_is (gate ∷ gates) zero before shut = count_shut gate gates shut
open_is (gate ∷ gates) (suc n) before shut = count_open gate gates (before 0 (omega arith)) ∙ ap suc (open_is gates n (λ i lt. before (suc i) (omega (arith, lt))) shut)

-- no fewer are open than stand open at the front
open_more_by : (gate : ℕ) (gates : List ℕ) (n : ℕ) → gate ≡ 1 → n ≤ open_count gates → suc n ≤ open_count (gate ∷ gates)
open_more_by gate gates n is le = omega (arith, le, count_open gate gates is)

pub open_more : (gates : List ℕ) (n : ℕ) → ((i : ℕ) → i < n → get_or gates i 0 ≡ 1) → n ≤ open_count gates
open_more gates zero each = omega arith
open_more [] (suc n) each = absurd (omega (arith, each 0 (omega arith)))
open_more (gate ∷ gates) (suc n) each = open_more_by gate gates n (each 0 (omega arith)) (open_more gates n (λ i lt. each (suc i) (omega (arith, lt))))

-- the gates of a half, byte by byte
pub gate_is : (geometry : Geometry) (half i : ℕ) (image : List ℕ) → i < 256 → get_or (gates_of geometry half image) i 0 ≡ get_or image (gates_at geometry half + i) 0
gate_is geometry half i image lt = get_or-take 256 (drop (gates_at geometry half) image) i 0 lt ∙ get_or-drop (gates_at geometry half) image i 0

pub no_gate : (geometry : Geometry) (half i : ℕ) (image : List ℕ) → 256 ≤ i → get_or (gates_of geometry half image) i 0 ≢ 1
no_gate geometry half i image le =
    let past : get_or (gates_of geometry half image) i 0 ≡ 0 = get_or_past (gates_of geometry half image) i 0 (omega (arith, le, length-take 256 (drop (gates_at geometry half) image))) in
    λ one. absurd (omega (arith, past, one))

pub few_open : (geometry : Geometry) (half : ℕ) (image : List ℕ) → open_count (gates_of geometry half image) ≤ 256
few_open geometry half image = omega (arith, open_within (gates_of geometry half image), length-take 256 (drop (gates_at geometry half) image))
