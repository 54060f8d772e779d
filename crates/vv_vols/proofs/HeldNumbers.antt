-- The first number that no held list has.
use Rattle.std.proofs.Common.{ℕ, ◌≡◌, ◌+◌, ◌≤◌, ◌==◌, Bool, true, false, cond, not, List, [], ◌∷◌, map, refl, ap, arith}
use Rattle.std.specs.Prelude.{nat_lt}
use Rattle.std.specs.List.{list_all}
use Rattle.std.proofs.lemmas.Bool.{ne_eqb, eqb-true, ltb-true}
use Rattle.vv_flat.specs.Lists.{all_above, all_rising}
use Rattle.vv_flat.proofs.Shares.{and_left, and_right, and_both}
use Rattle.vv_vols.specs.Shelf.{first_gap}

gap_above : (n : ℕ) (ms : List ℕ) → n ≤ first_gap n ms
gap_above n [] = omega arith
gap_above n (m ∷ ms) = go (m == n) (gap_above (n + 1) ms)
  where
    go : (b : Bool) → n + 1 ≤ first_gap (n + 1) ms → n ≤ cond b (first_gap (n + 1) ms) n
    go true later = omega arith
    go false later = omega arith

module _ {A : Type 0} (key : A → ℕ) where
  -- a number that isn't above k is none of those above k
  above_out : (k g : ℕ) (xs : List A) → all_above k (map key xs) ≡ true → g ≤ k → list_all (λ x. not (key x == g)) xs ≡ true
  above_out k g [] above low = refl
  above_out k g (x ∷ xs) above low =
      let lt = ltb-true k (key x) (and_left (nat_lt k (key x)) (all_above (key x) (map key xs)) above) in
      let rest = and_right (nat_lt k (key x)) (all_above (key x) (map key xs)) above in
      and_both (not (key x == g)) (list_all (λ y. not (key y == g)) xs)
      (ap not (ne_eqb (key x) g (λ e. absurd (omega arith))))
      (above_out (key x) g xs rest (omega arith))

  gap_step : (n : ℕ) (x : A) (xs : List A) → n ≤ key x → all_above (key x) (map key xs) ≡ true
      → (key x ≡ n → list_all (λ y. not (key y == first_gap (n + 1) (map key xs))) xs ≡ true)
      → (b : Bool) → (key x == n) ≡ b
      → list_all (λ y. not (key y == cond b (first_gap (n + 1) (map key xs)) n)) (x ∷ xs) ≡ true
  gap_step n x xs low above later true e =
      let high = gap_above (n + 1) (map key xs) in
      let same = eqb-true (key x) n e in
      let gap = first_gap (n + 1) (map key xs) in
      and_both (not (key x == gap)) (list_all (λ y. not (key y == gap)) xs) (ap not (ne_eqb (key x) gap (λ is. absurd (omega arith)))) (later same)
  gap_step n x xs low above later false e =
      and_both (not (key x == n)) (list_all (λ y. not (key y == n)) xs) (ap not e) (above_out (key x) n xs above low)

  above_gap : (n k : ℕ) (xs : List A) → all_above k (map key xs) ≡ true → n ≡ k + 1 → list_all (λ x. not (key x == first_gap n (map key xs))) xs ≡ true
  above_gap n k [] above next = refl
  above_gap n k (x ∷ xs) above next =
      let lt = ltb-true k (key x) (and_left (nat_lt k (key x)) (all_above (key x) (map key xs)) above) in
      let rest = and_right (nat_lt k (key x)) (all_above (key x) (map key xs)) above in
      gap_step n x xs (omega arith) rest (λ same. above_gap (n + 1) (key x) xs rest (omega arith)) (key x == n) refl

  -- the first gap of rising numbers is none of them
  pub gap_new : (xs : List A) → all_rising (map key xs) ≡ true → list_all (λ x. not (key x == first_gap 0 (map key xs))) xs ≡ true
  gap_new [] rising = refl
  gap_new (x ∷ xs) rising = gap_step 0 x xs (omega arith) rising (λ same. above_gap 1 (key x) xs rising (omega arith)) (key x == 0) refl
