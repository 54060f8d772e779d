-- Sums over lists, item after item. These serve the lengths.
use Rattle.std.proofs.Common.{ℕ, zero, suc, ◌≡◌, ◌+◌, ◌<◌, ◌≤◌, List, [], ◌∷◌, length, take, get_or, refl, ap, sym, ◌∙◌, arith}
use Rattle.std.specs.Prelude.{sum_by, slice_get, Some}
use Rattle.std.proofs.lemmas.List.Sums.{sum_by-cons}
use Rattle.vv_flat.specs.Lists.{if_found}

module _ {A : Type 0} (f : A → ℕ) where
  -- the items before a place, and the one there
  pub sum_more : (xs : List A) (k : ℕ) → sum_by f (take (k + 1) xs) ≡ sum_by f (take k xs) + if_found (slice_get xs k) f 0
  sum_more [] zero = refl
  sum_more [] (suc k) = let e : suc k + 1 ≡ suc (k + 1) = omega arith in ap (λ m. sum_by f (take {A = A} m [])) e
  sum_more (x ∷ xs) zero = omega (arith, sum_by-cons f x [])
  sum_more (x ∷ xs) (suc k) =
      let e : suc k + 1 ≡ suc (k + 1) = omega arith in
      ap (λ m. sum_by f (take m (x ∷ xs))) e ∙ omega (arith, sum_by-cons f x (take (k + 1) xs), sum_by-cons f x (take k xs), sum_more xs k)

  pub item_within : (xs : List A) (k : ℕ) (x : A) → slice_get xs k ≡ Some x → f x ≤ sum_by f xs
  item_within [] k x at = absurd (cc)
  item_within (y ∷ xs) zero x at = let same : y ≡ x = cc in let e : f y ≡ f x = ap f same in omega (arith, sum_by-cons f y xs, e)
  item_within (y ∷ xs) (suc k) x at = omega (arith, sum_by-cons f y xs, item_within xs k x at)

  -- are no more than all
  pub sum_within : (xs : List A) (k : ℕ) → sum_by f (take k xs) + if_found (slice_get xs k) f 0 ≤ sum_by f xs
  sum_within [] zero = omega arith
  sum_within [] (suc k) = omega arith
  sum_within (x ∷ xs) zero = omega (arith, sum_by-cons f x xs)
  sum_within (x ∷ xs) (suc k) = omega (arith, sum_by-cons f x xs, sum_by-cons f x (take k xs), sum_within xs k)

  -- the item of a slice at a place
  pub at_slice : (xs : List A) (k : ℕ) (x : A) → k < length xs → x ≡ get_or xs k x → if_found (slice_get xs k) f 0 ≡ f x
  at_slice [] k x lt is = absurd (omega (arith, lt))
  at_slice (y ∷ xs) zero x lt is = ap f (sym is)
  at_slice (y ∷ xs) (suc k) x lt is = at_slice xs k x (omega (arith, lt)) is

  pub sum_all : (xs : List A) (k : ℕ) → length xs ≤ k → sum_by f (take k xs) ≡ sum_by f xs
  sum_all [] zero le = refl
  sum_all [] (suc k) le = refl
  sum_all (x ∷ xs) zero le = absurd (omega (arith, le))
  sum_all (x ∷ xs) (suc k) le = omega (arith, sum_by-cons f x xs, sum_by-cons f x (take k xs), sum_all xs k (omega (arith, le)))
