-- What is asked of an item that may be found, and items one by one. This serves the running clones and copies.
use Rattle.std.proofs.Common.{ℕ, zero, suc, ◌≡◌, List, [], ◌∷◌, ◌++◌, length, take, drop, refl, ap, ◌∙◌, append-nil}
use Rattle.std.specs.Prelude.{Option, Some, None, option_and_then, slice_get}
use Rattle.std.specs.List.{flat_map}
use Rattle.vv_flat.specs.Lists.{if_found}

module _ {A B : Type 0} (f : A → List B) where
  pub found_length : (o : Option A) → if_found o (λ a. length (f a)) 0 ≡ length (if_found o f [])
  found_length None = refl
  found_length (Some a) = refl

  pub found_at : (o : Option A) (k : ℕ) → option_and_then (λ a. slice_get (f a) k) o ≡ slice_get (if_found o f []) k
  found_at None k = refl
  found_at (Some a) k = refl

module _ {A : Type 0} (item : A → List ℕ) where
  -- the one item at a place
  pub one_there : (xs : List A) (i : ℕ) (x : A) → slice_get xs i ≡ Some x → flat_map item (take 1 (drop i xs)) ≡ item x
  one_there [] i x at = absurd (cc)
  one_there (y ∷ xs) zero x at = let same : y ≡ x = cc in ap (λ z. item z ++ []) same ∙ append-nil (item x)
  one_there (y ∷ xs) (suc i) x at = one_there xs i x at

  pub none_there : (xs : List A) (i : ℕ) → slice_get xs i ≡ None → flat_map item (take 1 (drop i xs)) ≡ []
  none_there [] zero at = refl
  none_there [] (suc i) at = refl
  none_there (y ∷ xs) zero at = absurd (cc)
  none_there (y ∷ xs) (suc i) at = none_there xs i at

  pub length-there : (size : A → ℕ) → ((x : A) → length (item x) ≡ size x) → (xs : List A) (i : ℕ) → length (flat_map item (take 1 (drop i xs))) ≡ if_found (slice_get xs i) size 0
  length-there size each [] zero = refl
  length-there size each [] (suc i) = refl
  length-there size each (y ∷ xs) zero = ap length (append-nil (item y)) ∙ each y
  length-there size each (y ∷ xs) (suc i) = length-there size each xs i
