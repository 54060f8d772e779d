-- Sums over lists that are edited: an item put in, taken out or changed.
use Rattle.std.proofs.Common.{◌≡◌, ℕ, ◌+◌, ◌≤◌, refl, ap, Bool, true, false, cond, List, [], ◌∷◌, arith}
use Rattle.std.specs.Prelude.{Some, sum_by}
use Rattle.std.specs.List.{find}
use Rattle.std.proofs.lemmas.List.Sums.{sum_by-cons}
use Rattle.vv_flat.specs.Lists.{first_changed, put_before, first_removed}

module _ {A : Type 0} (f : A → ℕ) (p : A → Bool) where
  put_step : (x y : A) (ys : List A) (b : Bool) → sum_by f (put_before p x ys) ≡ f x + sum_by f ys
      → sum_by f (cond b (x ∷ y ∷ ys) (y ∷ put_before p x ys)) ≡ f x + (f y + sum_by f ys)
  put_step x y ys true e = rw (sum_by-cons f x (y ∷ ys), sum_by-cons f y ys)
  put_step x y ys false e =
      let c : sum_by f (y ∷ put_before p x ys) ≡ f y + sum_by f (put_before p x ys) = sum_by-cons f y (put_before p x ys) in
      omega (arith, c, e)

  pub sum-put : (x : A) (xs : List A) → sum_by f (put_before p x xs) ≡ f x + sum_by f xs
  sum-put x [] = sum_by-cons f x []
  sum-put x (y ∷ ys) = rw (sum_by-cons f y ys) (put_step x y ys (p y) (sum-put x ys))

  removed_step : (x : A) (xs : List A) (b : Bool) → sum_by f (first_removed p xs) ≤ sum_by f xs
      → sum_by f (cond b xs (x ∷ first_removed p xs)) ≤ f x + sum_by f xs
  removed_step x xs true e = omega arith
  removed_step x xs false e =
      let c : sum_by f (x ∷ first_removed p xs) ≡ f x + sum_by f (first_removed p xs) = sum_by-cons f x (first_removed p xs) in
      omega (arith, c, e)

  pub sum-removed : (xs : List A) → sum_by f (first_removed p xs) ≤ sum_by f xs
  sum-removed [] = omega arith
  sum-removed (x ∷ xs) = rw (sum_by-cons f x xs) (removed_step x xs (p x) (sum-removed xs))

  found_step : (y x : A) (xs : List A) (b : Bool) → cond b (Some x) (find p xs) ≡ Some y
      → (find p xs ≡ Some y → sum_by f (first_removed p xs) + f y ≡ sum_by f xs)
      → sum_by f (cond b xs (x ∷ first_removed p xs)) + f y ≡ f x + sum_by f xs
  found_step y x xs true e there = let same : x ≡ y = cc in rw same (omega arith)
  found_step y x xs false e there =
      let c : sum_by f (x ∷ first_removed p xs) ≡ f x + sum_by f (first_removed p xs) = sum_by-cons f x (first_removed p xs) in
      let t : sum_by f (first_removed p xs) + f y ≡ sum_by f xs = there e in
      omega (arith, c, t)

  pub sum-removed_found : (y : A) (xs : List A) → find p xs ≡ Some y → sum_by f (first_removed p xs) + f y ≡ sum_by f xs
  sum-removed_found y [] e = cc
  sum-removed_found y (x ∷ xs) e = rw (sum_by-cons f x xs) (found_step y x xs (p x) e (sum-removed_found y xs))

  changed_step : (g : A → A) (k : ℕ) (x : A) (xs : List A) (b : Bool) → p x ≡ b → (b ≡ true → f (g x) ≤ f x + k)
      → (b ≡ false → sum_by f (first_changed p g xs) ≤ sum_by f xs + k)
      → sum_by f (cond b (g x ∷ xs) (x ∷ first_changed p g xs)) ≤ (f x + sum_by f xs) + k
  changed_step g k x xs true is here there =
      let c : sum_by f (g x ∷ xs) ≡ f (g x) + sum_by f xs = sum_by-cons f (g x) xs in
      let h : f (g x) ≤ f x + k = here refl in omega (arith, c, h)
  changed_step g k x xs false is here there =
      let c : sum_by f (x ∷ first_changed p g xs) ≡ f x + sum_by f (first_changed p g xs) = sum_by-cons f x (first_changed p g xs) in
      let t : sum_by f (first_changed p g xs) ≤ sum_by f xs + k = there refl in omega (arith, c, t)

  -- a change of the item that is found adds no more than it adds to that item
  pub sum-changed : (g : A → A) (k : ℕ) (xs : List A) → ((x : A) → find p xs ≡ Some x → f (g x) ≤ f x + k)
      → sum_by f (first_changed p g xs) ≤ sum_by f xs + k
  sum-changed g k [] h = omega arith
  sum-changed g k (x ∷ xs) h =
      rw (sum_by-cons f x xs)
      (changed_step g k x xs (p x) refl (λ e. h x (rw e)) (λ e. sum-changed g k xs (λ y found. h y (rw e found))))

  exact_step : (g : A → A) (y x : A) (xs : List A) (b : Bool) → cond b (Some x) (find p xs) ≡ Some y
      → (find p xs ≡ Some y → sum_by f (first_changed p g xs) + f y ≡ sum_by f xs + f (g y))
      → sum_by f (cond b (g x ∷ xs) (x ∷ first_changed p g xs)) + f y ≡ (f x + sum_by f xs) + f (g y)
  exact_step g y x xs true e there =
      let same : x ≡ y = cc in
      let c : sum_by f (g x ∷ xs) ≡ f (g x) + sum_by f xs = sum_by-cons f (g x) xs in
      let h : f (g x) ≡ f (g y) = ap (λ z. f (g z)) same in
      let k : f x ≡ f y = ap f same in
      omega (arith, c, h, k)
  exact_step g y x xs false e there =
      let c : sum_by f (x ∷ first_changed p g xs) ≡ f x + sum_by f (first_changed p g xs) = sum_by-cons f x (first_changed p g xs) in
      let t : sum_by f (first_changed p g xs) + f y ≡ sum_by f xs + f (g y) = there e in
      omega (arith, c, t)

  -- and exactly what it adds, where one is found
  pub sum-changed_found : (g : A → A) (y : A) (xs : List A) → find p xs ≡ Some y
      → sum_by f (first_changed p g xs) + f y ≡ sum_by f xs + f (g y)
  sum-changed_found g y [] e = cc
  sum-changed_found g y (x ∷ xs) e = rw (sum_by-cons f x xs) (exact_step g y x xs (p x) e (sum-changed_found g y xs))
