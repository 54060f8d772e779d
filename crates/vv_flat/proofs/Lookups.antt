-- What is found in lists of records that are edited, what rising keys tell, and sums whose items are known to be none or
-- less. The law that charges stay within quotas rests on these.
use Rattle.std.proofs.Common.{◌≡◌, ◌≤◌, ◌<◌, ℕ, ◌+◌, ◌==◌, ◌&&◌, ◌||◌, not, refl, ap, ◌∙◌, Bool, true, false, cond, List, [], ◌∷◌, ◌++◌, map, arith}
use Rattle.std.specs.Prelude.{Option, Some, nat_lt, sum_by}
use Rattle.std.specs.List.{find, filter, list_all, list_any}
use Rattle.std.proofs.lemmas.List.Sums.{sum_by-cons}
use Rattle.std.proofs.lemmas.List.Folds.{list_any-append}
use Rattle.std.proofs.lemmas.Bool.{and_right as and_false, or_right, not-true, ltb-true, lt-ltb, eqb-true, eq-eqb, ne_eqb}
use Rattle.vv_flat.specs.Lists.{first_changed, put_before, first_removed, all_different, all_above, all_rising}
use Rattle.vv_flat.proofs.Shares.{and_left, and_right, and_both, list_all-follows}
use Rattle.vv_flat.proofs.Known.{all-found}

-- what passes q in a list that is edited where p passes
module _ {A : Type 0} (p q : A → Bool) where
  put_other : (x y : A) (ys : List A) (b : Bool) → q x ≡ false → find q (put_before p x ys) ≡ find q ys
      → find q (cond b (x ∷ y ∷ ys) (y ∷ put_before p x ys)) ≡ cond (q y) (Some y) (find q ys)
  put_other x y ys true e h = rw e
  put_other x y ys false e h = ap (λ o. cond (q y) (Some y) o) h

  pub find-put_other : (x : A) (xs : List A) → q x ≡ false → find q (put_before p x xs) ≡ find q xs
  find-put_other x [] e = rw e
  find-put_other x (y ∷ ys) e = put_other x y ys (p y) e (find-put_other x ys e)

  put_new : (x y : A) (ys : List A) (b : Bool) → q x ≡ true → q y ≡ false → find q (put_before p x ys) ≡ Some x
      → find q (cond b (x ∷ y ∷ ys) (y ∷ put_before p x ys)) ≡ Some x
  put_new x y ys true e f h = rw e
  put_new x y ys false e f h = rw f h

  -- the only one that passes
  pub find-put_new : (x : A) (xs : List A) → q x ≡ true → list_all (λ y. not (q y)) xs ≡ true → find q (put_before p x xs) ≡ Some x
  find-put_new x [] e h = rw e
  find-put_new x (y ∷ ys) e h =
      put_new x y ys (p y) e (not-true (q y) (and_left (not (q y)) (list_all (λ z. not (q z)) ys) h))
      (find-put_new x ys e (and_right (not (q y)) (list_all (λ z. not (q z)) ys) h))

  removed_other : (x : A) (xs : List A) (b : Bool) → p x ≡ b → (p x ≡ true → q x ≡ false)
      → find q (first_removed p xs) ≡ find q xs → find q (cond b xs (x ∷ first_removed p xs)) ≡ cond (q x) (Some x) (find q xs)
  removed_other x xs true is apart h = let z : q x ≡ false = apart is in rw z
  removed_other x xs false is apart h = ap (λ o. cond (q x) (Some x) o) h

  pub find-removed_other : ((x : A) → p x ≡ true → q x ≡ false) → (xs : List A) → find q (first_removed p xs) ≡ find q xs
  find-removed_other apart [] = refl
  find-removed_other apart (x ∷ xs) = removed_other x xs (p x) refl (apart x) (find-removed_other apart xs)

  kept_step : (x y : A) (xs : List A) (a b : Bool) → p x ≡ a → q x ≡ b → cond b (Some x) (find q xs) ≡ Some y → p y ≡ false
      → (find q xs ≡ Some y → find q (first_removed p xs) ≡ Some y) → find q (cond a xs (x ∷ first_removed p xs)) ≡ Some y
  kept_step x y xs true true is at e f h =
      let same : x ≡ y = cc in
      let g : p y ≡ true = rw same at is in cc
  kept_step x y xs true false is at e f h = e
  kept_step x y xs false true is at e f h = rw at e
  kept_step x y xs false false is at e f h = rw at (h e)

  -- what is found stays, where it isn't what is removed
  pub find-kept : (y : A) (xs : List A) → find q xs ≡ Some y → p y ≡ false → find q (first_removed p xs) ≡ Some y
  find-kept y [] e f = cc
  find-kept y (x ∷ xs) e f = kept_step x y xs (p x) (q x) refl refl e f (λ g. find-kept y xs g f)

  either_found : {B : Type 0} (h : Option A → B) (b : Bool) (x y o w : Option A) → (b ≡ true → h x ≡ h y) → h o ≡ h w
      → h (cond b x o) ≡ h (cond b y w)
  either_found h true x y o w e f = e refl
  either_found h false x y o w e f = f

  changed_step : {B : Type 0} (h : Option A → B) (g : A → A) (x : A) (xs : List A) (b : Bool) → p x ≡ b
      → (b ≡ true → q (g x) ≡ q x) → (b ≡ true → q x ≡ true → h (Some (g x)) ≡ h (Some x))
      → (b ≡ false → h (find q (first_changed p g xs)) ≡ h (find q xs))
      → h (find q (cond b (g x ∷ xs) (x ∷ first_changed p g xs))) ≡ h (cond (q x) (Some x) (find q xs))
  changed_step h g x xs true is test value there =
      let same : q (g x) ≡ q x = test refl in
      rw same (either_found h (q x) (Some (g x)) (Some x) (find q xs) (find q xs) (value refl) refl)
  changed_step h g x xs false is test value there =
      either_found h (q x) (Some x) (Some x) (find q (first_changed p g xs)) (find q xs) (λ e. refl) (there refl)

  -- what is made of the item that is found, where a change keeps the test, and what is made of it where it passes
  pub find-changed : {B : Type 0} (h : Option A → B) (g : A → A) (xs : List A) → ((x : A) → find p xs ≡ Some x → q (g x) ≡ q x)
      → ((x : A) → find p xs ≡ Some x → q x ≡ true → h (Some (g x)) ≡ h (Some x))
      → h (find q (first_changed p g xs)) ≡ h (find q xs)
  find-changed h g [] test value = refl
  find-changed h g (x ∷ xs) test value =
      changed_step h g x xs (p x) refl (λ e. test x (rw e)) (λ e. value x (rw e))
      (λ e. find-changed h g xs (λ y found. test y (rw e found)) (λ y found. value y (rw e found)))

  none_step : (x y : A) (xs : List A) (a b : Bool) → q x ≡ a → cond b (Some x) (find p xs) ≡ Some y → (a || list_any q xs) ≡ false
      → (find p xs ≡ Some y → list_any q xs ≡ false → q y ≡ false) → q y ≡ false
  none_step x y xs true b is e f there = cc
  none_step x y xs false true is e f there = let same : x ≡ y = cc in rw same at is
  none_step x y xs false false is e f there = there e f

  -- what is found passes no test that none passes
  pub none-found : (y : A) (xs : List A) → list_any q xs ≡ false → find p xs ≡ Some y → q y ≡ false
  none-found y [] f e = cc
  none-found y (x ∷ xs) f e = none_step x y xs (q x) (p x) refl e f (λ g h. none-found y xs h g)

-- records whose keys rise
module _ {A : Type 0} (key : A → ℕ) where
  above_all : (n m : ℕ) → n ≤ m → (xs : List A) → all_above m (map key xs) ≡ true → list_all (λ x. nat_lt n (key x)) xs ≡ true
  above_all n m le [] e = refl
  above_all n m le (x ∷ xs) e =
      let lt : m < key x = ltb-true m (key x) (and_left (nat_lt m (key x)) _ e) in
      and_both (nat_lt n (key x)) _ (lt-ltb n (key x) (omega arith))
      (above_all n (key x) (omega arith) xs (and_right (nat_lt m (key x)) _ e))

  rising_rest : (n : ℕ) (xs : List A) → all_above n (map key xs) ≡ true → all_rising (map key xs) ≡ true
  rising_rest n [] e = refl
  rising_rest n (x ∷ xs) e = and_right (nat_lt n (key x)) _ e

  above_other : (x y : A) (xs : List A) → all_above (key x) (map key xs) ≡ true → find (λ z. key z == key y) xs ≡ Some y
      → (key x == key y) ≡ false
  above_other x y xs e found =
      let lt : key x < key y =
      ltb-true (key x) (key y)
      (all-found (λ z. nat_lt (key x) (key z)) (λ z. key z == key y) y xs (above_all (key x) (key x) (omega arith) xs e) found) in
      ne_eqb (key x) (key y) (λ same. omega arith)

  -- what holds of each item that is found by its key holds of all
  pub each-found : (r : A → Bool) (xs : List A) → all_rising (map key xs) ≡ true
      → ((x : A) → find (λ y. key y == key x) xs ≡ Some x → r x ≡ true) → list_all r xs ≡ true
  each-found r [] e h = refl
  each-found r (x ∷ xs) e h =
      and_both (r x) (list_all r xs) (h x (rw (eq-eqb (key x) (key x) refl)))
      (each-found r xs (rising_rest (key x) xs e) (λ y found. h y (rw (above_other x y xs e found) found)))

  -- without the first item of a key none of that key is left
  left_step : (n : ℕ) (x : A) (xs : List A) (b : Bool) → (key x == n) ≡ b → all_above (key x) (map key xs) ≡ true
      → list_all (λ y. not (key y == n)) (first_removed (λ y. key y == n) xs) ≡ true
      → list_all (λ y. not (key y == n)) (cond b xs (x ∷ first_removed (λ y. key y == n) xs)) ≡ true
  left_step n x xs true is e h =
      let same : key x ≡ n = eqb-true (key x) n is in
      list_all-follows (λ y. nat_lt (key x) (key y)) (λ y. not (key y == n))
      (λ y above. let lt : key x < key y = ltb-true (key x) (key y) above in
      ap not (ne_eqb (key y) n (λ f. omega arith))) xs (above_all (key x) (key x) (omega arith) xs e)
  left_step n x xs false is e h = and_both (not (key x == n)) _ (ap not is) h

  pub none-left : (n : ℕ) (xs : List A) → all_rising (map key xs) ≡ true
      → list_all (λ y. not (key y == n)) (first_removed (λ y. key y == n) xs) ≡ true
  none-left n [] e = refl
  none-left n (x ∷ xs) e = left_step n x xs (key x == n) refl e (none-left n xs (rising_rest (key x) xs e))

  -- fewer items still rise
  above_step : (r : A → Bool) (n : ℕ) (x : A) (xs : List A) (b : Bool) → n < key x
      → all_above (key x) (map key (filter r xs)) ≡ true → all_above n (map key (filter r xs)) ≡ true
      → all_above n (map key (cond b (x ∷ filter r xs) (filter r xs))) ≡ true
  above_step r n x xs true lt here there = and_both (nat_lt n (key x)) _ (lt-ltb n (key x) lt) here
  above_step r n x xs false lt here there = there

  above-filter : (r : A → Bool) (n m : ℕ) → n ≤ m → (xs : List A) → all_above m (map key xs) ≡ true
      → all_above n (map key (filter r xs)) ≡ true
  above-filter r n m le [] e = refl
  above-filter r n m le (x ∷ xs) e =
      let lt : m < key x = ltb-true m (key x) (and_left (nat_lt m (key x)) _ e) in
      let rest : all_above (key x) (map key xs) ≡ true = and_right (nat_lt m (key x)) _ e in
      above_step r n x xs (r x) (omega arith) (above-filter r (key x) (key x) (omega arith) xs rest)
      (above-filter r n (key x) (omega arith) xs rest)

  rising_step : (r : A → Bool) (x : A) (xs : List A) (b : Bool) → all_above (key x) (map key (filter r xs)) ≡ true
      → all_rising (map key (filter r xs)) ≡ true → all_rising (map key (cond b (x ∷ filter r xs) (filter r xs))) ≡ true
  rising_step r x xs true here there = here
  rising_step r x xs false here there = there

  pub rising-filter : (r : A → Bool) (xs : List A) → all_rising (map key xs) ≡ true → all_rising (map key (filter r xs)) ≡ true
  rising-filter r [] e = refl
  rising-filter r (x ∷ xs) e =
      rising_step r x xs (r x) (above-filter r (key x) (key x) (omega arith) xs e) (rising-filter r xs (rising_rest (key x) xs e))

-- a number of each of two lists is one that comes twice
pub comes_twice : (n : ℕ) (xs ys : List ℕ) → list_any (λ m. m == n) xs ≡ true → list_any (λ m. m == n) ys ≡ true → all_different (xs ++ ys) ≡ false
comes_twice n [] ys e f = cc
comes_twice n (x ∷ xs) ys e f = of_first (x == n) refl e (λ g. comes_twice n xs ys g f)
  where
    of_first : (b : Bool) → (x == n) ≡ b → (b || list_any (λ m. m == n) xs) ≡ true
        → (list_any (λ m. m == n) xs ≡ true → all_different (xs ++ ys) ≡ false) → all_different (x ∷ xs ++ ys) ≡ false
    of_first true is g there =
        let same : x ≡ n = eqb-true x n is in
        let any : list_any (λ m. m == x) (xs ++ ys) ≡ true =
        list_any-append (λ m. m == x) xs ys ∙ or_right (list_any (λ m. m == x) xs) (list_any (λ m. m == x) ys) (rw same f) in
        ap (λ b. not b && all_different (xs ++ ys)) any
    of_first false is g there = and_false (not (list_any (λ m. m == x) (xs ++ ys))) (all_different (xs ++ ys)) (there g)

any_step : {A : Type 0} (key : A → ℕ) (n : ℕ) (x y : A) (xs : List A) (b : Bool) → cond b (Some x) (find (λ z. key z == n) xs) ≡ Some y
    → (find (λ z. key z == n) xs ≡ Some y → list_any (λ m. m == n) (map key xs) ≡ true) → (b || list_any (λ m. m == n) (map key xs)) ≡ true
any_step key n x y xs true e there = refl
any_step key n x y xs false e there = there e

-- what is found by its key has a key of the list
pub any-found : {A : Type 0} (key : A → ℕ) (n : ℕ) (y : A) (xs : List A) → find (λ z. key z == n) xs ≡ Some y
    → list_any (λ m. m == n) (map key xs) ≡ true
any-found key n y [] e = cc
any-found key n y (x ∷ xs) e = any_step key n x y xs (key x == n) e (any-found key n y xs)

filtered_step : {A : Type 0} (r s : A → Bool) (x : A) (xs : List A) (b : Bool) → (not b || s x) ≡ true
    → list_all s (filter r xs) ≡ true → list_all s (cond b (x ∷ filter r xs) (filter r xs)) ≡ true
filtered_step r s x xs true e h = and_both (s x) (list_all s (filter r xs)) e h
filtered_step r s x xs false e h = h

-- what holds of each item that passes
pub all-filtered : {A : Type 0} (r s : A → Bool) (xs : List A) → list_all (λ x. not (r x) || s x) xs ≡ true → list_all s (filter r xs) ≡ true
all-filtered r s [] e = refl
all-filtered r s (x ∷ xs) e =
    filtered_step r s x xs (r x) (and_left (not (r x) || s x) _ e) (all-filtered r s xs (and_right (not (r x) || s x) _ e))

-- sums over items that all pass a test
module _ {A : Type 0} (r : A → Bool) (f : A → ℕ) where
  pub sum-none : ((x : A) → r x ≡ true → f x ≡ 0) → (xs : List A) → list_all r xs ≡ true → sum_by f xs ≡ 0
  sum-none h [] e = refl
  sum-none h (x ∷ xs) e =
      let z : f x ≡ 0 = h x (and_left (r x) (list_all r xs) e) in
      let c : sum_by f (x ∷ xs) ≡ f x + sum_by f xs = sum_by-cons f x xs in
      let t : sum_by f xs ≡ 0 = sum-none h xs (and_right (r x) (list_all r xs) e) in
      omega (arith, z, c, t)

  pub sum-below : (g : A → ℕ) → ((x : A) → r x ≡ true → f x ≤ g x) → (xs : List A) → list_all r xs ≡ true → sum_by f xs ≤ sum_by g xs
  sum-below g h [] e = omega arith
  sum-below g h (x ∷ xs) e =
      let z : f x ≤ g x = h x (and_left (r x) (list_all r xs) e) in
      let c : sum_by f (x ∷ xs) ≡ f x + sum_by f xs = sum_by-cons f x xs in
      let b : sum_by g (x ∷ xs) ≡ g x + sum_by g xs = sum_by-cons g x xs in
      let t : sum_by f xs ≤ sum_by g xs = sum-below g h xs (and_right (r x) (list_all r xs) e) in
      omega (arith, z, c, b, t)
