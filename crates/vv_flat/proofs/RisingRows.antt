-- Lists of records in rising order of their numbers: one more behind all others, one that is changed, and how many pass
-- a test.
use Rattle.std.proofs.Common.{◌≡◌, ℕ, ◌+◌, not, refl, ap, ◌∙◌, Bool, true, false, cond, List, [], ◌∷◌, ◌++◌, map, length, suc, arith}
use Rattle.std.specs.Prelude.{Some, None, nat_lt, count_by}
use Rattle.std.specs.List.{find, list_all}
use Rattle.std.proofs.lemmas.List.Sums.{sum_by-cons}
use Rattle.vv_flat.specs.Lists.{first_changed, first_removed, put_before, all_above, all_rising}
use Rattle.vv_flat.proofs.Shares.{and_left, and_right, and_both}

module _ {A : Type 0} (key : A → ℕ) where
  above_push : (n : ℕ) (x : A) (xs : List A) → nat_lt n (key x) ≡ true → list_all (λ y. nat_lt (key y) (key x)) xs ≡ true
      → all_above n (map key xs) ≡ true → all_above n (map key (xs ++ x ∷ [])) ≡ true
  above_push n x [] e below h = and_both (nat_lt n (key x)) true e refl
  above_push n x (y ∷ ys) e below h =
      and_both (nat_lt n (key y)) (all_above (key y) (map key (ys ++ x ∷ []))) (and_left (nat_lt n (key y)) (all_above (key y) (map key ys)) h)
      (above_push (key y) x ys (and_left (nat_lt (key y) (key x)) (list_all (λ z. nat_lt (key z) (key x)) ys) below)
      (and_right (nat_lt (key y) (key x)) (list_all (λ z. nat_lt (key z) (key x)) ys) below)
      (and_right (nat_lt n (key y)) (all_above (key y) (map key ys)) h))

  pub rising-push : (x : A) (xs : List A) → list_all (λ y. nat_lt (key y) (key x)) xs ≡ true → all_rising (map key xs) ≡ true
      → all_rising (map key (xs ++ x ∷ [])) ≡ true
  rising-push x [] below h = refl
  rising-push x (y ∷ ys) below h =
      above_push (key y) x ys (and_left (nat_lt (key y) (key x)) (list_all (λ z. nat_lt (key z) (key x)) ys) below)
      (and_right (nat_lt (key y) (key x)) (list_all (λ z. nat_lt (key z) (key x)) ys) below) h

  keys_step : (p : A → Bool) (g : A → A) (x : A) (xs : List A) (b : Bool) → p x ≡ b → (p x ≡ true → key (g x) ≡ key x)
      → map key (first_changed p g xs) ≡ map key xs → map key (cond b (g x ∷ xs) (x ∷ first_changed p g xs)) ≡ key x ∷ map key xs
  keys_step p g x xs true is same h = ap (λ k. k ∷ map key xs) (same is)
  keys_step p g x xs false is same h = ap (λ ks. key x ∷ ks) h

  -- a change that keeps the number
  pub keys-changed : (p : A → Bool) (g : A → A) → ((x : A) → p x ≡ true → key (g x) ≡ key x) → (xs : List A)
      → map key (first_changed p g xs) ≡ map key xs
  keys-changed p g same [] = refl
  keys-changed p g same (x ∷ xs) = keys_step p g x xs (p x) refl (same x) (keys-changed p g same xs)

module _ {A : Type 0} (p : A → Bool) where
  changed_none : (g : A → A) (x : A) (xs : List A) (b : Bool) → cond b (Some x) (find p xs) ≡ None
      → (find p xs ≡ None → xs ≡ first_changed p g xs) → x ∷ xs ≡ cond b (g x ∷ xs) (x ∷ first_changed p g xs)
  changed_none g x xs true h k = absurd (cc)
  changed_none g x xs false h k = ap (λ ys. x ∷ ys) (k h)

  -- a list without such an item stays
  pub changed-none : (g : A → A) (xs : List A) → find p xs ≡ None → xs ≡ first_changed p g xs
  changed-none g [] h = refl
  changed-none g (x ∷ xs) h = changed_none g x xs (p x) h (changed-none g xs)

  removed_none : (x : A) (xs : List A) (b : Bool) → cond b (Some x) (find p xs) ≡ None
      → (find p xs ≡ None → xs ≡ first_removed p xs) → x ∷ xs ≡ cond b xs (x ∷ first_removed p xs)
  removed_none x xs true h k = absurd (cc)
  removed_none x xs false h k = ap (λ ys. x ∷ ys) (k h)

  pub removed-none : (xs : List A) → find p xs ≡ None → xs ≡ first_removed p xs
  removed-none [] h = refl
  removed-none (x ∷ xs) h = removed_none x xs (p x) h (removed-none xs)

  count_step : (x : A) (xs : List A) (b : Bool) → cond (not b) (Some x) (find (λ y. not (p y)) xs) ≡ None
      → (find (λ y. not (p y)) xs ≡ None → count_by p xs ≡ length xs) → cond b 1 0 + count_by p xs ≡ length (x ∷ xs)
  count_step x xs true h k = let e : count_by p xs ≡ length xs = k h in omega arith
  count_step x xs false h k = absurd (cc)

  -- all pass where none is found that doesn't
  pub count-all : (xs : List A) → find (λ y. not (p y)) xs ≡ None → count_by p xs ≡ length xs
  count-all [] h = refl
  count-all (x ∷ xs) h = sum_by-cons (λ y. cond (p y) 1 0) x xs ∙ count_step x xs (p x) h (count-all xs)

  length_step : (g : A → A) (x : A) (xs : List A) (b : Bool) → length (first_changed p g xs) ≡ length xs
      → length (cond b (g x ∷ xs) (x ∷ first_changed p g xs)) ≡ length (x ∷ xs)
  length_step g x xs true h = refl
  length_step g x xs false h = ap (λ n. suc n) h

  pub length-changed : (g : A → A) (xs : List A) → length (first_changed p g xs) ≡ length xs
  length-changed g [] = refl
  length-changed g (x ∷ xs) = length_step g x xs (p x) (length-changed g xs)

  put_step : (x y : A) (ys : List A) (b : Bool) → not b ≡ true → put_before p x ys ≡ ys ++ x ∷ []
      → cond b (x ∷ y ∷ ys) (y ∷ put_before p x ys) ≡ y ∷ ys ++ x ∷ []
  put_step x y ys true no_pass h = absurd (cc)
  put_step x y ys false no_pass h = ap (λ zs. y ∷ zs) h

  -- put ahead of none is put at the end
  pub put-last : (x : A) (xs : List A) → list_all (λ y. not (p y)) xs ≡ true → put_before p x xs ≡ xs ++ x ∷ []
  put-last x [] h = refl
  put-last x (y ∷ ys) h =
      put_step x y ys (p y) (and_left (not (p y)) (list_all (λ z. not (p z)) ys) h)
      (put-last x ys (and_right (not (p y)) (list_all (λ z. not (p z)) ys) h))
