-- A walk over a list by places: what is told of the items from a place on.
use Rattle.std.proofs.Common.{ℕ, zero, suc, ◌≡◌, ◌+◌, ◌<◌, ◌≤◌, ◌||◌, ◌&&◌, Bool, true, false, not, cond, List, [], ◌∷◌, length, drop, Some, None, slice_get, is_some, refl, ap, ◌∙◌, arith}
use Rattle.std.specs.List.{find, list_any, list_all}

pub not_true : (b : Bool) → not b ≡ true → b ≡ false
not_true true e = absurd (cc)
not_true false e = refl

pub not_false : (b : Bool) → not b ≡ false → b ≡ true
not_false true e = refl
not_false false e = absurd (cc)

module _ {A : Type 0} where
  here_suc : (xs : List A) (i : ℕ) (x : A) → slice_get xs i ≡ Some x → drop i xs ≡ x ∷ drop (suc i) xs
  here_suc [] i x e = absurd (cc)
  here_suc (y ∷ ys) zero x e = let s : y ≡ x = cc in ap (λ z. z ∷ ys) s
  here_suc (y ∷ ys) (suc i) x e = here_suc ys i x e

  -- the items from a place on begin with the one there
  pub here : (xs : List A) (i : ℕ) (x : A) → slice_get xs i ≡ Some x → drop i xs ≡ x ∷ drop (i + 1) xs
  here xs i x e = let next : suc i ≡ i + 1 = omega arith in here_suc xs i x e ∙ ap (λ k. x ∷ drop k xs) next

  pub at_end : (xs : List A) (i : ℕ) → slice_get xs i ≡ None → drop i xs ≡ []
  at_end [] zero e = refl
  at_end [] (suc i) e = refl
  at_end (x ∷ xs) zero e = absurd (cc)
  at_end (x ∷ xs) (suc i) e = at_end xs i e

  pub past_end : (xs : List A) (i : ℕ) → slice_get xs i ≡ None → length xs ≤ i
  past_end [] i e = omega arith
  past_end (x ∷ xs) zero e = absurd (cc)
  past_end (x ∷ xs) (suc i) e = let h : length xs ≤ i = past_end xs i e in omega arith

  pub within : (xs : List A) (i : ℕ) (x : A) → slice_get xs i ≡ Some x → i < length xs
  within [] i x e = absurd (cc)
  within (y ∷ ys) zero x e = omega arith
  within (y ∷ ys) (suc i) x e = let h : i < length ys = within ys i x e in omega arith

  pub some_within : (xs : List A) (i : ℕ) → is_some (slice_get xs i) ≡ true → i < length xs
  some_within [] i e = absurd (cc)
  some_within (y ∷ ys) zero e = omega arith
  some_within (y ∷ ys) (suc i) e = let h : i < length ys = some_within ys i e in omega arith

  pub none_past : (xs : List A) (i : ℕ) → is_some (slice_get xs i) ≡ false → length xs ≤ i
  none_past [] i e = omega arith
  none_past (x ∷ xs) zero e = absurd (cc)
  none_past (x ∷ xs) (suc i) e = let h : length xs ≤ i = none_past xs i e in omega arith

module _ {A : Type 0} (p : A → Bool) where
  -- all of the items from a place on pass: one that doesn't decides, one that does leaves it to those behind it
  pub all_stops : (xs : List A) (i : ℕ) (x : A) → slice_get xs i ≡ Some x → p x ≡ false → list_all p (drop i xs) ≡ false
  all_stops xs i x e h = ap (list_all p) (here xs i x e) ∙ ap (λ b. b && list_all p (drop (i + 1) xs)) h

  pub all_more : (xs : List A) (i : ℕ) (x : A) → slice_get xs i ≡ Some x → p x ≡ true → list_all p (drop i xs) ≡ list_all p (drop (i + 1) xs)
  all_more xs i x e h = ap (list_all p) (here xs i x e) ∙ ap (λ b. b && list_all p (drop (i + 1) xs)) h

  pub all_done : (xs : List A) (i : ℕ) → slice_get xs i ≡ None → list_all p (drop i xs) ≡ true
  all_done xs i e = ap (list_all p) (at_end xs i e)

  -- some item from a place on passes
  pub any_stops : (xs : List A) (i : ℕ) (x : A) → slice_get xs i ≡ Some x → p x ≡ true → list_any p (drop i xs) ≡ true
  any_stops xs i x e h = ap (list_any p) (here xs i x e) ∙ ap (λ b. b || list_any p (drop (i + 1) xs)) h

  pub any_more : (xs : List A) (i : ℕ) (x : A) → slice_get xs i ≡ Some x → p x ≡ false → list_any p (drop i xs) ≡ list_any p (drop (i + 1) xs)
  any_more xs i x e h = ap (list_any p) (here xs i x e) ∙ ap (λ b. b || list_any p (drop (i + 1) xs)) h

  pub any_done : (xs : List A) (i : ℕ) → slice_get xs i ≡ None → list_any p (drop i xs) ≡ false
  any_done xs i e = ap (list_any p) (at_end xs i e)

  -- the first item from a place on that passes
  pub find_stops : (xs : List A) (i : ℕ) (x : A) → slice_get xs i ≡ Some x → p x ≡ true → find p (drop i xs) ≡ Some x
  find_stops xs i x e h = ap (find p) (here xs i x e) ∙ ap (λ b. cond b (Some x) (find p (drop (i + 1) xs))) h

  pub find_more : (xs : List A) (i : ℕ) (x : A) → slice_get xs i ≡ Some x → p x ≡ false → find p (drop i xs) ≡ find p (drop (i + 1) xs)
  find_more xs i x e h = ap (find p) (here xs i x e) ∙ ap (λ b. cond b (Some x) (find p (drop (i + 1) xs))) h

  pub find_done : (xs : List A) (i : ℕ) → slice_get xs i ≡ None → find p (drop i xs) ≡ None
  find_done xs i e = ap (find p) (at_end xs i e)
