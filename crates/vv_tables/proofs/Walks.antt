-- A walk over a list by places, as far as it has come.
use Rattle.std.proofs.Common.{ℕ, zero, suc, ◌≡◌, ◌+◌, ◌<◌, ◌≤◌, ◌==◌, ◌||◌, ◌&&◌, Bool, true, false, cond, List, [], ◌∷◌, map, length, take, Option, Some, None, option_map, slice_get, refl, sym, ap, ◌∙◌, arith}
use Rattle.std.specs.List.{find, list_any}
use Rattle.std.proofs.lemmas.Bool.{ne_eqb, eq-eqb, ltb-true, lt-ltb}
use Rattle.std.specs.Prelude.{nat_lt}
use Rattle.vv_flat.specs.Lists.{all_above, all_rising}
use Rattle.vv_flat.proofs.Shares.{and_left, and_right}

or_false_left : (a b : Bool) → (a || b) ≡ false → a ≡ false
or_false_left true b e = cc
or_false_left false b e = refl

or_false_right : (a b : Bool) → (a || b) ≡ false → b ≡ false
or_false_right true b e = cc
or_false_right false b e = e

or_true : (a : Bool) → (a || true) ≡ true
or_true true = refl
or_true false = refl

module _ {A : Type 0} where
  pub past_end : (xs : List A) (i : ℕ) → slice_get xs i ≡ None → length xs ≤ i
  past_end [] i e = omega arith
  past_end (x ∷ xs) zero e = absurd (cc)
  past_end (x ∷ xs) (suc i) e = let h : length xs ≤ i = past_end xs i e in omega arith

module _ {A : Type 0} (p : A → Bool) where
  -- an item passes
  pub any_at : (xs : List A) (i : ℕ) (x : A) → slice_get xs i ≡ Some x → p x ≡ true → list_any p xs ≡ true
  any_at [] i x e h = absurd (cc)
  any_at (y ∷ ys) zero x e h = let s : y ≡ x = cc in ap (λ z. p z || list_any p ys) s ∙ ap (λ b. b || list_any p ys) h
  any_at (y ∷ ys) (suc i) x e h = ap (λ b. p y || b) (any_at ys i x e h) ∙ or_true (p y)

  none_suc : (xs : List A) (i : ℕ) (x : A) → list_any p (take i xs) ≡ false → slice_get xs i ≡ Some x → p x ≡ false → list_any p (take (suc i) xs) ≡ false
  none_suc [] i x none e h = absurd (cc)
  none_suc (y ∷ ys) zero x none e h = let s : y ≡ x = cc in ap (λ z. p z || false) s ∙ ap (λ b. b || false) h
  none_suc (y ∷ ys) (suc i) x none e h =
      ap (λ b. b || list_any p (take (suc i) ys)) (or_false_left (p y) (list_any p (take i ys)) none)
      ∙ none_suc ys i x (or_false_right (p y) (list_any p (take i ys)) none) e h

  -- none has passed so far, and the next one doesn't
  pub none_more : (xs : List A) (i : ℕ) (x : A) → list_any p (take i xs) ≡ false → slice_get xs i ≡ Some x → p x ≡ false → list_any p (take (i + 1) xs) ≡ false
  none_more xs i x none e h =
      let next : i + 1 ≡ suc i = omega arith in
      ap (λ k. list_any p (take k xs)) next ∙ none_suc xs i x none e h

-- what is found in a list that is seen otherwise
module _ {A B : Type 0} (g : A → B) (p : A → Bool) (q : B → Bool) (same : (x : A) → q (g x) ≡ p x) where
  pub find_mapped : (xs : List A) → find q (map g xs) ≡ option_map g (find p xs)
  find_mapped [] = refl
  find_mapped (x ∷ xs) = ap (λ b. cond b (Some (g x)) (find q (map g xs))) (same x) ∙ go (p x) (find_mapped xs)
    where
      go : (b : Bool) → find q (map g xs) ≡ option_map g (find p xs) → cond b (Some (g x)) (find q (map g xs)) ≡ option_map g (cond b (Some x) (find p xs))
      go true e = refl
      go false e = e

-- ---- records in rising order of their numbers
module _ {A : Type 0} (key : A → ℕ) where
  -- a number above another one isn't it
  apart : (n : ℕ) (x : A) → nat_lt n (key x) ≡ true → (n == key x) ≡ false
  apart n x e = let lt : n < key x = ltb-true n (key x) e in ne_eqb n (key x) (λ g. absurd (omega arith))

  higher : (n m : ℕ) (xs : List A) → nat_lt n m ≡ true → all_above m (map key xs) ≡ true → all_above n (map key xs) ≡ true
  higher n m [] e above = refl
  higher n m (x ∷ xs) e above =
      let a : n < m = ltb-true n m e in
      let b : m < key x = ltb-true m (key x) (and_left (nat_lt m (key x)) (all_above (key x) (map key xs)) above) in
      let c : nat_lt n (key x) ≡ true = lt-ltb n (key x) (omega arith) in
      ap (λ b. b && all_above (key x) (map key xs)) c ∙ and_right (nat_lt m (key x)) (all_above (key x) (map key xs)) above

  pub found_behind : (y : A) (ys : List A) (i : ℕ) (x : A) → all_above (key y) (map key ys) ≡ true → slice_get ys i ≡ Some x
      → nat_lt (key y) (key x) ≡ true
  found_behind y [] i x above e = absurd (cc)
  found_behind y (z ∷ zs) zero x above e = let s : z ≡ x = cc in ap (λ w. nat_lt (key y) (key w)) (sym s) ∙ and_left (nat_lt (key y) (key z)) (all_above (key z) (map key zs)) above
  found_behind y (z ∷ zs) (suc i) x above e =
      found_behind y zs i x (higher (key y) (key z) zs (and_left (nat_lt (key y) (key z)) (all_above (key z) (map key zs)) above) (and_right (nat_lt (key y) (key z)) (all_above (key z) (map key zs)) above)) e

  pub rising_behind : (y : A) (ys : List A) → all_above (key y) (map key ys) ≡ true → all_rising (map key ys) ≡ true
  rising_behind y [] above = refl
  rising_behind y (z ∷ zs) above = and_right (nat_lt (key y) (key z)) (all_above (key z) (map key zs)) above

  -- each item is the one that its number finds
  pub finds_itself : (xs : List A) (i : ℕ) (x : A) → all_rising (map key xs) ≡ true → slice_get xs i ≡ Some x
      → find (λ (y : A). key y == key x) xs ≡ Some x
  finds_itself [] i x rising e = absurd (cc)
  finds_itself (y ∷ ys) zero x rising e =
      let s : y ≡ x = cc in
      ap (λ b. cond b (Some y) (find (λ (z : A). key z == key x) ys)) (eq-eqb (key y) (key x) (ap key s)) ∙ ap Some s
  finds_itself (y ∷ ys) (suc i) x rising e =
      ap (λ b. cond b (Some y) (find (λ (z : A). key z == key x) ys)) (apart (key y) x (found_behind y ys i x rising e))
      ∙ finds_itself ys i x (rising_behind y ys rising) e

  -- the item at a place, by its number
  pub record Located (xs : List A) (i n : ℕ) : Type 0 where
    pub item : A
    pub at : slice_get xs i ≡ Some item
    pub found : find (λ (y : A). key y == n) xs ≡ Some item

  pub located : (xs : List A) (i n : ℕ) → all_rising (map key xs) ≡ true → Some n ≡ option_map key (slice_get xs i) → Located xs i n
  located xs i n rising e = go (slice_get xs i) refl e
    where
      go : (o : Option A) → slice_get xs i ≡ o → Some n ≡ option_map key o → Located xs i n
      go None at e = absurd (cc)
      go (Some x) at e =
          let number : n ≡ key x = cc in
          record { item = x; at = at; found = ap (λ m. find (λ (y : A). key y == m) xs) number ∙ finds_itself xs i x rising at }

  pub none_located : (xs : List A) (i : ℕ) → None ≡ option_map key (slice_get xs i) → length xs ≤ i
  none_located xs i e = past_end xs i (go (slice_get xs i) e)
    where
      go : (o : Option A) → None ≡ option_map key o → o ≡ None
      go None e = refl
      go (Some x) e = absurd (cc)
