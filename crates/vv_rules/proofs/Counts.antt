-- How many different items a list has: the same in any order, and in a sorted list told by neighbours.
use Rattle.std.proofs.Common.{◌≡◌, ◌≤◌, ℕ, suc, ◌||◌, inl, inr, ⊎_elim, refl, ap, sym, subst, ◌∙◌, Bool, true, false, cond, List, [], ◌∷◌, ◌++◌, length, arith}
use Rattle.std.specs.List.{list_any, dedup, dedup_from}
use Rattle.std.specs.List.Sorted.{IsPermutation}
use Rattle.std.proofs.lemmas.List.{append-nil}
use Rattle.std.proofs.lemmas.Bool.{or_cases, or_right}
use Rattle.vv_rules.proofs.Had.{Has, has_permuted, has_back, Up}

-- one more, or no more
abbrev pub more : Bool → ℕ → ℕ
more b n = cond b n (suc n)

-- each item that doesn't come again behind it is counted
abbrev pub count : {A : Type 0} → (A → A → Bool) → List A → ℕ
count same [] = 0
count same (x ∷ xs) = more (list_any (same x) xs) (count same xs)

-- a test that tells what is the same
pub record Tells {A : Type 0} (same : A → A → Bool) : Type 0 where
  pub is : (x y : A) → same x y ≡ true → x ≡ y
  pub itself : (x : A) → same x x ≡ true

more_least : (b : Bool) (n : ℕ) → n ≤ more b n
more_least true n = omega arith
more_least false n = omega arith

or_swap : (a b c : Bool) → (a || (b || c)) ≡ (b || (a || c))
or_swap true true c = refl
or_swap true false c = refl
or_swap false b c = refl

swap_more : (e e' m k : Bool) (n : ℕ) → (e ≡ true → e' ≡ true) → (e' ≡ true → e ≡ true) → (e ≡ true → m ≡ k)
    → more (e || m) (more k n) ≡ more (e' || k) (more m n)
swap_more true true m k n to from same = ap (λ b. more b n) (sym (same refl))
swap_more true false m k n to from same = let f : false ≡ true = to refl in cc
swap_more false true m k n to from same = let f : false ≡ true = from refl in cc
swap_more false false true true n to from same = refl
swap_more false false true false n to from same = refl
swap_more false false false true n to from same = refl
swap_more false false false false n to from same = refl

module _ {A : Type 0} (same : A → A → Bool) (t : Tells same) where
  turn : (x y : A) → same x y ≡ true → same y x ≡ true
  turn x y e = subst (λ z. same z x ≡ true) (t.is x y e) (t.itself x)

  pub member_put : (x y : A) (xs ys : List A) → list_any (same x) (xs ++ y ∷ ys) ≡ (same x y || list_any (same x) (xs ++ ys))
  member_put x y [] ys = refl
  member_put x y (z ∷ xs) ys = ap (λ b. same x z || b) (member_put x y xs ys) ∙ or_swap (same x z) (same x y) (list_any (same x) (xs ++ ys))

  -- an item may stand anywhere
  count_put : (y : A) (xs ys : List A) → count same (xs ++ y ∷ ys) ≡ count same (y ∷ xs ++ ys)
  count_put y [] ys = refl
  count_put y (x ∷ xs) ys =
      ap (λ b. more b (count same (xs ++ y ∷ ys))) (member_put x y xs ys)
      ∙ ap (λ n. more (same x y || list_any (same x) (xs ++ ys)) n) (count_put y xs ys)
      ∙ swap_more (same x y) (same y x) (list_any (same x) (xs ++ ys)) (list_any (same y) (xs ++ ys)) (count same (xs ++ ys))
      (turn x y) (turn y x) (λ e. ap (λ z. list_any (same z) (xs ++ ys)) (t.is x y e))

  pub has_member : (x : A) (xs : List A) → Has x xs → list_any (same x) xs ≡ true
  has_member x [] h = absurd h
  has_member x (y ∷ ys) (inl e) = let s : same x y ≡ true = subst (λ z. same x z ≡ true) (sym e) (t.itself x) in ap (λ b. b || list_any (same x) ys) s
  has_member x (y ∷ ys) (inr h) = or_right (same x y) (list_any (same x) ys) (has_member x ys h)

  pub member_has : (x : A) (xs : List A) → list_any (same x) xs ≡ true → Has x xs
  member_has x [] e = absurd cc
  member_has x (y ∷ ys) e = ⊎_elim (λ h. inl (sym (t.is x y h))) (λ h. inr (member_has x ys h)) (or_cases (same x y) (list_any (same x) ys) e)

  left_has : (x : A) (xs ys : List A) → Has x xs → Has x (xs ++ ys)
  left_has x [] ys h = absurd h
  left_has x (z ∷ xs) ys (inl e) = inl e
  left_has x (z ∷ xs) ys (inr h) = inr (left_has x xs ys h)

  -- what is there already adds nothing
  count_members : (ys xs : List A) → ((x : A) → Has x xs → Has x ys) → count same (ys ++ xs) ≡ count same ys
  count_members ys [] h = ap (count same) (append-nil ys)
  count_members ys (x ∷ xs) h =
      count_put x ys xs
      ∙ ap (λ b. more b (count same (ys ++ xs))) (has_member x (ys ++ xs) (left_has x ys xs (h x (inl refl))))
      ∙ count_members ys xs (λ y k. h y (inr k))

  count_behind : (ys xs : List A) → count same xs ≤ count same (ys ++ xs)
  count_behind [] xs = omega arith
  count_behind (y ∷ ys) xs = let a = count_behind ys xs in let b = more_least (list_any (same y) (ys ++ xs)) (count same (ys ++ xs)) in omega arith

  count_within : (xs ys : List A) → ((x : A) → Has x xs → Has x ys) → count same xs ≤ count same ys
  count_within xs ys h = let a = count_behind ys xs in let b = count_members ys xs h in omega arith

  -- the same in any order
  pub count_permuted : (xs ys : List A) → IsPermutation xs ys → count same ys ≡ count same xs
  count_permuted xs ys p =
      let a = count_within xs ys (λ x h. has_permuted xs ys x p h) in
      let b = count_within ys xs (λ x h. has_back xs ys x p h) in
      omega arith

  -- an item that comes again stands at once behind
  abbrev Together : A → List A → Type 0
  Together x [] = Unit {0}
  Together x (y ∷ ys) = (list_any (same x) ys ≡ true → same x y ≡ true) × Together y ys

  step : (x y : A) (ys : List A) (b m : Bool) → same x y ≡ b → list_any (same x) ys ≡ m → (m ≡ true → b ≡ true) → count same (y ∷ ys) ≡ length (dedup_from same y ys)
      → more (b || m) (count same (y ∷ ys)) ≡ cond b (length (dedup_from same y ys)) (suc (length (dedup_from same y ys)))
  step x y ys true m e f h rest = rest
  step x y ys false true e f h rest = let k : false ≡ true = h refl in absurd cc
  step x y ys false false e f h rest = ap (λ n. suc n) rest

  -- the first of a group is kept, and it is the same as the last
  kept : (x y : A) (ys : List A) (b : Bool) → same x y ≡ b → same y x ≡ b → length (cond b (dedup_from same x ys) (x ∷ dedup_from same y ys)) ≡ cond b (length (dedup_from same y ys)) (suc (length (dedup_from same y ys)))
  kept x y ys true e f = ap (λ z. length (dedup_from same z ys)) (t.is x y e)
  kept x y ys false e f = refl

  turned : (x y : A) (b c : Bool) → same x y ≡ b → same y x ≡ c → c ≡ b
  turned x y true true e f = refl
  turned x y true false e f = sym f ∙ turn x y e
  turned x y false true e f = sym (turn y x f) ∙ e
  turned x y false false e f = refl

  dedup_counts : (x : A) (xs : List A) → Together x xs → count same (x ∷ xs) ≡ length (dedup_from same x xs)
  dedup_counts x [] s = refl
  dedup_counts x (y ∷ ys) s =
      step x y ys (same x y) (list_any (same x) ys) refl refl s.0 (dedup_counts y ys s.1)
      ∙ sym (kept x y ys (same x y) refl (turned x y (same x y) (same y x) refl refl))
      ∙ ap (λ b. length (cond b (dedup_from same x ys) (x ∷ dedup_from same y ys))) (sym (turned x y (same x y) (same y x) refl refl))

  together : (above : A → A → Bool) → ((x y : A) → above x y ≡ false → above y x ≡ false → same x y ≡ true) → (x : A) (xs : List A) → Up (λ a b. above a b ≡ false) (x ∷ xs) → Together x xs
  together above tied x [] s = tt
  together above tied x (y ∷ ys) s = (λ m. tied x y (s.0 y (inl refl)) (s.1.0 x (member_has x ys m)), together above tied y ys s.1)

  -- a sorted list without what comes again has as many items
  pub count_sorted : (above : A → A → Bool) → ((x y : A) → above x y ≡ false → above y x ≡ false → same x y ≡ true) → (xs : List A) → Up (λ a b. above a b ≡ false) xs → count same xs ≡ length (dedup same xs)
  count_sorted above tied [] s = refl
  count_sorted above tied (x ∷ xs) s = dedup_counts x xs (together above tied x xs s)
