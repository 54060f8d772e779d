-- A count over a list, place after place, as far as it has come. For the counts over the pieces of copies.
use Rattle.std.proofs.Common.{ℕ, zero, suc, ◌≡◌, ◌+◌, ◌≤◌, Bool, true, false, cond, List, [], ◌∷◌, map, length, take, count_by, Option, Some, None, option_map, slice_get, refl, sym, ap, ◌∙◌, arith}
use Rattle.std.proofs.lemmas.List.{take_all}
use Rattle.std.proofs.lemmas.List.Sums.{sum_by-cons}
use Rattle.std.proofs.lemmas.Option.{slice_get-map}

module _ {A : Type 0} (p : A → Bool) where
  counted_suc : (xs : List A) (i : ℕ) (x : A) → slice_get xs i ≡ Some x → count_by p (take (suc i) xs) ≡ count_by p (take i xs) + cond (p x) 1 0
  counted_suc [] i x e = absurd (cc)
  counted_suc (y ∷ ys) zero x e =
      let s : y ≡ x = cc in
      sum_by-cons (λ z. cond (p z) 1 0) y [] ∙ ap (λ z. cond (p z) 1 0 + 0) s ∙ plain (cond (p x) 1 0)
    where
      plain : (n : ℕ) → n + 0 ≡ 0 + n
      plain n = omega arith
  counted_suc (y ∷ ys) (suc i) x e =
      let rest : count_by p (take (suc i) ys) ≡ count_by p (take i ys) + cond (p x) 1 0 = counted_suc ys i x e in
      sum_by-cons (λ z. cond (p z) 1 0) y (take (suc i) ys)
      ∙ ap (λ n. cond (p y) 1 0 + n) rest
      ∙ regroup (cond (p y) 1 0) (count_by p (take i ys)) (cond (p x) 1 0)
      ∙ ap (λ n. n + cond (p x) 1 0) (sym (sum_by-cons (λ z. cond (p z) 1 0) y (take i ys)))
    where
      regroup : (a b c : ℕ) → a + (b + c) ≡ a + b + c
      regroup a b c = omega arith

  -- one more that passes, and one that doesn't
  pub counted_more : (xs : List A) (i : ℕ) (x : A) → slice_get xs i ≡ Some x → p x ≡ true → count_by p (take (i + 1) xs) ≡ count_by p (take i xs) + 1
  counted_more xs i x e is =
      ap (λ k. count_by p (take k xs)) (next i) ∙ counted_suc xs i x e ∙ ap (λ b. count_by p (take i xs) + cond b 1 0) is
    where
      next : (i : ℕ) → i + 1 ≡ suc i
      next i = omega arith

  pub counted_same : (xs : List A) (i : ℕ) (x : A) → slice_get xs i ≡ Some x → p x ≡ false → count_by p (take (i + 1) xs) ≡ count_by p (take i xs)
  counted_same xs i x e is =
      ap (λ k. count_by p (take k xs)) (next i) ∙ counted_suc xs i x e ∙ ap (λ b. count_by p (take i xs) + cond b 1 0) is ∙ plain (count_by p (take i xs))
    where
      next : (i : ℕ) → i + 1 ≡ suc i
      next i = omega arith

      plain : (n : ℕ) → n + 0 ≡ n
      plain n = omega arith

  pub counted_all : (xs : List A) (i : ℕ) → length xs ≤ i → count_by p (take i xs) ≡ count_by p xs
  counted_all xs i past = ap (count_by p) (take_all i xs past)

-- .. over mapped items, where a test of the one at a place was told
pub test_at : {A B : Type 0} (f : A → B) (p : B → Bool) (xs : List A) (i : ℕ) (b : Bool) → option_map (λ x. p (f x)) (slice_get xs i) ≡ Some b
    → (y : B) × ((slice_get (map f xs) i ≡ Some y) × (p y ≡ b))
test_at {A} {B} f p xs i b e = go (slice_get xs i) refl e
  where
    go : (o : Option A) → slice_get xs i ≡ o → option_map (λ x. p (f x)) o ≡ Some b → (y : B) × ((slice_get (map f xs) i ≡ Some y) × (p y ≡ b))
    go None at e = absurd (cc)
    go (Some x) at e = (f x, (slice_get-map f xs i ∙ ap (option_map f) at, cc))
