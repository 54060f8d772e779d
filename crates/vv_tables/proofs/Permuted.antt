-- Lists with the same items in another order: one more item, one less, and lists of numbers that count alike.
use Rattle.std.proofs.Common.{ℕ, ◌≡◌, ◌+◌, ◌≤◌, ◌==◌, Bool, true, false, cond, List, [], ◌∷◌, ◌++◌, Some, refl, sym, ap, subst, ◌∙◌, arith}
use Rattle.std.specs.List.{find}
use Rattle.std.specs.List.Sorted.{IsPermutation}
use Rattle.std.proofs.lemmas.Bool.{eq-eqb, eqb-true}
use Rattle.std.proofs.lemmas.List.Sums.{sum_by-cons}
use Rattle.std.proofs.lemmas.List.Sorted.{IsPermutation-refl, IsPermutation-sym, IsPermutation-trans, IsPermutation-cons, IsPermutation-middle, sum_by-IsPermutation}
use Rattle.vv_flat.specs.Lists.{put_before, first_removed}
use Rattle.vv_flat.proofs.Sums.{sum-removed_found}
use Rattle.vv_vols.proofs.FoundSplit.{Split, found_split}
use Rattle.vv_tables.proofs.Drops.{times}

module _ {A : Type 0} (p : A → Bool) where
  -- one more item, wherever it is put
  pub put_permutes : (x : A) (xs : List A) → IsPermutation (x ∷ xs) (put_before p x xs)
  put_permutes x [] = IsPermutation-refl (x ∷ [])
  put_permutes x (y ∷ ys) = go (p y) (put_permutes x ys)
    where
      go : (b : Bool) → IsPermutation (x ∷ ys) (put_before p x ys) → IsPermutation (x ∷ y ∷ ys) (cond b (x ∷ y ∷ ys) (y ∷ put_before p x ys))
      go true rest = IsPermutation-refl (x ∷ y ∷ ys)
      go false rest =
          IsPermutation-trans (x ∷ y ∷ ys) (y ∷ x ∷ ys) (y ∷ put_before p x ys)
          (IsPermutation-sym (y ∷ x ∷ ys) (x ∷ y ∷ ys) (IsPermutation-middle (y ∷ []) x ys))
          (IsPermutation-cons y (x ∷ ys) (put_before p x ys) rest)

  -- the item that is found, and the others
  pub removed_permutes : (xs : List A) (x : A) → find p xs ≡ Some x → IsPermutation xs (x ∷ first_removed p xs)
  removed_permutes xs x found =
      let s : Split p xs x = found_split p xs x found in
      subst (λ ys. IsPermutation xs (x ∷ ys)) (sym s.removed)
      (subst (λ ys. IsPermutation ys (x ∷ (s.front ++ s.back))) (sym s.whole) (IsPermutation-middle s.front x s.back))

-- ---- numbers
times-cons : (n m : ℕ) (ms : List ℕ) → times n (m ∷ ms) ≡ cond (m == n) 1 0 + times n ms
times-cons n m ms = sum_by-cons (λ k. cond (k == n) 1 0) m ms

times-first : (n : ℕ) (ns : List ℕ) → times n (n ∷ ns) ≡ 1 + times n ns
times-first n ns = times-cons n n ns ∙ ap (λ b. cond b 1 0 + times n ns) (eq-eqb n n refl)

-- a number that comes is found
number_found : (n : ℕ) (ns : List ℕ) → 1 ≤ times n ns → find (λ m. m == n) ns ≡ Some n
number_found n [] some = absurd (omega arith)
number_found n (m ∷ ms) some = go (m == n) refl (subst (λ k. 1 ≤ k) (times-cons n m ms) some) (number_found n ms)
  where
    go : (b : Bool) → (m == n) ≡ b → 1 ≤ cond b 1 0 + times n ms → (1 ≤ times n ms → find (λ m. m == n) ms ≡ Some n)
        → cond b (Some m) (find (λ m. m == n) ms) ≡ Some n
    go true is some later = ap Some (eqb-true m n is)
    go false is some later = later (omega arith)

none_come : (ns : List ℕ) → ((n : ℕ) → times n ns ≡ 0) → ns ≡ []
none_come [] none = refl
none_come (m ∷ ms) none = let a : times m (m ∷ ms) ≡ 1 + times m ms = times-first m ms in let b : times m (m ∷ ms) ≡ 0 = none m in absurd (omega arith)

-- numbers that come equally often
pub counts_permute : (ms ns : List ℕ) → ((n : ℕ) → times n ms ≡ times n ns) → IsPermutation ms ns
counts_permute [] ns same = subst (λ ks. IsPermutation [] ks) (sym (none_come ns (λ n. sym (same n)))) (IsPermutation-refl [])
counts_permute (m ∷ ms) ns same =
    let here : times m (m ∷ ms) ≡ times m ns = same m in
    let one : times m (m ∷ ms) ≡ 1 + times m ms = times-first m ms in
    let found : find (λ k. k == m) ns ≡ Some m = number_found m ns (omega (arith, here, one)) in
    let left : List ℕ = first_removed (λ k. k == m) ns in
    let rest : IsPermutation ms left = counts_permute ms left (λ n.
    let a : times n (m ∷ ms) ≡ cond (m == n) 1 0 + times n ms = times-cons n m ms in
    let b : times n (m ∷ ms) ≡ times n ns = same n in
    let c : times n left + cond (m == n) 1 0 ≡ times n ns = sum-removed_found (λ k. cond (k == n) 1 0) (λ k. k == m) m ns found in
    omega (arith, a, b, c)) in
    IsPermutation-trans (m ∷ ms) (m ∷ left) ns (IsPermutation-cons m ms left rest)
    (IsPermutation-sym ns (m ∷ left) (removed_permutes (λ k. k == m) ns m found))

pub permuted_counts : (ms ns : List ℕ) → IsPermutation ms ns → (n : ℕ) → times n ms ≡ times n ns
permuted_counts ms ns same n = sym (sum_by-IsPermutation (λ k. cond (k == n) 1 0) ms ns same)

-- a number less on both sides
pub without_first : (n : ℕ) (ms ns : List ℕ) → IsPermutation (n ∷ ms) (n ∷ ns) → IsPermutation ms ns
without_first n ms ns same = counts_permute ms ns (λ m.
    let a : times m (n ∷ ms) ≡ cond (n == m) 1 0 + times m ms = times-cons m n ms in
    let b : times m (n ∷ ns) ≡ cond (n == m) 1 0 + times m ns = times-cons m n ns in
    let c : times m (n ∷ ms) ≡ times m (n ∷ ns) = permuted_counts (n ∷ ms) (n ∷ ns) same m in
    omega (arith, a, b, c))
