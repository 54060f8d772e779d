-- Numbers that don't fall are searched by halves, and those that come twice are neighbours.
use Rattle.std.proofs.Common.{◌≡◌, ℕ, suc, ◌<◌, ◌≤◌, ◌&&◌, ◌||◌, ⊎_elim, Bool, true, false, eqb, ltb, not, List, [], ◌∷◌, Result, Ok, Err, is_ok, refl, sym, ap, subst, ◌∙◌, arith, length, get_or}
use Rattle.std.specs.List.{list_any}
use Rattle.std.specs.List.Sorted.{IsNonDecreasing, IsBinarySearchResult}
use Rattle.std.specs.Ordering.{nat_cmp}
use Rattle.std.specs.Result.{MatchResult}
use Rattle.std.proofs.lemmas.Bool.{eq-eqb, ne_eqb, ltb-true, ltb-false, cases_lt, or_from}
use Rattle.std.proofs.lemmas.List.Folds.{list_any_at}
use Rattle.std.proofs.lemmas.List.Sorted.{searched}
use Rattle.vv_flat.specs.Lists.{all_different, all_rising}

none_has : (x : ℕ) (xs : List ℕ) → ((k : ℕ) → k < length xs → get_or xs k 0 ≡ x → ⊥) → list_any (λ n. eqb n x) xs ≡ false
none_has x [] h = refl
none_has x (y ∷ ys) h =
    or_from _ _ (ne_eqb y x (λ e. h 0 (omega arith) e)) (none_has x ys (λ k lt e. h (suc k) (omega arith) e))

answered : (xs : List ℕ) (x : ℕ) (r : Result ℕ ℕ)
    → MatchResult r (λ i. (i < length xs) × (get_or xs i 0 ≡ x)) (λ i. (i ≤ length xs) × ((k : ℕ) → k < i → get_or xs k 0 < x) × ((k : ℕ) → i ≤ k → k < length xs → x < get_or xs k 0))
    → list_any (λ n. eqb n x) xs ≡ is_ok r
answered xs x (Ok i) m = list_any_at (λ n. eqb n x) xs i 0 m.0 (eq-eqb (get_or xs i 0) x m.1)
answered xs x (Err i) m = none_has x xs (λ k lt e. ⊎_elim (λ below. let l = m.1 k below in omega arith) (λ above. let l = m.2 k above lt in omega arith) (cases_lt k i))

-- what a search by halves tells
pub search_tells : (xs : List ℕ) (x : ℕ) (r : Result ℕ ℕ) → IsNonDecreasing xs → IsBinarySearchResult (λ y. nat_cmp y x) xs r → list_any (λ n. eqb n x) xs ≡ is_ok r
search_tells xs x r up found = answered xs x r (searched xs x r found (λ i j le lt. up i j 0 le lt))

-- the same of a list that is lent
pub search_of : (xs ys : List ℕ) (x : ℕ) (r : Result ℕ ℕ) → ys ≡ xs → IsNonDecreasing xs → IsBinarySearchResult (λ y. nat_cmp y x) ys r → list_any (λ n. eqb n x) ys ≡ is_ok r
search_of xs ys x r same up found = search_tells ys x r (subst IsNonDecreasing (sym same) up) found

-- ---- numbers that are different rise

differ_step : (x y : ℕ) (ys : List ℕ) (b : Bool) → ltb x y ≡ b → x ≤ y → ((k : ℕ) → k < length ys → y ≤ get_or ys k 0) → not (list_any (λ m. eqb m x) (y ∷ ys)) ≡ b
differ_step x y ys true e le up =
    let lt : x < y = ltb-true x y e in
    ap not (or_from _ _ (ne_eqb y x (λ k. omega arith)) (none_has x ys (λ k h same. let l = up k h in omega arith)))
differ_step x y ys false e le up = let least : y ≤ x = ltb-false x y e in
    let same : y ≡ x = omega arith in ap (λ b. not (b || list_any (λ m. eqb m x) ys)) (eq-eqb y x same)

pub different_rise : (xs : List ℕ) → IsNonDecreasing xs → all_different xs ≡ all_rising xs
different_rise [] up = refl
different_rise (x ∷ []) up = refl
different_rise (x ∷ y ∷ ys) up =
    ap (λ b. b && all_different (y ∷ ys)) (differ_step x y ys (ltb x y) refl (up 0 1 0 (omega arith) (omega arith)) (λ k h. up 1 (suc (suc k)) 0 (omega arith) (omega arith)))
    ∙ ap (λ b. ltb x y && b) (different_rise (y ∷ ys) (λ i j d le lt. up (suc i) (suc j) d (omega arith) (omega arith)))
