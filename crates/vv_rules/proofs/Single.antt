-- Items of which none comes twice are as many as there are different ones, so their order doesn't matter.
use Rattle.std.proofs.Common.{◌≡◌, ℕ, suc, ◌≤◌, ◌&&◌, Bool, true, false, eqb, not, List, [], ◌∷◌, length, refl, sym, ap, ◌∙◌, arith}
use Rattle.std.specs.List.{list_any}
use Rattle.std.specs.List.Sorted.{IsPermutation}
use Rattle.std.proofs.lemmas.Bool.{eqb-true, eq-eqb, ne_eqb}
use Rattle.std.proofs.lemmas.List.Sorted.{length_permutation}
use Rattle.vv_flat.specs.Lists.{all_different}
use Rattle.vv_rules.specs.declared.pairs.Pair.{Pair}
use Rattle.vv_rules.specs.Pairs.{is_pair, are_single}
use Rattle.vv_rules.proofs.Counts.{more, count, Tells, count_permuted}

-- whether none is the same as a later one
abbrev pub differ : {A : Type 0} → (A → A → Bool) → List A → Bool
differ same [] = true
differ same (x ∷ xs) = not (list_any (same x) xs) && differ same xs

count_within : {A : Type 0} (same : A → A → Bool) (xs : List A) → count same xs ≤ length xs
count_within same [] = omega arith
count_within same (x ∷ xs) = step (list_any (same x) xs) (count_within same xs)
  where
    step : (b : Bool) → count same xs ≤ length xs → more b (count same xs) ≤ suc (length xs)
    step true h = omega arith
    step false h = omega arith

counted_step : (b : Bool) (n m : ℕ) → n ≤ m → (not b && eqb n m) ≡ eqb (more b n) (suc m)
counted_step true n m h = sym (ne_eqb n (suc m) (λ e. omega arith))
counted_step false n m h = grind arith

pub differ_counted : {A : Type 0} (same : A → A → Bool) (xs : List A) → differ same xs ≡ eqb (count same xs) (length xs)
differ_counted same [] = refl
differ_counted same (x ∷ xs) =
    ap (λ b. not (list_any (same x) xs) && b) (differ_counted same xs) ∙ counted_step (list_any (same x) xs) (count same xs) (length xs) (count_within same xs)

pub differ_permuted : {A : Type 0} (same : A → A → Bool) → Tells same → (xs ys : List A) → IsPermutation xs ys → differ same ys ≡ differ same xs
differ_permuted same t xs ys p =
    differ_counted same ys
    ∙ ap (λ n. eqb n (length ys)) (count_permuted same t xs ys p)
    ∙ ap (λ n. eqb (count same xs) n) (length_permutation xs ys p)
    ∙ sym (differ_counted same xs)

-- ---- numbers

abbrev is_number : ℕ → ℕ → Bool
is_number n m = eqb m n

numbers_tell : Tells is_number
numbers_tell = record { is = λ x y e. sym (eqb-true y x e); itself = λ x. eq-eqb x x refl }

different_differ : (xs : List ℕ) → all_different xs ≡ differ is_number xs
different_differ [] = refl
different_differ (x ∷ xs) = ap (λ b. not (list_any (is_number x) xs) && b) (different_differ xs)

-- numbers are different in any order
pub different_permuted : (xs ys : List ℕ) → IsPermutation xs ys → all_different ys ≡ all_different xs
different_permuted xs ys p = different_differ ys ∙ differ_permuted is_number numbers_tell xs ys p ∙ sym (different_differ xs)

-- ---- pairs

single_differ : (xs : List Pair) → are_single xs ≡ differ is_pair xs
single_differ [] = refl
single_differ (x ∷ xs) = ap (λ b. not (list_any (is_pair x) xs) && b) (single_differ xs)

pub single_counted : (xs : List Pair) → are_single xs ≡ eqb (count is_pair xs) (length xs)
single_counted xs = single_differ xs ∙ differ_counted is_pair xs
