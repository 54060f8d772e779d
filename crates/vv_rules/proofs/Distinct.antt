-- The different pairs of a list are counted by sorting it.
use Rattle.std.proofs.Common.{◌≡◌, ℕ, ◌&&◌, ◌||◌, Bool, true, false, cond, eqb, List, [], ◌∷◌, map, length, refl, sym, ap, ◌∙◌}
use Rattle.std.specs.List.{list_any}
use Rattle.std.specs.List.Sorted.{IsSorted, IsPermutation}
use Rattle.std.specs.List.Retain.{IsFiltered, DiffersFromLast}
use Rattle.std.specs.Ordering.{is_lt}
use Rattle.std.proofs.lemmas.Bool.{and_parts, and_from, eqb-true, eq-eqb}
use Rattle.std.proofs.lemmas.List.Filters.{dedup_is}
use Rattle.vv_flat.specs.State.{Piece}
use Rattle.vv_flat.specs.Space.{distinct}
use Rattle.vv_rules.specs.declared.pairs.Pair.{Pair}
use Rattle.vv_rules.specs.Pairs.{piece_of}
use Rattle.vv_rules.proofs.Counts.{more, count, Tells, count_permuted, count_sorted}
use Rattle.vv_rules.proofs.Orders.{pair_cmp, pair_eq, pairs_ordered, pairs_tied, sorted_up}

pub pairs_tell : Tells pair_eq
pairs_tell = record {
  is = λ x y e.
      let both = and_parts (eqb x.first y.first) (eqb x.second y.second) e in
      ap (λ k. record { first = k; second = x.second }) (eqb-true x.first y.first both.0) ∙ ap (λ k. record { first = y.first; second = k }) (eqb-true x.second y.second both.1);
  itself = λ x. and_from _ _ (eq-eqb x.first x.first refl) (eq-eqb x.second x.second refl);
}

member_mapped : (x : Pair) (xs : List Pair) → list_any (λ (q : Piece ℕ). eqb x.first q.index && eqb x.second q.chunk) (map piece_of xs) ≡ list_any (pair_eq x) xs
member_mapped x [] = refl
member_mapped x (y ∷ ys) = ap (λ b. pair_eq x y || b) (member_mapped x ys)

length_cond : (b : Bool) (p : Piece ℕ) (ps : List (Piece ℕ)) → length (cond b ps (p ∷ ps)) ≡ more b (length ps)
length_cond true p ps = refl
length_cond false p ps = refl

pub distinct_is_count : (xs : List Pair) → length (distinct (map piece_of xs)) ≡ count pair_eq xs
distinct_is_count [] = refl
distinct_is_count (x ∷ xs) =
    length_cond (list_any (λ (q : Piece ℕ). eqb x.first q.index && eqb x.second q.chunk) (map piece_of xs)) (piece_of x) (distinct (map piece_of xs))
    ∙ ap (λ b. more b (length (distinct (map piece_of xs)))) (member_mapped x xs)
    ∙ ap (λ n. more (list_any (pair_eq x) xs) n) (distinct_is_count xs)

-- what is left of sorted pairs
pub distinct_counted : (xs sorted final : List Pair) → IsPermutation xs sorted → IsSorted pair_cmp sorted → IsFiltered (DiffersFromLast pair_eq) [] sorted final → length final ≡ length (distinct (map piece_of xs))
distinct_counted xs sorted final p s f =
    ap length (dedup_is pair_eq sorted final f)
    ∙ sym (count_sorted pair_eq pairs_tell (λ x y. is_lt (pair_cmp y x)) pairs_tied sorted (sorted_up pair_cmp pairs_ordered sorted s))
    ∙ count_permuted pair_eq pairs_tell xs sorted p
    ∙ sym (distinct_is_count xs)
