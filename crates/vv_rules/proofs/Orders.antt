-- The orders of pairs and of rows, and what sorting by them tells.
use Rattle.std.proofs.Common.{Ordering, ◌≡◌, ℕ, ◌&&◌, Bool, true, false, eqb, List, refl, sym}
use Rattle.std.specs.Cmp.{IsTotalOrder}
use Rattle.std.specs.List.Sorted.{IsSorted}
use Rattle.std.specs.Ordering.{nat_cmp, is_lt, ordering_then, ordering_reverse}
use Rattle.std.specs.declared.cmp.Ordering.TheVariants.{Less, Equal, Greater}
use Rattle.std.proofs.lemmas.Bool.{and_from, eq-eqb}
use Rattle.std.proofs.lemmas.Cmp.{nat_cmp_total, on_total, then_total, ranked}
use Rattle.std.proofs.lemmas.List.Sorted.{sorted_far, ranks_by}
use Rattle.vv_rules.specs.declared.pairs.Pair.{Pair}
use Rattle.vv_rules.proofs.Had.{Up, up_from}

-- a list that is sorted by an order rises by it
pub sorted_up : {A : Type 0} (R : A → A → Ordering) → IsTotalOrder R → (xs : List A) → IsSorted R xs → Up (λ a b. is_lt (R b a) ≡ false) xs
sorted_up R o xs s = up_from (λ a b. is_lt (R b a) ≡ false) xs (λ i j d le lt. sorted_far (λ x y. is_lt (R x y)) (ranks_by o (λ x. x)) xs s i j d le lt)

pub cmp_equal : (x y : ℕ) → nat_cmp x y ≡ Equal → x ≡ y
cmp_equal x y e = ranked x y Equal (sym e)

pub both_equal : (o p : Ordering) → is_lt (ordering_then o p) ≡ false → is_lt (ordering_then (ordering_reverse o) (ordering_reverse p)) ≡ false → (o ≡ Equal) × (p ≡ Equal)
both_equal Less p h k = absurd cc
both_equal Equal Less h k = absurd cc
both_equal Equal Equal h k = (refl, refl)
both_equal Equal Greater h k = absurd cc
both_equal Greater p h k = absurd cc

abbrev pub pair_cmp : Pair → Pair → Ordering
pair_cmp x y = ordering_then (nat_cmp x.first y.first) (nat_cmp x.second y.second)

pub pairs_ordered : IsTotalOrder pair_cmp
pairs_ordered = then_total (on_total (λ (p : Pair). p.first) nat_cmp_total) (on_total (λ (p : Pair). p.second) nat_cmp_total)

abbrev pub pair_eq : Pair → Pair → Bool
pair_eq x y = eqb x.first y.first && eqb x.second y.second

pub pairs_tied : (x y : Pair) → is_lt (pair_cmp y x) ≡ false → is_lt (pair_cmp x y) ≡ false → pair_eq x y ≡ true
pairs_tied x y h k =
    let i = nat_cmp_total.antisymm y.first x.first in
    let s = nat_cmp_total.antisymm y.second x.second in
    let turned : is_lt (ordering_then (ordering_reverse (nat_cmp x.first y.first)) (ordering_reverse (nat_cmp x.second y.second))) ≡ false = rw (← i, ← s) h in
    let both = both_equal (nat_cmp x.first y.first) (nat_cmp x.second y.second) k turned in
    and_from _ _ (eq-eqb x.first y.first (cmp_equal x.first y.first both.0)) (eq-eqb x.second y.second (cmp_equal x.second y.second both.1))
