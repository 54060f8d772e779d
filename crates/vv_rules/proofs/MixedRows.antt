-- The least place of the rows that don't agree with all is told by neighbours of the sorted rows.
use Rattle.std.proofs.Common.{◌≡◌, ℕ, ◌≤◌, ◌&&◌, ◌⊎◌, inl, inr, Bool, true, false, cond, eqb, ltb, not, List, [], ◌∷◌, Option, Some, refl, sym, ap, subst, ◌∙◌, ⊎_elim, Ordering}
use Rattle.std.specs.Cmp.{IsTotalOrder}
use Rattle.std.specs.List.{list_all}
use Rattle.std.specs.List.Sorted.{IsSorted, IsPermutation, IsNonDecreasingBy}
use Rattle.std.specs.Ordering.{nat_cmp, is_lt, is_gt, ordering_then, ordering_reverse}
use Rattle.std.specs.declared.cmp.Ordering.TheVariants.{Less, Equal, Greater}
use Rattle.std.proofs.lemmas.Bool.{and_parts, and_from, eqb-true, eq-eqb, ltb-false, not-true}
use Rattle.std.proofs.lemmas.Cmp.{nat_cmp_total, on_total, then_total, upto, tied_itself}
use Rattle.vv_rules.specs.declared.rows.Row.{Row}
use Rattle.vv_rules.specs.Least.{sooner}
use Rattle.vv_rules.specs.Rows.{same_key, is_mixed_place, is_mixed_key, least_wrong, rows_agree, least_mixed}
use Rattle.vv_rules.proofs.Had.{Has, Up, up_from, has_permuted, has_back}
use Rattle.vv_rules.proofs.Orders.{sorted_up, both_equal, cmp_equal}
use Rattle.vv_rules.proofs.SortedRows.{AtMost, at_most_left, at_most_right, either_of, RisesByPlace, RisesByKey, OrdersKeys, place_found, key_found, Wrong, wrong_is_there}
use Rattle.vv_rules.proofs.LeastOf.{fails_at, fails_all, failing_at, failing_is, same_least}

-- ---- the order of rows

abbrev pub row_cmp : Row → Row → Ordering
row_cmp x y = ordering_then (nat_cmp x.index y.index) (ordering_then (nat_cmp x.stamp y.stamp) (nat_cmp x.place y.place))

abbrev key_cmp : Row → Row → Ordering
key_cmp x y = ordering_then (nat_cmp x.index y.index) (nat_cmp x.stamp y.stamp)

rows_ordered : IsTotalOrder row_cmp
rows_ordered = then_total (on_total (λ (p : Row). p.index) nat_cmp_total) (then_total (on_total (λ (p : Row). p.stamp) nat_cmp_total) (on_total (λ (p : Row). p.place) nat_cmp_total))

keys_ordered : IsTotalOrder key_cmp
keys_ordered = then_total (on_total (λ (p : Row). p.index) nat_cmp_total) (on_total (λ (p : Row). p.stamp) nat_cmp_total)

-- a key is above another
abbrev above : Row → Row → Bool
above x y = is_lt (key_cmp y x)

key_tied : (x y : Row) → above x y ≡ false → above y x ≡ false → same_key x y ≡ true
key_tied x y h k =
    let i = nat_cmp_total.antisymm y.index x.index in
    let s = nat_cmp_total.antisymm y.stamp x.stamp in
    let turned : is_lt (ordering_then (ordering_reverse (nat_cmp x.index y.index)) (ordering_reverse (nat_cmp x.stamp y.stamp))) ≡ false = rw (← i, ← s) h in
    let both = both_equal (nat_cmp x.index y.index) (nat_cmp x.stamp y.stamp) k turned in
    and_from _ _ (eq-eqb x.index y.index (cmp_equal x.index y.index both.0)) (eq-eqb x.stamp y.stamp (cmp_equal x.stamp y.stamp both.1))

-- where the first part is the same, the other decides
not_less : (o p : Ordering) → is_lt (ordering_then o p) ≡ false → is_lt o ≡ false
not_less Less p h = absurd cc
not_less Equal p h = refl
not_less Greater p h = refl

both_less : (o p q : Ordering) → is_lt (ordering_then o (ordering_then p q)) ≡ false → is_lt (ordering_then o p) ≡ false
both_less Less p q h = absurd cc
both_less Equal p q h = not_less p q h
both_less Greater p q h = refl

last_less : (o p q : Ordering) → o ≡ Equal → p ≡ Equal → is_lt (ordering_then o (ordering_then p q)) ≡ false → is_lt q ≡ false
last_less o p q e f h = rw (e, f) at h

less_or_not : (x y : ℕ) (b : Bool) → ltb x y ≡ b → is_lt (cond b Less (cond (eqb x y) Equal Greater)) ≡ false → y ≤ x
less_or_not x y true e h = absurd cc
less_or_not x y false e h = ltb-false x y e

not_less_le : (x y : ℕ) → is_lt (nat_cmp x y) ≡ false → y ≤ x
not_less_le x y h = less_or_not x y (ltb x y) refl h

gt_of_lt : (o : Ordering) → is_gt (ordering_reverse o) ≡ is_lt o
gt_of_lt Less = refl
gt_of_lt Equal = refl
gt_of_lt Greater = refl

turned_gt : (x y : Row) → is_gt (key_cmp x y) ≡ above x y
turned_gt x y = ap is_gt (keys_ordered.antisymm x y) ∙ gt_of_lt (key_cmp y x)

key_order : OrdersKeys above
key_order = record {
  tied = key_tied;
  through = λ x y z h k. sym (turned_gt x z) ∙ upto keys_ordered x y z (turned_gt x y ∙ h) (turned_gt y z ∙ k);
  of_key = λ x y e.
      let both = and_parts (eqb x.index y.index) (eqb x.stamp y.stamp) e in
      let i = eqb-true x.index y.index both.0 in
      let s = eqb-true x.stamp y.stamp both.1 in
      ap (λ n. is_lt (ordering_then (nat_cmp n x.index) (nat_cmp y.stamp x.stamp))) (sym i)
      ∙ ap (λ n. is_lt (ordering_then (nat_cmp x.index x.index) (nat_cmp n x.stamp))) (sym s)
      ∙ ap is_lt (tied_itself keys_ordered x);
}

equal_itself : (x y : ℕ) → x ≡ y → nat_cmp y x ≡ Equal
equal_itself x y e = ap (λ n. nat_cmp n x) (sym e) ∙ tied_itself nat_cmp_total x

up_map : {A : Type 0} (R S : A → A → Type 0) → ((x y : A) → R x y → S x y) → (xs : List A) → Up R xs → Up S xs
up_map R S f [] u = tt
up_map R S f (x ∷ xs) u = (λ y h. f x y (u.0 y h), up_map R S f xs u.1)

rises_by_key : (xs : List Row) → IsSorted row_cmp xs → RisesByKey above xs
rises_by_key xs s =
    up_map (λ a b. is_lt (row_cmp b a) ≡ false) (λ a b. (above a b ≡ false) × (same_key a b ≡ true → a.place ≤ b.place))
    (λ a b h. (
      both_less (nat_cmp b.index a.index) (nat_cmp b.stamp a.stamp) (nat_cmp b.place a.place) h,
      λ e.
          let both = and_parts (eqb a.index b.index) (eqb a.stamp b.stamp) e in
          not_less_le b.place a.place
          (last_less (nat_cmp b.index a.index) (nat_cmp b.stamp a.stamp) (nat_cmp b.place a.place)
          (equal_itself a.index b.index (eqb-true a.index b.index both.0)) (equal_itself a.stamp b.stamp (eqb-true a.stamp b.stamp both.1)) h),
    ))
    xs (sorted_up row_cmp rows_ordered xs s)

rises_by_place : (xs : List Row) → IsNonDecreasingBy (λ (r : Row). r.place) xs → RisesByPlace xs
rises_by_place xs up = up_from (λ (x y : Row). x.place ≤ y.place) xs (λ i j d le lt. up i j d le lt)

-- ---- rows that don't agree are mixed

mixed_one : (x y : Bool) → cond x y (not y) ≡ false → ((x && not y) ≡ true) ⊎ ((y && not x) ≡ true)
mixed_one true true e = absurd cc
mixed_one true false e = inl refl
mixed_one false true e = inr refl
mixed_one false false e = absurd cc

one_mixed : (x y : Bool) → ((x && not y) ≡ true) ⊎ ((y && not x) ≡ true) → cond x y (not y) ≡ false
one_mixed true true (inl e) = absurd cc
one_mixed true true (inr e) = absurd cc
one_mixed true false h = refl
one_mixed false true h = refl
one_mixed false false (inl e) = absurd cc
one_mixed false false (inr e) = absurd cc

module _ (rows sorted placed : List Row) (p : IsPermutation rows sorted) (s : IsSorted row_cmp sorted) (q : IsPermutation sorted placed) (up : IsNonDecreasingBy (λ (r : Row). r.place) placed) where
  abbrev found : Option ℕ
  found = sooner (least_wrong is_mixed_place placed) (least_wrong is_mixed_key sorted)

  abbrev agrees_with_all : Row → Bool
  agrees_with_all x = list_all (rows_agree x) rows

  found_at : (x y : Row) → Has x rows → Has y rows → (is_mixed_place x y ≡ true) ⊎ (is_mixed_key x y ≡ true) → AtMost found x.place
  found_at x y h k m =
      let sx = has_permuted rows sorted x p h in
      let sy = has_permuted rows sorted y p k in
      ⊎_elim
      (λ e.
      let both = and_parts (eqb x.place y.place) (not (same_key x y)) e in
      at_most_left (least_wrong is_mixed_place placed) (least_wrong is_mixed_key sorted) x.place
      (place_found placed x y (rises_by_place placed up) (has_permuted sorted placed x q sx) (has_permuted sorted placed y q sy) (eqb-true x.place y.place both.0) (not-true _ both.1)))
      (λ e.
      let both = and_parts (same_key x y) (not (eqb x.place y.place)) e in
      at_most_right (least_wrong is_mixed_place placed) (least_wrong is_mixed_key sorted) x.place
      (key_found above key_order sorted (rises_by_key sorted s) x y sx sy both.0 (not-true _ both.1)))
      m

  least_found : (m : ℕ) → least_mixed rows ≡ Some m → AtMost found m
  least_found m e =
      let x = failing_is agrees_with_all (λ (r : Row). r.place) rows m e in
      let y = fails_at (rows_agree x.0) rows x.2 in
      subst (λ n. AtMost found n) x.3 (found_at x.0 y.0 x.1 y.1 (mixed_one (eqb x.0.place y.0.place) (same_key x.0 y.0) y.2))

  wrong_fails : (wrong : Row → Row → Bool) → ((x y : Row) → wrong x y ≡ true → (is_mixed_place x y ≡ true) ⊎ (is_mixed_key x y ≡ true))
      → (xs : List Row) → ((r : Row) → Has r xs → Has r rows) → (m : ℕ) → Wrong wrong xs m → AtMost (least_mixed rows) m
  wrong_fails wrong mixed xs to m w =
      let differ : rows_agree w.row w.other ≡ false = one_mixed (eqb w.row.place w.other.place) (same_key w.row w.other) (mixed w.row w.other w.is_wrong) in
      subst (λ n. AtMost (least_mixed rows) n) w.place_is
      (failing_at agrees_with_all (λ (r : Row). r.place) rows w.row (to w.row w.there) (fails_all (rows_agree w.row) rows w.other (to w.other w.other_there) differ))

  found_least : (m : ℕ) → found ≡ Some m → AtMost (least_mixed rows) m
  found_least m e =
      ⊎_elim
      (λ k. wrong_fails is_mixed_place (λ x y h. inl h) placed (λ r h. has_back rows sorted r p (has_back sorted placed r q h)) m (wrong_is_there is_mixed_place placed m k))
      (λ k. wrong_fails is_mixed_key (λ x y h. inr h) sorted (λ r h. has_back rows sorted r p h) m (wrong_is_there is_mixed_key sorted m k))
      (either_of (least_wrong is_mixed_place placed) (least_wrong is_mixed_key sorted) m e)

  -- what neighbours tell of sorted rows
  pub mixed_told : found ≡ least_mixed rows
  mixed_told = same_least found (least_mixed rows) found_least least_found
