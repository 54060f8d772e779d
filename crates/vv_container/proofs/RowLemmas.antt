-- The rows of a table of containers, looked up and edited.
use Rattle.std.proofs.Common.{◌≡◌, ℕ, ◌+◌, ◌<◌, ◌≤◌, ◌&&◌, not, refl, ap, sym, ◌∙◌, Bool, true, List, [], ◌∷◌, ◌++◌, length, length-append, arith}
use Rattle.std.specs.Prelude.{Option, Some, option_map, nat_lt}
use Rattle.std.specs.List.{position, list_all}
use Rattle.std.proofs.lemmas.Bool.{eqb-true}
use Rattle.std.proofs.lemmas.Bool.Decides.{nat_tests}
use Rattle.std.proofs.lemmas.List.Folds.{list_all-append}
use Rattle.vv_flat.specs.Lists.{put_before, all_rising}
use Rattle.vv_flat.proofs.Shares.{and_both, list_all-follows}
use Rattle.vv_flat.proofs.Steps.{find-passes}
use Rattle.vv_flat.proofs.Known.{all-changed}
use Rattle.vv_container.specs.declared.container.Container.{Container as GivenContainer}
use Rattle.vv_container.specs.Table.{ChargedContainer, numbered, is_numbered, is_above_all, row_of, container_of, with_charge, has_forms, IsKept}
use Rattle.vv_flat.proofs.RisingRows.{rising-push, keys-changed, length-changed, put-last}

pub place_in : {A : Type 0} (p : A → Bool) (xs lent : List A) (r : Option ℕ) → lent ≡ xs → r ≡ position p lent → position p xs ≡ r
place_in p xs lent r e h = ap (λ ys. position p ys) (sym e) ∙ sym h

-- the container of a row that is found
pub container_is : (rows : List ChargedContainer) (n : ℕ) (row : ChargedContainer) (k : GivenContainer) → row_of rows n ≡ Some row
    → numbered row.container.number k ≡ row.container → Some (numbered n k) ≡ container_of rows n
container_is rows n row k found is =
    let same : row.container.number ≡ n = eqb-true row.container.number n (find-passes (is_numbered n) rows row found) in
    ap (λ m. Some (numbered m k)) (sym same) ∙ ap (λ c. Some c) is ∙ sym (ap (λ o. option_map (λ (r : ChargedContainer). r.container) o) found)

pub kept-push : (rows next : List ChargedContainer) (room more : ℕ) (row : ChargedContainer) → IsKept rows room → length rows < 32
    → is_above_all row.container.number rows ≡ true → has_forms row ≡ true → next ≡ rows ++ row ∷ [] → room ≤ more → IsKept next more
kept-push rows next room more row kept few above forms is larger = record {
  few = rw is (let l = length-append rows (row ∷ []) in omega arith);
  fits = let f = kept.fits in omega arith;
  rise = rw is (rising-push (λ (r : ChargedContainer). r.container.number) row rows above kept.rise);
  forms = rw is (list_all-append has_forms rows (row ∷ []) ∙ and_both (list_all has_forms rows) (has_forms row && true) kept.forms (and_both (has_forms row) true forms refl));
}

pub kept-charged : (rows next : List ChargedContainer) (room more n charge : ℕ) → IsKept rows room
    → next ≡ with_charge rows n charge → more ≡ room → IsKept next more
kept-charged rows next room more n charge kept is same = record {
  few = rw is (let l = length-changed (is_numbered n) (λ (r : ChargedContainer). record r { charged = charge }) rows in let f = kept.few in omega arith);
  fits = let f = kept.fits in omega arith;
  rise = rw is (ap all_rising (keys-changed (λ (r : ChargedContainer). r.container.number) (is_numbered n) (λ (r : ChargedContainer). record r { charged = charge }) (λ r e. refl) rows) ∙ kept.rise);
  forms = rw is (all-changed has_forms (is_numbered n) (λ (r : ChargedContainer). record r { charged = charge }) rows kept.forms (λ r f e. e));
}

not_below : (m n : ℕ) → nat_lt m n ≡ true → not (nat_lt n m) ≡ true
not_below m n h = grind (arith, nat_tests)

-- a row above all others, put in order, is the last
pub put_above : (rows : List ChargedContainer) (row : ChargedContainer) → is_above_all row.container.number rows ≡ true
    → put_before (λ (r : ChargedContainer). nat_lt row.container.number r.container.number) row rows ≡ rows ++ row ∷ []
put_above rows row above =
    put-last (λ (r : ChargedContainer). nat_lt row.container.number r.container.number) row rows
    (list_all-follows (λ (r : ChargedContainer). nat_lt r.container.number row.container.number) (λ (r : ChargedContainer). not (nat_lt row.container.number r.container.number))
    (λ r h. not_below r.container.number row.container.number h) rows above)

next_above : (m n : ℕ) → nat_lt m n ≡ true → nat_lt m (n + 1) ≡ true
next_above m n h = grind (arith, nat_tests)

above_next : (n : ℕ) → (nat_lt n (n + 1) && true) ≡ true
above_next n = grind (arith, nat_tests)

-- the next number is above all, and above a row of this number too
pub above-push : (rows : List ChargedContainer) (row : ChargedContainer) → is_above_all row.container.number rows ≡ true
    → is_above_all (row.container.number + 1) (rows ++ row ∷ []) ≡ true
above-push rows row above =
    let n = row.container.number in
    list_all-append (λ (r : ChargedContainer). nat_lt r.container.number (n + 1)) rows (row ∷ [])
    ∙ and_both (list_all (λ (r : ChargedContainer). nat_lt r.container.number (n + 1)) rows) (nat_lt n (n + 1) && true)
    (list_all-follows (λ (r : ChargedContainer). nat_lt r.container.number n) (λ (r : ChargedContainer). nat_lt r.container.number (n + 1))
    (λ r h. next_above r.container.number n h) rows above) (above_next n)
