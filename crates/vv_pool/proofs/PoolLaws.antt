-- What a layer that owns a pool wants to know of it: the use and the count of each place after each call.
use Rattle.std.proofs.Common.{ℕ, zero, suc, ◌≡◌, ◌≢◌, ◌+◌, ◌<◌, ◌≤◌, Bool, true, false, cond, List, [], ◌∷◌, length, get_or, min, take, find, slice_get, Contains, nat_le, refl, sym, ap, ◌∙◌, subst, ⊎_elim, arith, get_or-set_same, get_or-set_other, length-set}
use Rattle.std.proofs.lemmas.Bool.{cases_eq, cases_lt, ne_eqb, cond-true, cond-false, le-leb, lt-leb}
use Rattle.std.proofs.lemmas.List.{get_or_past, set_past, get_or-take, length-take-le, length-take}
use Rattle.vv_pool.specs.declared.place_use.PlaceUse.{PlaceUse}
use Rattle.vv_pool.specs.declared.place_use.PlaceUse.TheVariants.{Counted, Fresh}
use Rattle.vv_pool.specs.Uses.{is_free, count_in, free_from}
use Rattle.vv_pool.specs.Pool.{PoolState, use_of, count_of, IsFresh, IsFree, used_of, free_places, lowest_places, lowest_free, with_use, with_count, with_fresh, used_bit}
use Rattle.vv_pool.proofs.PoolLemmas.{used-set, length-free_from, free_from-no}

-- ---- one place
pub use_of-with_use_same : (pool : PoolState) (place : ℕ) (u : PlaceUse) → place < length pool.places → use_of (with_use pool place u) place ≡ u
use_of-with_use_same pool place u h = get_or-set_same pool.places place u (Counted 0) h

pub use_of-with_use_other : (pool : PoolState) (place k : ℕ) (u : PlaceUse) → k ≢ place → use_of (with_use pool place u) k ≡ use_of pool k
use_of-with_use_other pool place k u ne = get_or-set_other pool.places place k u (Counted 0) ne

pub count_of-with_count_same : (pool : PoolState) (place n : ℕ) → place < length pool.places → count_of (with_count pool place n) place ≡ n
count_of-with_count_same pool place n h = ap count_in (use_of-with_use_same pool place (Counted n) h)

pub count_of-with_count_other : (pool : PoolState) (place k n : ℕ) → k ≢ place → count_of (with_count pool place n) k ≡ count_of pool k
count_of-with_count_other pool place k n ne = ap count_in (use_of-with_use_other pool place k (Counted n) ne)

-- a place that has a use is one of the pool's
pub within_from_count : (pool : PoolState) (place : ℕ) → 1 ≤ count_of pool place → place < length pool.places
within_from_count pool place h = ⊎_elim (λ lt. lt)
    (λ ge. let z : count_of pool place ≡ 0 = ap count_in (get_or_past pool.places place (Counted 0) ge) in absurd (omega arith))
    (cases_lt place (length pool.places))

pub within_from_fresh : (pool : PoolState) (place : ℕ) → IsFresh pool place → place < length pool.places
within_from_fresh pool place h = ⊎_elim (λ lt. lt)
    (λ ge. absurd (let z = get_or_past pool.places place (Counted 0) ge in cc))
    (cases_lt place (length pool.places))

-- a place that is counted isn't fresh, and one that is fresh isn't counted
pub count_of-fresh : (pool : PoolState) (place : ℕ) → IsFresh pool place → count_of pool place ≡ 0
count_of-fresh pool place h = ap count_in h

pub used_of-with_use : (pool : PoolState) (place : ℕ) (u : PlaceUse) → place < length pool.places → used_of (with_use pool place u) + used_bit (use_of pool place) ≡ used_of pool + used_bit u
used_of-with_use pool place u h = used-set pool.places place u (Counted 0) h

-- ---- the free places
pub length-free_places : (pool : PoolState) → length (free_places pool) + used_of pool ≡ length pool.places
length-free_places pool = length-free_from 0 pool.places

-- the numbers rise, the first being at least low
abbrev RisesFrom : ℕ → List ℕ → Type 0
RisesFrom low [] = Unit {0}
RisesFrom low (x ∷ xs) = (low ≤ x) × RisesFrom (x + 1) xs

rises_lower : (low low' : ℕ) (xs : List ℕ) → low' ≤ low → RisesFrom low xs → RisesFrom low' xs
rises_lower low low' [] le r = tt
rises_lower low low' (x ∷ xs) le r = (omega (arith, r.0), r.1)

rises_either : (b : Bool) (at : ℕ) (xs : List ℕ) → RisesFrom (at + 1) xs → RisesFrom at (cond b (at ∷ xs) xs)
rises_either true at xs r = (omega arith, r)
rises_either false at xs r = rises_lower (at + 1) at xs (omega arith) r

free_from-rises : (at : ℕ) (us : List PlaceUse) → RisesFrom at (free_from at us)
free_from-rises at [] = tt
free_from-rises at (u ∷ us) = rises_either (is_free u) at (free_from (at + 1) us) (free_from-rises (at + 1) us)

rises_above : (low i : ℕ) (xs : List ℕ) → RisesFrom low xs → i < length xs → low ≤ get_or xs i 0
rises_above low i [] r h = absurd (omega arith)
rises_above low zero (x ∷ xs) r h = r.0
rises_above low (suc i) (x ∷ xs) r h = let more = rises_above (x + 1) i xs r.1 (omega arith) in omega (arith, more, r.0)

rises_strictly : (low i j : ℕ) (xs : List ℕ) → RisesFrom low xs → i < j → j < length xs → get_or xs i 0 < get_or xs j 0
rises_strictly low i j [] r lt h = absurd (omega arith)
rises_strictly low i zero (x ∷ xs) r lt h = absurd (omega arith)
rises_strictly low zero (suc j) (x ∷ xs) r lt h = let more = rises_above (x + 1) j xs r.1 (omega arith) in omega (arith, more)
rises_strictly low (suc i) (suc j) (x ∷ xs) r lt h = rises_strictly (x + 1) i j xs r.1 (omega arith) (omega arith)

-- the free places rise, so they are all different
pub free_places-rise : (pool : PoolState) (i j : ℕ) → i < j → j < length (free_places pool) → get_or (free_places pool) i 0 < get_or (free_places pool) j 0
free_places-rise pool i j lt h = rises_strictly 0 i j (free_places pool) (free_from-rises 0 pool.places) lt h

-- each of them is free
abbrev FreeAt : ℕ → ℕ → List PlaceUse → Type 0
FreeAt at k us = (p : ℕ) × (k ≡ at + p) × (p < length us) × (get_or us p (Counted 0) ≡ Counted 0)

free_at_next : (at k : ℕ) (u : PlaceUse) (us : List PlaceUse) → FreeAt (at + 1) k us → FreeAt at k (u ∷ us)
free_at_next at k u us f = let e = f.1 in (suc f.0, omega arith, omega (arith, f.2), f.3)

free_from-free : (at i : ℕ) (us : List PlaceUse) → i < length (free_from at us) → FreeAt at (get_or (free_from at us) i 0) us
free_from-free at i [] h = absurd (omega arith)
free_from-free at zero (Counted zero ∷ us) h = (0, omega arith, omega arith, refl)
free_from-free at (suc i) (Counted zero ∷ us) h = free_at_next at _ (Counted 0) us (free_from-free (at + 1) i us (omega arith))
free_from-free at i (Counted (suc n) ∷ us) h =
    let same = free_from-no at (Counted (suc n)) us (ne_eqb (suc n) 0 (λ e. omega arith)) in
    subst (λ ks. FreeAt at (get_or ks i 0) (Counted (suc n) ∷ us)) (sym same)
    (free_at_next at _ (Counted (suc n)) us (free_from-free (at + 1) i us (omega (arith, ap length same))))
free_from-free at i (Fresh ∷ us) h = free_at_next at _ Fresh us (free_from-free (at + 1) i us h)

pub IsFree-free_places : (pool : PoolState) (i : ℕ) → i < length (free_places pool) → IsFree pool (get_or (free_places pool) i 0)
IsFree-free_places pool i h =
    let f = free_from-free 0 i pool.places h in
    let e : f.0 ≡ get_or (free_places pool) i 0 = omega (arith, f.1) in
    (subst (λ p. p < length pool.places) e f.2, subst (λ p. use_of pool p ≡ Counted 0) e f.3)

-- ---- several places that become fresh
pub length-with_fresh : (pool : PoolState) (ks : List ℕ) → length (with_fresh pool ks).places ≡ length pool.places
length-with_fresh pool [] = refl
length-with_fresh pool (k ∷ ks) = length-with_fresh (with_use pool k Fresh) ks ∙ length-set pool.places k Fresh

-- a fresh place stays fresh
pub fresh-with_fresh : (pool : PoolState) (ks : List ℕ) (k : ℕ) → IsFresh pool k → IsFresh (with_fresh pool ks) k
fresh-with_fresh pool [] k h = h
fresh-with_fresh pool (p ∷ ks) k h = fresh-with_fresh (with_use pool p Fresh) ks k (⊎_elim
    (λ e. ap (use_of (with_use pool p Fresh)) e ∙ use_of-with_use_same pool p Fresh (subst (λ n. n < length pool.places) e (within_from_fresh pool k h)))
    (λ ne. use_of-with_use_other pool p k Fresh ne ∙ h)
    (cases_eq k p))

pub use_of-with_fresh_in : (pool : PoolState) (ks : List ℕ) (k : ℕ) → k < length pool.places → Contains ks k → IsFresh (with_fresh pool ks) k
use_of-with_fresh_in pool [] k h (i, lt, e) = absurd (omega arith)
use_of-with_fresh_in pool (p ∷ ks) k h (zero, lt, e) =
    fresh-with_fresh (with_use pool p Fresh) ks k (ap (use_of (with_use pool p Fresh)) (sym e) ∙ use_of-with_use_same pool p Fresh (subst (λ n. n < length pool.places) (sym e) h))
use_of-with_fresh_in pool (p ∷ ks) k h (suc i, lt, e) =
    use_of-with_fresh_in (with_use pool p Fresh) ks k (omega (arith, length-set pool.places p Fresh)) (i, omega arith, e)

pub use_of-with_fresh_out : (pool : PoolState) (ks : List ℕ) (k : ℕ) → (Contains ks k → ⊥) → use_of (with_fresh pool ks) k ≡ use_of pool k
use_of-with_fresh_out pool [] k absent = refl
use_of-with_fresh_out pool (p ∷ ks) k absent =
    use_of-with_fresh_out (with_use pool p Fresh) ks k (λ (i, lt, e). absent (suc i, omega arith, e))
    ∙ use_of-with_use_other pool p k Fresh (λ e. absent (0, omega arith, sym e))

-- .. leave every count, where none of them is counted
pub count_of-with_fresh : (pool : PoolState) (ks : List ℕ) (k : ℕ) → ((i : ℕ) → i < length ks → count_of pool (get_or ks i 0) ≡ 0) → count_of (with_fresh pool ks) k ≡ count_of pool k
count_of-with_fresh pool [] k none = refl
count_of-with_fresh pool (p ∷ ks) k none =
    count_of-with_fresh (with_use pool p Fresh) ks k (λ i lt. count_of_fresh_place pool p (get_or ks i 0) (none 0 (omega arith)) ∙ none (suc i) (omega arith))
    ∙ count_of_fresh_place pool p k (none 0 (omega arith))
  where
    count_of_fresh_place : (pool : PoolState) (p k : ℕ) → count_of pool p ≡ 0 → count_of (with_use pool p Fresh) k ≡ count_of pool k
    count_of_fresh_place pool p k zero_there = ⊎_elim
        (λ e. ⊎_elim
        (λ lt. ap (count_of (with_use pool p Fresh)) e ∙ ap count_in (use_of-with_use_same pool p Fresh lt) ∙ sym zero_there ∙ ap (count_of pool) (sym e))
        (λ ge. ap (λ us. count_in (get_or us k (Counted 0))) (set_past pool.places p Fresh ge))
        (cases_lt p (length pool.places)))
        (λ ne. ap count_in (use_of-with_use_other pool p k Fresh ne))
        (cases_eq k p)

-- what `take` takes leaves every count
pub count_of-with_lowest : (pool : PoolState) (n k : ℕ) → count_of (with_fresh pool (lowest_places pool n)) k ≡ count_of pool k
count_of-with_lowest pool n k = count_of-with_fresh pool (lowest_places pool n) k (λ i lt.
    let within : i < min n (length (free_places pool)) = omega (arith, length-take n (free_places pool)) in
    ap (count_of pool) (get_or-take n (free_places pool) i 0 (omega arith)) ∙ ap count_in (IsFree-free_places pool i (omega arith)).1)

-- .. and makes so many places more used
rises_take : (low n : ℕ) (xs : List ℕ) → RisesFrom low xs → RisesFrom low (take n xs)
rises_take low zero xs r = tt
rises_take low (suc n) [] r = tt
rises_take low (suc n) (x ∷ xs) r = (r.0, rises_take (x + 1) n xs r.1)

used_of-with_fresh : (pool : PoolState) (low : ℕ) (ks : List ℕ) → RisesFrom low ks → ((i : ℕ) → i < length ks → IsFree pool (get_or ks i 0)) → used_of (with_fresh pool ks) ≡ used_of pool + length ks
used_of-with_fresh pool low [] rises free = omega arith
used_of-with_fresh pool low (p ∷ ks) rises free =
    let first = free 0 (omega arith) in
    let one = used_of-with_use pool p Fresh first.0 in
    let was : used_bit (use_of pool p) ≡ 0 = ap used_bit first.1 in
    let rest = used_of-with_fresh (with_use pool p Fresh) (p + 1) ks rises.1 (λ i lt.
    let k = get_or ks i 0 in
    let above = rises_above (p + 1) i ks rises.1 lt in
    let other : k ≢ p = omega (arith, above) in
    let kept = free (suc i) (omega arith) in
    (omega (arith, kept.0, length-set pool.places p Fresh), use_of-with_use_other pool p k Fresh other ∙ kept.1)) in
    omega (arith, one, was, rest)

pub used_of-with_lowest : (pool : PoolState) (n : ℕ) → n ≤ length (free_places pool) → used_of (with_fresh pool (lowest_places pool n)) ≡ used_of pool + n
used_of-with_lowest pool n h =
    let size = length-take-le n (free_places pool) h in
    let more = used_of-with_fresh pool 0 (lowest_places pool n) (rises_take 0 n (free_places pool) (free_from-rises 0 pool.places)) (λ i lt.
    let e : get_or (free_places pool) i 0 ≡ get_or (lowest_places pool n) i 0 = sym (get_or-take n (free_places pool) i 0 (omega arith)) in
    let free = IsFree-free_places pool i (omega arith) in
    (subst (λ p. p < length pool.places) e free.0, subst (λ p. use_of pool p ≡ Counted 0) e free.1)) in
    omega (arith, more)

-- ---- the lowest place, one after another
find_low : (low from : ℕ) (xs : List ℕ) → RisesFrom low xs → from ≤ low → find (λ place. nat_le from place) xs ≡ slice_get xs 0
find_low low from [] r le = refl
find_low low from (x ∷ xs) r le = cond-true (nat_le from x) _ _ (le-leb from x (omega (arith, r.0)))

find_after : (low i : ℕ) (xs : List ℕ) → RisesFrom low xs → i < length xs → find (λ place. nat_le (get_or xs i 0 + 1) place) xs ≡ slice_get xs (suc i)
find_after low i [] r h = absurd (omega arith)
find_after low zero (x ∷ xs) r h = cond-false (nat_le (x + 1) x) _ _ (lt-leb (x + 1) x (omega arith)) ∙ find_low (x + 1) (x + 1) xs r.1 (omega arith)
find_after low (suc i) (x ∷ xs) r h =
    let above = rises_above (x + 1) i xs r.1 (omega arith) in
    cond-false (nat_le (get_or xs i 0 + 1) x) _ _ (lt-leb (get_or xs i 0 + 1) x (omega (arith, above))) ∙ find_after (x + 1) i xs r.1 (omega arith)

pub lowest_free-zero : (pool : PoolState) → lowest_free pool 0 ≡ slice_get (free_places pool) 0
lowest_free-zero pool = find_low 0 0 (free_places pool) (free_from-rises 0 pool.places) (omega arith)

pub lowest_free-after : (pool : PoolState) (i : ℕ) → i < length (free_places pool) → lowest_free pool (get_or (free_places pool) i 0 + 1) ≡ slice_get (free_places pool) (suc i)
lowest_free-after pool i h = find_after 0 i (free_places pool) (free_from-rises 0 pool.places) h
