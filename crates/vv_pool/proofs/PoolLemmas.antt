-- Uses of places, free places in order, and what a change of one use does to them.
use Rattle.std.proofs.Common.{ℕ, zero, suc, ◌≡◌, ◌+◌, ◌^◌, ◌<◌, ◌≤◌, Bool, true, false, cond, not, List, [], ◌∷◌, ◌++◌, length, get_or, set, replicate, take, drop, find, count_by, Some, None, nat_le, refl, sym, ap, ◌∙◌, subst, ⊎_elim, arith, length-set, zero-add}
use Rattle.std.proofs.lemmas.Bool.{cases_Bool, cases_lt, cond-true, cond-false, le-leb, lt-leb, lt-ltb, le-ltb, true≢false}
use Rattle.std.proofs.lemmas.List.{get_or_past, get_or-replicate, length-replicate, drop_all, drop_more, take_more}
use Rattle.std.proofs.lemmas.List.Sums.{sum_by-set, count_by-le-length, sum_by-cons, fold_push}
use mir.Val.{bool_byte}
use Rattle.vv_pool.specs.declared.place_use.PlaceUse.{PlaceUse}
use Rattle.vv_pool.specs.declared.place_use.PlaceUse.TheVariants.{Counted, Fresh}
use Rattle.vv_pool.specs.Bits.{bit_of, IsNextBit, IsFilled}
use Rattle.vv_pool.specs.Uses.{is_free, is_used, free_from, made_fresh}
use Rattle.vv_pool.specs.Pool.{free_bit, used_bit, IsKept}

-- a use is free or used
bits_of_use : (u : PlaceUse) → used_bit u + free_bit u ≡ 1
bits_of_use u = go (is_free u)
  where
    go : (b : Bool) → cond (not b) 1 0 + cond b 1 0 ≡ 1
    go true = refl
    go false = refl

free_bit_one : (u : PlaceUse) → free_bit u ≡ 1 → is_free u ≡ true
free_bit_one u h = ⊎_elim (λ yes. yes) (λ no. let z : free_bit u ≡ 0 = cond-false (is_free u) 1 0 no in absurd (omega arith)) (cases_Bool (is_free u))

free_bit_zero : (u : PlaceUse) → free_bit u ≡ 0 → is_free u ≡ false
free_bit_zero u h = ⊎_elim (λ yes. let z : free_bit u ≡ 1 = cond-true (is_free u) 1 0 yes in absurd (omega arith)) (λ no. no) (cases_Bool (is_free u))

-- ---- the number of used places
pub used-set : (places : List PlaceUse) (at : ℕ) (next d : PlaceUse) → at < length places → count_by is_used (set places at next) + used_bit (get_or places at d) ≡ count_by is_used places + used_bit next
used-set places at next d h = sum_by-set (λ u. cond (is_used u) 1 0) places at next d h

-- the sum of the used places and one that is free fits
pub put_fits : (places : List PlaceUse) (vacant : List ℕ) (used reserved at : ℕ) (before : PlaceUse) → IsKept places vacant used reserved → at < length places → before ≡ get_or places at before → used + free_bit before < 2 ^ 32
put_fits places vacant used reserved at before kept within is =
    let counts = used-set places at Fresh before within in
    let most = count_by-le-length is_used (set places at Fresh) in
    let size = length-set places at Fresh in
    let before_bits : used_bit (get_or places at before) + free_bit before ≡ 1 = subst (λ u. used_bit u + free_bit before ≡ 1) is (bits_of_use before) in
    omega (arith, kept.counted, kept.few)

-- ---- free places in order
pub free_from-yes : (at : ℕ) (u : PlaceUse) (us : List PlaceUse) → is_free u ≡ true → free_from at (u ∷ us) ≡ at ∷ free_from (at + 1) us
free_from-yes at u us h = cond-true (is_free u) _ _ h

pub free_from-no : (at : ℕ) (u : PlaceUse) (us : List PlaceUse) → is_free u ≡ false → free_from at (u ∷ us) ≡ free_from (at + 1) us
free_from-no at u us h = cond-false (is_free u) _ _ h

-- the first free place, and those that are left when it is taken
pub free_from-first : (at p : ℕ) (us : List PlaceUse) → is_free (get_or us p Fresh) ≡ true → ((k : ℕ) → k < p → is_free (get_or us k Fresh) ≡ false) → free_from at us ≡ (at + p) ∷ free_from at (set us p Fresh)
free_from-first at p [] here none = absurd (true≢false (sym here))
free_from-first at zero (u ∷ us) here none = free_from-yes at u us here ∙ ap (λ n. n ∷ free_from (at + 1) us) (omega arith)
free_from-first at (suc p) (u ∷ us) here none =
    let no : is_free u ≡ false = none 0 (omega arith) in
    free_from-no at u us no
    ∙ free_from-first (at + 1) p us here (λ k lt. none (suc k) (omega arith))
    ∙ ap (λ n. n ∷ free_from (at + 1) (set us p Fresh)) (omega arith)
    ∙ ap (λ ks. (at + suc p) ∷ ks) (sym (free_from-no at u (set us p Fresh) no))

-- no free place
pub free_from-none : (at : ℕ) (us : List PlaceUse) → ((k : ℕ) → is_free (get_or us k Fresh) ≡ false) → free_from at us ≡ []
free_from-none at [] none = refl
free_from-none at (u ∷ us) none = free_from-no at u us (none 0) ∙ free_from-none (at + 1) us (λ k. none (suc k))

-- each place is used or among the free ones
pub length-free_from : (at : ℕ) (us : List PlaceUse) → length (free_from at us) + count_by is_used us ≡ length us
length-free_from at [] = refl
length-free_from at (u ∷ us) =
    let more : count_by is_used (u ∷ us) ≡ used_bit u + count_by is_used us = sum_by-cons used_bit u us in
    let bits = bits_of_use u in
    ⊎_elim
    (λ yes. let e = ap length (free_from-yes at u us yes) in let one : free_bit u ≡ 1 = cond-true (is_free u) 1 0 yes in omega (arith, length-free_from (at + 1) us))
    (λ no. let e = ap length (free_from-no at u us no) in let z : free_bit u ≡ 0 = cond-false (is_free u) 1 0 no in omega (arith, length-free_from (at + 1) us))
    (cases_Bool (is_free u))

-- the lowest free place from one on
pub find-free_from : (from at p : ℕ) (us : List PlaceUse) → from ≤ at + p → is_free (get_or us p Fresh) ≡ true → ((k : ℕ) → from ≤ at + k → k < p → is_free (get_or us k Fresh) ≡ false) → find (λ place. nat_le from place) (free_from at us) ≡ Some (at + p)
find-free_from from at p [] le here none = absurd (true≢false (sym here))
find-free_from from at zero (u ∷ us) le here none =
    ap (find (λ place. nat_le from place)) (free_from-yes at u us here)
    ∙ cond-true (nat_le from at) _ _ (le-leb from at (omega arith))
    ∙ ap Some (omega arith)
find-free_from from at (suc p) (u ∷ us) le here none =
    let rest : find (λ place. nat_le from place) (free_from (at + 1) us) ≡ Some (at + 1 + p) =
    find-free_from from (at + 1) p us (omega arith) here (λ k low lt. none (suc k) (omega arith) (omega arith)) in
    let same : at + 1 + p ≡ at + suc p = omega arith in
    ⊎_elim
    (λ yes. ap (find (λ place. nat_le from place)) (free_from-yes at u us yes)
    ∙ cond-false (nat_le from at) _ _ (lt-leb from at (⊎_elim (λ lt. lt) (λ ge. absurd (true≢false (sym yes ∙ none 0 (omega arith) (omega arith)))) (cases_lt at from)))
    ∙ rest ∙ ap Some same)
    (λ no. ap (find (λ place. nat_le from place)) (free_from-no at u us no) ∙ rest ∙ ap Some same)
    (cases_Bool (is_free u))

pub find-free_from_none : (from at : ℕ) (us : List PlaceUse) → ((k : ℕ) → from ≤ at + k → is_free (get_or us k Fresh) ≡ false) → find (λ place. nat_le from place) (free_from at us) ≡ None
find-free_from_none from at [] none = refl
find-free_from_none from at (u ∷ us) none =
    let rest : find (λ place. nat_le from place) (free_from (at + 1) us) ≡ None =
    find-free_from_none from (at + 1) us (λ k low. none (suc k) (omega arith)) in
    ⊎_elim
    (λ yes. ap (find (λ place. nat_le from place)) (free_from-yes at u us yes)
    ∙ cond-false (nat_le from at) _ _ (lt-leb from at (⊎_elim (λ lt. lt) (λ ge. absurd (true≢false (sym yes ∙ none 0 (omega arith)))) (cases_lt at from)))
    ∙ rest)
    (λ no. ap (find (λ place. nat_le from place)) (free_from-no at u us no) ∙ rest)
    (cases_Bool (is_free u))

-- ---- what the bits of the free places tell
module _ (places : List PlaceUse) (vacant : List ℕ) (tells : (k : ℕ) → bit_of vacant k ≡ free_bit (get_or places k Fresh)) where
  free_at : (k : ℕ) → bit_of vacant k ≡ 1 → is_free (get_or places k Fresh) ≡ true
  free_at k h = free_bit_one (get_or places k Fresh) (sym (tells k) ∙ h)

  not_free_at : (k : ℕ) → bit_of vacant k ≡ 0 → is_free (get_or places k Fresh) ≡ false
  not_free_at k h = free_bit_zero (get_or places k Fresh) (sym (tells k) ∙ h)

  -- the first bit is the first free place
  pub first_by_bits : (p : ℕ) → IsNextBit vacant 0 p → free_from 0 places ≡ p ∷ free_from 0 (set places p Fresh)
  first_by_bits p next =
      free_from-first 0 p places (free_at p next.here) (λ k lt. not_free_at k (next.none_before.each k (omega arith) lt))
      ∙ ap (λ n. n ∷ free_from 0 (set places p Fresh)) (zero-add p)

  -- with no bit there is no free place
  pub none_by_bits : ((k : ℕ) → bit_of vacant k ≡ 0) → free_from 0 places ≡ []
  none_by_bits none = free_from-none 0 places (λ k. not_free_at k (none k))

  pub lowest_by_bits : (from p : ℕ) → IsNextBit vacant from p → find (λ place. nat_le from place) (free_from 0 places) ≡ Some p
  lowest_by_bits from p next =
      find-free_from from 0 p places (omega (arith, next.later)) (free_at p next.here) (λ k low lt. not_free_at k (next.none_before.each k (omega arith) lt))
      ∙ ap Some (zero-add p)

  pub lowest_none_by_bits : (from : ℕ) → ((k : ℕ) → from ≤ k → bit_of vacant k ≡ 0) → find (λ place. nat_le from place) (free_from 0 places) ≡ None
  lowest_none_by_bits from none = find-free_from_none from 0 places (λ k low. not_free_at k (none k (omega arith)))

  -- a place with a bit is one of the pool's
  pub bit_within : (p : ℕ) → bit_of vacant p ≡ 1 → p < length places
  bit_within p h = ⊎_elim (λ lt. lt) (λ ge. absurd (true≢false (sym (free_at p h) ∙ ap is_free (get_or_past places p Fresh ge)))) (cases_lt p (length places))

-- ---- a new pool
used-all_free : (n : ℕ) → count_by is_used (replicate n (Counted 0)) ≡ 0
used-all_free zero = refl
used-all_free (suc n) =
    let more : count_by is_used (replicate (suc n) (Counted 0)) ≡ 0 + count_by is_used (replicate n (Counted 0)) = sum_by-cons used_bit (Counted 0) (replicate n (Counted 0)) in
    omega (arith, used-all_free n)

pub kept-new : (n : ℕ) (vacant : List ℕ) → IsFilled vacant n → n < 2 ^ 32 → IsKept (replicate n (Counted 0)) vacant 0 0
kept-new n vacant filled few =
    let size = length-replicate n (Counted 0) in
    record {
      tells = λ k. filled.bits k ∙ ⊎_elim
          (λ lt. cond-true _ 1 0 (lt-ltb k n lt) ∙ ap free_bit (sym (get_or-replicate n k (Counted 0) Fresh lt)))
          (λ ge. cond-false _ 1 0 (le-ltb k n ge) ∙ ap free_bit (sym (get_or_past (replicate n (Counted 0)) k Fresh (omega arith))))
          (cases_lt k n);
      covers = omega (arith, filled.covers);
      counted = sym (used-all_free n);
      room = omega arith;
      few = omega arith;
    }

-- a test as a number
pub byte_is : (b : Bool) → bool_byte b ≡ cond b 1 0
byte_is true = refl
byte_is false = refl

-- ---- places that are taken one by one
pub taken_more : (ks rest : List ℕ) (i k : ℕ) → drop i ks ≡ k ∷ rest → (take (i + 1) ks ≡ take i ks ++ k ∷ []) × (drop (i + 1) ks ≡ rest)
taken_more ks rest i k e =
    let within : i < length ks = ⊎_elim (λ lt. lt) (λ ge. absurd (let z = drop_all i ks ge in cc)) (cases_lt i (length ks)) in
    let more = drop_more ks i k within in
    let both : (get_or ks i k ≡ k) × (drop (i + 1) ks ≡ rest) = (cc, cc) in
    (take_more ks i k within ∙ ap (λ n. take i ks ++ n ∷ []) both.0, both.1)

pub made_fresh_more : (uses : List PlaceUse) (ks : List ℕ) (k : ℕ) → made_fresh uses (ks ++ k ∷ []) ≡ set (made_fresh uses ks) k Fresh
made_fresh_more uses ks k = fold_push (λ now place. set now place Fresh) uses ks k
