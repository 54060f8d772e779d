-- For the lowest places that no entry names, taken one after the other: those that were taken and those behind them are all.
use Rattle.std.proofs.Common.{ℕ, zero, suc, ◌≡◌, ◌≤◌, ◌<◌, ◌+◌, Bool, true, false, cond, List, [], ◌∷◌, ◌++◌, length, take, refl, sym, ap, ◌∙◌, arith, append_assoc, length-append}
use Rattle.std.proofs.lemmas.List.{append-nil}
use Rattle.std.specs.Prelude.{Some, None, nat_le, nat_lt}
use Rattle.std.specs.List.{filter, find}
use Rattle.std.proofs.lemmas.Bool.{ltb-true, leb-true, leb-false, le-leb}
use Rattle.std.proofs.lemmas.Bool.Decides.{nat_tests}
use Rattle.vv_flat.specs.Lists.{numbers_from, all_above, all_rising}
use Rattle.vv_flat.specs.State.{Durable}
use Rattle.vv_flat.specs.Chunks.{Entry}
use Rattle.vv_flat.specs.Replay.{is_fresh}
use Rattle.vv_flat.specs.Plans.{fresh_places}
use Rattle.vv_flat.proofs.Shares.{and_left, and_right}
use Rattle.vv_flat.proofs.MapLists.{map-same}
use Rattle.vv_flat.proofs.Lookups.{rising-filter}
use Rattle.vv_flat.proofs.NewEntries.{numbers_rise, above_rises}
use Rattle.vv_laws.proofs.ListParts.{take-past}
use Rattle.vv_core.proofs.FreshTold.{found_passes}

-- So many were taken of some numbers, and those from this one on are left.
pub record AreTaken (fresh taken : List ℕ) (from many : ℕ) : Type 0 where
  pub parts : fresh ≡ taken ++ filter (λ k. nat_le from k) fresh
  pub count : length taken ≡ many

-- ---- what is found from a number on

below_kept : (n from : ℕ) (xs : List ℕ) → from ≤ n + 1 → all_above n xs ≡ true → filter (λ k. nat_le from k) xs ≡ xs
below_kept n from [] le e = refl
below_kept n from (x ∷ xs) le e =
    let lt : n < x = ltb-true n x (and_left (nat_lt n x) (all_above x xs) e) in
    let within : nat_le from x ≡ true = le-leb from x (omega (arith, lt, le)) in
    ap (λ b. cond b (x ∷ filter (λ k. nat_le from k) xs) (filter (λ k. nat_le from k) xs)) within
    ∙ ap (λ ys. x ∷ ys) (below_kept x from xs (omega (arith, lt, le)) (and_right (nat_lt n x) (all_above x xs) e))

not_within : (a b : ℕ) → b < a → nat_le a b ≡ false
not_within a b lt = grind (arith, nat_tests)

-- what is found is from this number on
found_from : (from p : ℕ) (xs : List ℕ) → find (λ k. nat_le from k) xs ≡ Some p → from ≤ p
found_from from p [] e = absurd (cc)
found_from from p (x ∷ xs) e = go (nat_le from x) refl e (λ f. found_from from p xs f)
  where
    go : (b : Bool) → nat_le from x ≡ b → cond b (Some x) (find (λ k. nat_le from k) xs) ≡ Some p
        → (find (λ k. nat_le from k) xs ≡ Some p → from ≤ p) → from ≤ p
    go true is f later = let same : x ≡ p = cc in let le : from ≤ x = leb-true from x is in omega (arith, same, le)
    go false is f later = later f

-- the first of those from a number on, and those behind it
first_left : (from p : ℕ) (xs : List ℕ) → all_rising xs ≡ true → find (λ k. nat_le from k) xs ≡ Some p
    → filter (λ k. nat_le from k) xs ≡ p ∷ filter (λ k. nat_le (p + 1) k) xs
first_left from p [] rise e = absurd (cc)
first_left from p (x ∷ xs) rise e = go (nat_le from x) refl e (λ f. first_left from p xs (above_rises x xs rise) f)
  where
    behind : (b : Bool) → nat_le (p + 1) x ≡ b → b ≡ false
        → cond b (x ∷ filter (λ k. nat_le (p + 1) k) xs) (filter (λ k. nat_le (p + 1) k) xs) ≡ filter (λ k. nat_le (p + 1) k) xs
    behind true is f = absurd (cc)
    behind false is f = refl

    go : (b : Bool) → nat_le from x ≡ b → cond b (Some x) (find (λ k. nat_le from k) xs) ≡ Some p
        → (find (λ k. nat_le from k) xs ≡ Some p → filter (λ k. nat_le from k) xs ≡ p ∷ filter (λ k. nat_le (p + 1) k) xs)
        → cond b (x ∷ filter (λ k. nat_le from k) xs) (filter (λ k. nat_le from k) xs) ≡ p ∷ filter (λ k. nat_le (p + 1) k) (x ∷ xs)
    go true is f later =
        let same : x ≡ p = cc in
        let le : from ≤ x = leb-true from x is in
        let past : nat_le (p + 1) x ≡ false = not_within (p + 1) x (omega (arith, same)) in
        ap (λ ys. x ∷ ys) (below_kept x from xs (omega (arith, le)) rise)
        ∙ ap (λ k. k ∷ xs) same
        ∙ ap (λ ys. p ∷ ys) (sym (behind (nat_le (p + 1) x) refl past ∙ below_kept x (p + 1) xs (omega (arith, same)) rise))
    go false is f later =
        let lt : x < from = leb-false from x is in
        let le : from ≤ p = found_from from p xs f in
        let past : nat_le (p + 1) x ≡ false = not_within (p + 1) x (omega (arith, lt, le)) in
        later f
        ∙ ap (λ ys. p ∷ ys) (sym (behind (nat_le (p + 1) x) refl past))

none_left : (from : ℕ) (xs : List ℕ) → find (λ k. nat_le from k) xs ≡ None → filter (λ k. nat_le from k) xs ≡ []
none_left from [] e = refl
none_left from (x ∷ xs) e = go (nat_le from x) refl e (λ f. none_left from xs f)
  where
    go : (b : Bool) → nat_le from x ≡ b → cond b (Some x) (find (λ k. nat_le from k) xs) ≡ None
        → (find (λ k. nat_le from k) xs ≡ None → filter (λ k. nat_le from k) xs ≡ []) → cond b (x ∷ filter (λ k. nat_le from k) xs) (filter (λ k. nat_le from k) xs) ≡ []
    go true is f later = absurd (cc)
    go false is f later = later f

all_left : (xs : List ℕ) → xs ≡ filter (λ k. nat_le 0 k) xs
all_left [] = refl
all_left (x ∷ xs) =
    let le : nat_le 0 x ≡ true = le-leb 0 x (omega arith) in
    ap (λ ys. x ∷ ys) (all_left xs)
    ∙ sym (ap (λ b. cond b (x ∷ filter (λ k. nat_le 0 k) xs) (filter (λ k. nat_le 0 k) xs)) le)

take_front : (xs ys : List ℕ) (n : ℕ) → length xs ≡ n → take n (xs ++ ys) ≡ xs
take_front [] ys zero e = refl
take_front [] ys (suc n) e = absurd (omega (arith, e))
take_front (x ∷ xs) ys zero e = absurd (omega (arith, e))
take_front (x ∷ xs) ys (suc n) e = ap (λ zs. x ∷ zs) (take_front xs ys n (omega (arith, e)))

-- ---- taking them

pub none_taken : (fresh : List ℕ) → AreTaken fresh [] 0 0
none_taken fresh = record { parts = all_left fresh; count = refl }

pub one_taken : (fresh taken : List ℕ) (from p many : ℕ) → all_rising fresh ≡ true → AreTaken fresh taken from many
    → find (λ k. nat_le from k) fresh ≡ Some p → AreTaken fresh (taken ++ p ∷ []) (p + 1) (many + 1)
one_taken fresh taken from p many rise h found = record {
  parts =
      h.parts ∙ ap (λ left. taken ++ left) (first_left from p fresh rise found)
      ∙ sym (append_assoc taken (p ∷ []) (filter (λ k. nat_le (p + 1) k) fresh));
  count = let long : length (taken ++ p ∷ []) ≡ length taken + 1 = length-append taken (p ∷ []) in let before : length taken ≡ many = h.count in omega (arith, long, before);
}

pub all_taken : (fresh taken : List ℕ) (from many most : ℕ) → AreTaken fresh taken from many → many ≤ most
    → find (λ k. nat_le from k) fresh ≡ None → taken ≡ take most fresh
all_taken fresh taken from many most h le found =
    let none : filter (λ k. nat_le from k) fresh ≡ [] = none_left from fresh found in
    let whole : fresh ≡ taken = h.parts ∙ ap (λ left. taken ++ left) none ∙ append-nil taken in
    let count : length taken ≡ many = h.count in
    sym (ap (take most) whole ∙ take-past most taken (omega (arith, count, le)))

pub enough_taken : (fresh taken : List ℕ) (from many most : ℕ) → AreTaken fresh taken from many → many ≡ most → taken ≡ take most fresh
enough_taken fresh taken from many most h is =
    sym (ap (take most) h.parts ∙ take_front taken (filter (λ k. nat_le from k) fresh) most (h.count ∙ is))

-- ---- the places of the pool that no entry names

pub fresh_rising : (d : Durable Entry) → all_rising (fresh_places d) ≡ true
fresh_rising d =
    ap all_rising (sym (map-same (λ n. n) (λ n. refl) (fresh_places d)))
    ∙ rising-filter (λ n. n) (is_fresh d) (numbers_from 0 d.geometry.pool_chunks)
    (ap all_rising (map-same (λ n. n) (λ n. refl) (numbers_from 0 d.geometry.pool_chunks)) ∙ numbers_rise 0 d.geometry.pool_chunks)

pub found_in_pool : (d : Durable Entry) (from p : ℕ) → find (λ k. nat_le from k) (fresh_places d) ≡ Some p → p < d.geometry.pool_chunks
found_in_pool d from p e =
    ltb-true p d.geometry.pool_chunks
    (and_left (nat_lt p d.geometry.pool_chunks) _ (found_passes (is_fresh d) (λ k. nat_le from k) (numbers_from 0 d.geometry.pool_chunks) p e))
