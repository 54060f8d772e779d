-- What the entries of lists tell of the entries that were there before an edit, and of those that were put in; and how many
-- numbers pass a test before and after.
use Rattle.std.proofs.Common.{◌≡◌, ◌≤◌, ◌<◌, ℕ, zero, suc, ◌+◌, ◌==◌, ◌&&◌, ◌||◌, not, refl, ap, sym, ◌∙◌, Bool, true, false, cond, List, [], ◌∷◌, ◌++◌, length, set, arith, length-set}
use Rattle.std.specs.Prelude.{Some, nat_lt, count_by}
use Rattle.std.specs.List.{find, filter, list_all, list_any}
use Rattle.std.proofs.lemmas.List.Sums.{sum_by-cons}
use Rattle.std.proofs.lemmas.Bool.{not-true, ltb-true, eqb-true, eqb-false, eq-eqb, ne_eqb, or_left, or_right}
use Rattle.vv_flat.specs.Lists.{first_changed, put_before, first_removed, put_at, mapped_from, numbers_from, all_different, all_above, all_rising}
use Rattle.vv_flat.specs.State.{Piece}
use Rattle.vv_flat.specs.Chunks.{is_in_ranges, placed_entries}
use Rattle.vv_flat.specs.NamedPlaces.{is_named}
use Rattle.vv_flat.proofs.Shares.{and_left, and_right, and_both, list_all-follows}
use Rattle.vv_flat.proofs.NewEntries.{above_each, above_rises}
use Rattle.vv_flat.proofs.KeepTasks.{any_none}
use Rattle.vv_laws.proofs.Standing.{pieces_at}

or_again : (a b c : Bool) → (a || (b || c)) ≡ true → ((a || b) || c) ≡ true
or_again true b c e = refl
or_again false b c e = e

or_second : (a b : Bool) → (a || b) ≡ true → a ≡ false → b ≡ true
or_second true b e f = cc
or_second false b e f = e

covered_step : {A : Type 0} (t : A → Bool) (x : A) (fs xs : List A) (b : Bool) → (b || t x) ≡ true → list_all t (cond b (x ∷ fs) fs) ≡ true
    → (list_all t fs ≡ true → list_all t xs ≡ true) → (t x && list_all t xs) ≡ true
covered_step t x fs xs true e f there = and_both (t x) _ (and_left (t x) (list_all t fs) f) (there (and_right (t x) (list_all t fs) f))
covered_step t x fs xs false e f there = and_both (t x) _ e (there f)

-- what holds of those that a mark picks, and of all without it
pub covered : {A : Type 0} (m t : A → Bool) (xs : List A) → list_all (λ x. m x || t x) xs ≡ true → list_all t (filter m xs) ≡ true → list_all t xs ≡ true
covered m t [] e f = refl
covered m t (x ∷ xs) e f =
    covered_step t x (filter m xs) xs (m x) (and_left (m x || t x) _ e) f (λ g. covered m t xs (and_right (m x || t x) _ e) g)

-- Lists of records.
module _ {A : Type 0} (r p : A → Bool) where
  put_step : (x y : A) (ys : List A) (b : Bool) → list_all r (cond b (x ∷ y ∷ ys) (y ∷ put_before p x ys)) ≡ true
      → (list_all r (put_before p x ys) ≡ true → (r x ≡ true) × (list_all r ys ≡ true)) → (r x ≡ true) × (list_all r (y ∷ ys) ≡ true)
  put_step x y ys true e there = (and_left (r x) _ e, and_right (r x) _ e)
  put_step x y ys false e there =
      let rest = there (and_right (r y) _ e) in (rest.0, and_both (r y) _ (and_left (r y) _ e) (rest.1))

  pub from_put : (x : A) (xs : List A) → list_all r (put_before p x xs) ≡ true → (r x ≡ true) × (list_all r xs ≡ true)
  from_put x [] e = (and_left (r x) _ e, refl)
  from_put x (y ∷ ys) e = put_step x y ys (p y) e (λ f. from_put x ys f)

  removed_step : (x : A) (xs : List A) (b : Bool) → list_all r (cond b xs (x ∷ first_removed p xs)) ≡ true
      → ((y : A) → cond b (Some x) (find p xs) ≡ Some y → r y ≡ true)
      → (list_all r (first_removed p xs) ≡ true → ((y : A) → find p xs ≡ Some y → r y ≡ true) → list_all r xs ≡ true)
      → (r x && list_all r xs) ≡ true
  removed_step x xs true e one there = and_both (r x) _ (one x refl) e
  removed_step x xs false e one there = and_both (r x) _ (and_left (r x) _ e) (there (and_right (r x) _ e) one)

  pub from_removed : (xs : List A) → list_all r (first_removed p xs) ≡ true → ((y : A) → find p xs ≡ Some y → r y ≡ true) → list_all r xs ≡ true
  from_removed [] e one = refl
  from_removed (x ∷ xs) e one = removed_step x xs (p x) e one (λ f g. from_removed xs f g)

  changed_step : (g : A → A) (x : A) (xs : List A) (b : Bool) → list_all r (cond b (g x ∷ xs) (x ∷ first_changed p g xs)) ≡ true
      → ((y : A) → cond b (Some x) (find p xs) ≡ Some y → r (g y) ≡ true → r y ≡ true)
      → (list_all r (first_changed p g xs) ≡ true → ((y : A) → find p xs ≡ Some y → r (g y) ≡ true → r y ≡ true) → list_all r xs ≡ true)
      → (r x && list_all r xs) ≡ true
  changed_step g x xs true e one there = and_both (r x) _ (one x refl (and_left (r (g x)) _ e)) (and_right (r (g x)) _ e)
  changed_step g x xs false e one there = and_both (r x) _ (and_left (r x) _ e) (there (and_right (r x) _ e) one)

  pub from_changed : (g : A → A) (xs : List A) → list_all r (first_changed p g xs) ≡ true
      → ((y : A) → find p xs ≡ Some y → r (g y) ≡ true → r y ≡ true) → list_all r xs ≡ true
  from_changed g [] e one = refl
  from_changed g (x ∷ xs) e one = changed_step g x xs (p x) e one (λ f h. from_changed g xs f h)

  at_step : (g : A → A) (x y : A) (xs : List A) (b : Bool) → list_all r (cond b (g x ∷ xs) (x ∷ first_changed p g xs)) ≡ true
      → cond b (Some x) (find p xs) ≡ Some y → (list_all r (first_changed p g xs) ≡ true → find p xs ≡ Some y → r (g y) ≡ true) → r (g y) ≡ true
  at_step g x y xs true e found there =
      let same : x ≡ y = cc in ap (λ z. r (g z)) (sym same) ∙ and_left (r (g x)) _ e
  at_step g x y xs false e found there = there (and_right (r x) _ e) found

  pub at_changed : (g : A → A) (y : A) (xs : List A) → list_all r (first_changed p g xs) ≡ true → find p xs ≡ Some y → r (g y) ≡ true
  at_changed g y [] e found = cc
  at_changed g y (x ∷ xs) e found = at_step g x y xs (p x) e found (λ f h. at_changed g y xs f h)

-- no lower number is among rising ones
pub none_below : (i : ℕ) (is : List ℕ) → all_above i is ≡ true → list_any (λ k. k == i) is ≡ false
none_below i is e =
    any_none (λ k. k == i) is
    (list_all-follows (nat_lt i) (λ k. not (k == i))
    (λ k f. let lt : i < k = ltb-true i k f in ap not (ne_eqb k i (λ g. omega arith))) is (above_each i i (omega arith) is e))

-- Lists of chunks.
module _ {X : Type 0} where
  abbrev pub from : ℕ → List X → List (Piece X)
  from j xs = mapped_from (λ i x. record { index = i; chunk = x }) j xs

  pub front : (t : Piece X → Bool) (j : ℕ) (xs ys : List X) → list_all t (from j (xs ++ ys)) ≡ true → list_all t (from j xs) ≡ true
  front t j [] ys e = refl
  front t j (x ∷ xs) ys e =
      and_both (t (record { index = j; chunk = x })) _ (and_left (t (record { index = j; chunk = x })) _ e)
      (front t (j + 1) xs ys (and_right (t (record { index = j; chunk = x })) _ e))

  set_or : (r : Piece X → Bool) (j i k : ℕ) (v : X) (xs : List X) → j + i ≡ k → list_all r (from j (set xs i v)) ≡ true
      → list_all (λ (p : Piece X). (k == p.index) || r p) (from j xs) ≡ true
  set_or r j i k v [] e h = refl
  set_or r j zero k v (x ∷ xs) e h =
      and_both ((k == j) || r (record { index = j; chunk = x })) _ (or_left (k == j) _ (eq-eqb k j (omega arith)))
      (list_all-follows r (λ (p : Piece X). (k == p.index) || r p) (λ p f. or_right (k == p.index) _ f) (from (j + 1) xs)
      (and_right (r (record { index = j; chunk = v })) _ h))
  set_or r j (suc i) k v (x ∷ xs) e h =
      and_both ((k == j) || r (record { index = j; chunk = x })) _ (or_right (k == j) _ (and_left (r (record { index = j; chunk = x })) _ h))
      (set_or r (j + 1) i k v xs (omega arith) (and_right (r (record { index = j; chunk = x })) _ h))

  -- what is nowhere replaced stays
  pub put_or : (t : Piece X → Bool) (is : List ℕ) (vs xs : List X) → list_all t (from 0 (put_at is vs xs)) ≡ true
      → list_all (λ (p : Piece X). list_any (λ i. i == p.index) is || t p) (from 0 xs) ≡ true
  put_or t [] vs xs h = h
  put_or t (i ∷ is) [] xs h =
      list_all-follows t (λ (p : Piece X). list_any (λ i. i == p.index) (i ∷ is) || t p)
      (λ p f. or_right (list_any (λ i. i == p.index) (i ∷ is)) _ f) (from 0 xs) h
  put_or t (i ∷ is) (v ∷ vs) xs h =
      list_all-follows (λ (p : Piece X). (i == p.index) || (list_any (λ i. i == p.index) is || t p))
      (λ (p : Piece X). list_any (λ i. i == p.index) (i ∷ is) || t p)
      (λ p f. or_again (i == p.index) (list_any (λ i. i == p.index) is) (t p) f) (from 0 xs)
      (set_or (λ (p : Piece X). list_any (λ i. i == p.index) is || t p) 0 i i v xs (omega arith) (put_or t is vs (set xs i v) h))

  value_there : (r : Piece X → Bool) (j i k : ℕ) (v : X) (xs : List X) → j + i ≡ k → i < length xs → list_all r (from j (set xs i v)) ≡ true
      → r (record { index = k; chunk = v }) ≡ true
  value_there r j i k v [] e lt h = absurd (omega arith)
  value_there r j zero k v (x ∷ xs) e lt h =
      let same : k ≡ j = omega arith in
      ap (λ n. r (record { index = n; chunk = v })) same ∙ and_left (r (record { index = j; chunk = v })) _ h
  value_there r j (suc i) k v (x ∷ xs) e lt h =
      value_there r (j + 1) i k v xs (omega arith) (omega arith) (and_right (r (record { index = j; chunk = x })) _ h)

  -- and what is put in at rising indexes inside the list stands there
  pub values_stay : (t : Piece X → Bool) (is : List ℕ) (vs xs : List X) → all_rising is ≡ true → list_all (λ i. nat_lt i (length xs)) is ≡ true
      → list_all t (from 0 (put_at is vs xs)) ≡ true → list_all t (pieces_at is vs) ≡ true
  values_stay t [] vs xs rise inside h = refl
  values_stay t (i ∷ is) [] xs rise inside h = refl
  values_stay t (i ∷ is) (v ∷ vs) xs rise inside h =
      let lt : i < length xs = ltb-true i (length xs) (and_left (nat_lt i (length xs)) _ inside) in
      let here : (list_any (λ k. k == i) is || t (record { index = i; chunk = v })) ≡ true =
      value_there (λ (p : Piece X). list_any (λ k. k == p.index) is || t p) 0 i i v xs (omega arith) lt (put_or t is vs (set xs i v) h) in
      and_both (t (record { index = i; chunk = v })) _
      (or_second (list_any (λ k. k == i) is) _ here (none_below i is rise))
      (values_stay t is vs (set xs i v) (above_rises i is rise)
      (ap (λ n. list_all (λ k. nat_lt k n) is) (length-set xs i v) ∙ and_right (nat_lt i (length xs)) _ inside) h)

  unmapped_step : (t : Piece X → Bool) (u x : X) (j : ℕ) (b : Bool) → t (record { index = j; chunk = (cond b u x) }) ≡ true
      → (b || t (record { index = j; chunk = x })) ≡ true
  unmapped_step t u x j true e = refl
  unmapped_step t u x j false e = e

  pub unmapped_or : (stamp_of : X → ℕ) (u : X) (t : Piece X → Bool) (ranges : List (ℕ × ℕ)) (j : ℕ) (xs : List X)
      → list_all t (from j (mapped_from (λ i (x : X). cond (is_in_ranges ranges i && not (stamp_of x == 0)) u x) j xs)) ≡ true
      → list_all (λ (p : Piece X). (is_in_ranges ranges p.index && not (stamp_of p.chunk == 0)) || t p) (from j xs) ≡ true
  unmapped_or stamp_of u t ranges j [] e = refl
  unmapped_or stamp_of u t ranges j (x ∷ xs) e =
      and_both ((is_in_ranges ranges j && not (stamp_of x == 0)) || t (record { index = j; chunk = x })) _
      (unmapped_step t u x j (is_in_ranges ranges j && not (stamp_of x == 0))
      (and_left (t (record { index = j; chunk = (cond (is_in_ranges ranges j && not (stamp_of x == 0)) u x) })) _ e))
      (unmapped_or stamp_of u t ranges (j + 1) xs
      (and_right (t (record { index = j; chunk = (cond (is_in_ranges ranges j && not (stamp_of x == 0)) u x) })) _ e))

-- How many numbers pass.

count-cons : (g : ℕ → Bool) (n : ℕ) (ns : List ℕ) → count_by g (n ∷ ns) ≡ cond (g n) 1 0 + count_by g ns
count-cons g n ns = sum_by-cons (λ y. cond (g y) 1 0) n ns

moves_step : (p q f g : Bool) → (f ≡ true → p ≡ false) → (p ≡ false → f ≡ false → q ≡ false) → (f ≡ true → q ≡ true)
    → (g ≡ false → q ≡ false → p ≡ false) → (p ≡ false → g ≡ false)
    → ◌≡◌ {A = ℕ} (cond q 1 0 + cond (g && not q) 1 0) (cond p 1 0 + cond f 1 0)
moves_step true q true g a b c e h = let z : true ≡ false = a refl in cc
moves_step true true false true a b c e h = refl
moves_step true true false false a b c e h = refl
moves_step true false false true a b c e h = refl
moves_step true false false false a b c e h = let z : true ≡ false = e refl refl in cc
moves_step false q f true a b c e h = let z : true ≡ false = h refl in cc
moves_step false true true false a b c e h = refl
moves_step false false true false a b c e h = let z : false ≡ true = c refl in cc
moves_step false true false false a b c e h = let z : true ≡ false = b refl refl in cc
moves_step false false false false a b c e h = refl

-- P passed before, Q after, F is new, and G was taken away
pub count_moves : (P Q F G : ℕ → Bool) → ((n : ℕ) → F n ≡ true → P n ≡ false) → ((n : ℕ) → P n ≡ false → F n ≡ false → Q n ≡ false)
    → ((n : ℕ) → F n ≡ true → Q n ≡ true) → ((n : ℕ) → G n ≡ false → Q n ≡ false → P n ≡ false) → ((n : ℕ) → P n ≡ false → G n ≡ false)
    → (ns : List ℕ) → count_by Q ns + count_by (λ n. G n && not (Q n)) ns ≡ count_by P ns + count_by F ns
count_moves P Q F G fresh old new gone part [] = refl
count_moves P Q F G fresh old new gone part (n ∷ ns) =
    let s = moves_step (P n) (Q n) (F n) (G n) (fresh n) (old n) (new n) (gone n) (part n) in
    let rest = count_moves P Q F G fresh old new gone part ns in
    let a = count-cons P n ns in
    let b = count-cons Q n ns in
    let c = count-cons F n ns in
    let e = count-cons (λ n. G n && not (Q n)) n ns in
    omega (arith, s, rest, a, b, c, e)

-- one more number passes: past it nothing changes
none_more : (p : ℕ) (g : ℕ → Bool) (start count : ℕ) → p < start
    → count_by (λ q. (p == q) || g q) (numbers_from start count) ≡ count_by g (numbers_from start count)
none_more p g start zero e = refl
none_more p g start (suc count) e =
    let rest : count_by (λ q. (p == q) || g q) (numbers_from (start + 1) count) ≡ count_by g (numbers_from (start + 1) count) =
    none_more p g (start + 1) count (omega arith) in
    let apart : (p == start) ≡ false = ne_eqb p start (λ g. omega arith) in
    count-cons (λ q. (p == q) || g q) start (numbers_from (start + 1) count)
    ∙ ap (λ b. cond (b || g start) 1 0 + count_by (λ q. (p == q) || g q) (numbers_from (start + 1) count)) apart
    ∙ ap (λ n. cond (g start) 1 0 + n) rest ∙ sym (count-cons g start (numbers_from (start + 1) count))

one_more : (p : ℕ) (g : ℕ → Bool) → g p ≡ false → (start count : ℕ) → start ≤ p → p < start + count
    → count_by (λ q. (p == q) || g q) (numbers_from start count) ≡ 1 + count_by g (numbers_from start count)
one_more p g new start zero e f = absurd (omega arith)
one_more p g new start (suc count) e f =
    count-cons (λ q. (p == q) || g q) start (numbers_from (start + 1) count)
    ∙ go (p == start) refl (λ e. one_more p g new (start + 1) count e (omega arith))
  where
    go : (b : Bool) → (p == start) ≡ b
        → (start + 1 ≤ p → count_by (λ q. (p == q) || g q) (numbers_from (start + 1) count) ≡ 1 + count_by g (numbers_from (start + 1) count))
        → cond (b || g start) 1 0 + count_by (λ q. (p == q) || g q) (numbers_from (start + 1) count)
        ≡ 1 + count_by g (start ∷ numbers_from (start + 1) count)
    go true is later =
        let same : p ≡ start = eqb-true p start is in
        let none : g start ≡ false = ap g (sym same) ∙ new in
        let rest : count_by (λ q. (p == q) || g q) (numbers_from (start + 1) count) ≡ count_by g (numbers_from (start + 1) count) =
        none_more p g (start + 1) count (omega arith) in
        let c : count_by g (start ∷ numbers_from (start + 1) count) ≡ 0 + count_by g (numbers_from (start + 1) count) =
        count-cons g start (numbers_from (start + 1) count) ∙ ap (λ b. cond b 1 0 + count_by g (numbers_from (start + 1) count)) none in
        omega (arith, rest, c)
    go false is later =
        let apart : p ≡ start → ⊥ = eqb-false p start is in
        let rest : count_by (λ q. (p == q) || g q) (numbers_from (start + 1) count) ≡ 1 + count_by g (numbers_from (start + 1) count) =
        later (omega arith) in
        let c : count_by g (start ∷ numbers_from (start + 1) count) ≡ cond (g start) 1 0 + count_by g (numbers_from (start + 1) count) =
        count-cons g start (numbers_from (start + 1) count) in
        omega (arith, rest, c)

-- New entries name their places, each once.
pub news_named : (is places : List ℕ) (s q : ℕ) → length is ≡ length places
    → is_named (pieces_at is (placed_entries places s)) q ≡ list_any (λ p. p == q) places
news_named [] [] s q e = refl
news_named [] (p ∷ ps) s q e = absurd (omega arith)
news_named (i ∷ is) [] s q e = absurd (omega arith)
news_named (i ∷ is) (p ∷ ps) s q e = ap (λ b. (p == q) || b) (news_named is ps s q (omega arith))

pub places_counted : (pool : ℕ) (places : List ℕ) → all_different places ≡ true → list_all (λ p. nat_lt p pool) places ≡ true
    → count_by (λ q. list_any (λ p. p == q) places) (numbers_from 0 pool) ≡ length places
places_counted pool [] e f = none (numbers_from 0 pool)
  where
    none : (ns : List ℕ) → count_by (λ q. false) ns ≡ 0
    none [] = refl
    none (n ∷ ns) =
        let c : count_by (λ q. false) (n ∷ ns) ≡ 0 + count_by (λ q. false) ns = count-cons (λ q. false) n ns in
        let h : count_by (λ q. false) ns ≡ 0 = none ns in
        omega (arith, c, h)
places_counted pool (p ∷ ps) e f =
    let lt : p < pool = ltb-true p pool (and_left (nat_lt p pool) _ f) in
    let new : list_any (λ m. m == p) ps ≡ false = not-true (list_any (λ m. m == p) ps) (and_left (not (list_any (λ m. m == p) ps)) _ e) in
    let one = one_more p (λ q. list_any (λ p. p == q) ps) new 0 pool (omega arith) (omega arith) in
    let rest : count_by (λ q. list_any (λ p. p == q) ps) (numbers_from 0 pool) ≡ length ps =
    places_counted pool ps (and_right (not (list_any (λ m. m == p) ps)) _ e) (and_right (nat_lt p pool) _ f) in
    omega (arith, one, rest)
