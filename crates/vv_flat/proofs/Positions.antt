-- Lists edited at the first item that passes a test, and that item, by its place: for tables whose rows are found by
-- `position`.
use Rattle.std.proofs.Common.{◌≡◌, ℕ, zero, suc, ◌+◌, ◌<◌, ◌≤◌, not, refl, ap, sym, ◌∙◌, Bool, true, false, cond, List, [], ◌∷◌, length, set, get_or, arith}
use Rattle.std.proofs.Common.{zero-add}
use Rattle.std.proofs.lemmas.Option.{slice_get-get_or}
use Rattle.std.specs.Prelude.{is_some, count_by, filter, slice_get, Option, Some, None, unwrap_or, nat_lt}
use Rattle.std.proofs.lemmas.List.Folds.{find_at}
use Rattle.std.proofs.lemmas.List.Sums.{sum_by-cons, prefix_len-le-length, prefix_len_stops}
use Rattle.std.specs.List.{find, position, position_or_len, insert, remove}
use Rattle.std.proofs.lemmas.Bool.Decides.{nat_tests}
use Rattle.vv_flat.specs.Lists.{first_changed, put_before, first_removed}

module _ {A : Type 0} (p : A → Bool) where
  changed_head : (f : A → A) (x d : A) (xs : List A) (b : Bool) (n : ℕ) → first_changed p f xs ≡ set xs n (f (get_or xs n d))
      → cond b (f x ∷ xs) (x ∷ first_changed p f xs) ≡ set (x ∷ xs) (cond (not b) (1 + n) 0) (f (get_or (x ∷ xs) (cond (not b) (1 + n) 0) d))
  changed_head f x d xs true n h = refl
  changed_head f x d xs false n h = let e : 1 + n ≡ suc n = omega arith in rw e (ap (λ ys. x ∷ ys) h)

  -- a change at the first place
  pub changed_at : (f : A → A) (xs : List A) (d : A) → first_changed p f xs ≡ set xs (position_or_len p xs) (f (get_or xs (position_or_len p xs) d))
  changed_at f [] d = refl
  changed_at f (x ∷ xs) d = changed_head f x d xs (p x) (position_or_len p xs) (changed_at f xs d)

  put_head : (x y : A) (ys : List A) (b : Bool) (n : ℕ) → put_before p x ys ≡ insert ys n x
      → cond b (x ∷ y ∷ ys) (y ∷ put_before p x ys) ≡ insert (y ∷ ys) (cond (not b) (1 + n) 0) x
  put_head x y ys true n h = refl
  put_head x y ys false n h = let e : 1 + n ≡ suc n = omega arith in rw e (ap (λ zs. y ∷ zs) h)

  pub put_at_first : (x : A) (xs : List A) → put_before p x xs ≡ insert xs (position_or_len p xs) x
  put_at_first x [] = refl
  put_at_first x (y ∷ ys) = put_head x y ys (p y) (position_or_len p ys) (put_at_first x ys)

  removed_head : (x : A) (xs : List A) (b : Bool) (n : ℕ) → first_removed p xs ≡ remove xs n
      → cond b xs (x ∷ first_removed p xs) ≡ remove (x ∷ xs) (cond (not b) (1 + n) 0)
  removed_head x xs true n h = refl
  removed_head x xs false n h = let e : 1 + n ≡ suc n = omega arith in rw e (ap (λ ys. x ∷ ys) h)

  pub removed_at : (xs : List A) → first_removed p xs ≡ remove xs (position_or_len p xs)
  removed_at [] = refl
  removed_at (x ∷ xs) = removed_head x xs (p x) (position_or_len p xs) (removed_at xs)

  length_put : (x y : A) (ys : List A) (b : Bool) → length (put_before p x ys) ≡ length ys + 1
      → length (cond b (x ∷ y ∷ ys) (y ∷ put_before p x ys)) ≡ length (y ∷ ys) + 1
  length_put x y ys true h = omega arith
  length_put x y ys false h = omega arith

  pub length-put_before : (x : A) (xs : List A) → length (put_before p x xs) ≡ length xs + 1
  length-put_before x [] = refl
  length-put_before x (y ∷ ys) = length_put x y ys (p y) (length-put_before x ys)

  position_case : (n m : ℕ) → n ≤ m → unwrap_or (cond (nat_lt n m) (Some n) None) m ≡ n
  position_case n m h = grind (arith, nat_tests)

  some_case : (n m i : ℕ) → cond (nat_lt n m) (Some n) None ≡ Some i → (n ≡ i) × (n < m)
  some_case n m i h = grind (arith, nat_tests)

  none_case : (n m : ℕ) → cond (nat_lt n m) (Some n) None ≡ None → m ≤ n
  none_case n m h = grind (arith, nat_tests)

  pub place-le-length : (xs : List A) → position_or_len p xs ≤ length xs
  place-le-length xs = prefix_len-le-length (λ x. not (p x)) xs

  -- the first place, or the length
  pub position_or : (xs : List A) → unwrap_or (position p xs) (length xs) ≡ position_or_len p xs
  position_or xs = position_case (position_or_len p xs) (length xs) (prefix_len-le-length (λ x. not (p x)) xs)

  pub position_some : (xs : List A) (i : ℕ) → position p xs ≡ Some i → (position_or_len p xs ≡ i) × (position_or_len p xs < length xs)
  position_some xs i h = some_case (position_or_len p xs) (length xs) i h

  pub position_none : (xs : List A) → position p xs ≡ None → length xs ≤ position_or_len p xs
  position_none xs h = none_case (position_or_len p xs) (length xs) h

  slice_get_past : (xs : List A) (i : ℕ) → length xs ≤ i → slice_get xs i ≡ None
  slice_get_past [] i h = refl
  slice_get_past (x ∷ xs) zero h = absurd (omega arith)
  slice_get_past (x ∷ xs) (suc i) h = slice_get_past xs i (omega arith)

  pub found_at : (xs : List A) (i : ℕ) (d : A) → position p xs ≡ Some i → find p xs ≡ Some (get_or xs i d)
  found_at xs i d h =
      let f = position_some xs i h in
      let e : find p xs ≡ slice_get xs i = find_at p xs ∙ ap (λ n. slice_get xs n) f.0 in
      let b : i < length xs = omega arith in
      e ∙ slice_get-get_or xs i d b

  -- the item that is found
  pub found_is : (xs : List A) (i : ℕ) (x : A) → position p xs ≡ Some i → x ≡ get_or xs i x → find p xs ≡ Some x
  found_is xs i x h e = found_at xs i x h ∙ ap (λ y. Some y) (sym e)

  some_same : (x y : A) → Some x ≡ Some y → x ≡ y
  some_same x y h = cc

  pub found_same : (xs : List A) (i : ℕ) (x y : A) → position p xs ≡ Some i → x ≡ get_or xs i x → y ≡ get_or xs i y → x ≡ y
  found_same xs i x y h e f = some_same x y (sym (found_is xs i x h e) ∙ found_is xs i y h f)

  pub not_found : (xs : List A) → position p xs ≡ None → find p xs ≡ None
  not_found xs h = find_at p xs ∙ slice_get_past xs (position_or_len p xs) (position_none xs h)

  passes_true : (b : Bool) → not b ≡ false → b ≡ true
  passes_true true h = refl
  passes_true false h = absurd (cc)

  pub found_passes : (xs : List A) (i : ℕ) (x : A) → position p xs ≡ Some i → x ≡ get_or xs i x → p x ≡ true
  found_passes xs i x h e =
      let f = position_some xs i h in
      let s : not (p (get_or xs (position_or_len p xs) x)) ≡ false = prefix_len_stops (λ y. not (p y)) xs x f.1 in
      let t : not (p x) ≡ false = ap (λ y. not (p y)) e ∙ ap (λ n. not (p (get_or xs n x))) (sym f.0) ∙ s in
      passes_true (p x) t

  pub changed_step : (f : A → A) (xs : List A) (i : ℕ) (x y : A) → position p xs ≡ Some i → x ≡ get_or xs i x → y ≡ f x
      → set xs i y ≡ first_changed p f xs
  changed_step f xs i x y h e g =
      let place = position_some xs i h in
      let at : f (get_or xs (position_or_len p xs) x) ≡ f x = ap (λ n. f (get_or xs n x)) place.0 ∙ ap f (sym e) in
      sym (changed_at f xs x ∙ ap (λ n. set xs n (f (get_or xs (position_or_len p xs) x))) place.0 ∙ ap (λ z. set xs i z) (at ∙ sym g))

  pub removed_step : (xs : List A) (i : ℕ) → position p xs ≡ Some i → remove xs i ≡ first_removed p xs
  removed_step xs i h = sym (removed_at xs ∙ ap (λ n. remove xs n) ((position_some xs i h).0))

  -- what stays does not change, and the first one counts one
  removed_rest : (x : A) (xs : List A) (b : Bool) → p x ≡ b → filter (λ y. not (p y)) (first_removed p xs) ≡ filter (λ y. not (p y)) xs
      → filter (λ y. not (p y)) (cond b xs (x ∷ first_removed p xs)) ≡ cond (not b) (x ∷ filter (λ y. not (p y)) xs) (filter (λ y. not (p y)) xs)
  removed_rest x xs true is h = refl
  removed_rest x xs false is h = rw is (ap (λ ys. x ∷ ys) h)

  pub filter-removed : (xs : List A) → filter (λ y. not (p y)) (first_removed p xs) ≡ filter (λ y. not (p y)) xs
  filter-removed [] = refl
  filter-removed (x ∷ xs) = removed_rest x xs (p x) refl (filter-removed xs)

  count_cons : (x : A) (xs : List A) → count_by p (x ∷ xs) ≡ cond (p x) 1 0 + count_by p xs
  count_cons x xs = sum_by-cons (λ y. cond (p y) 1 0) x xs

  count_rest : (x : A) (xs : List A) (b : Bool) → p x ≡ b → is_some (cond b (Some x) (find p xs)) ≡ true
      → (is_some (find p xs) ≡ true → count_by p (first_removed p xs) + 1 ≡ count_by p xs)
      → count_by p (cond b xs (x ∷ first_removed p xs)) + 1 ≡ cond b 1 0 + count_by p xs
  count_rest x xs true is h k = omega arith
  count_rest x xs false is h k =
      let e : count_by p (first_removed p xs) + 1 ≡ count_by p xs = k h in
      let f : count_by p (x ∷ first_removed p xs) ≡ count_by p (first_removed p xs) = count_cons x (first_removed p xs) ∙ ap (λ b. cond b 1 0 + count_by p (first_removed p xs)) is ∙ zero-add (count_by p (first_removed p xs)) in
      omega arith

  pub count-removed : (xs : List A) → is_some (find p xs) ≡ true → count_by p (first_removed p xs) + 1 ≡ count_by p xs
  count-removed [] h = absurd (cc)
  count-removed (x ∷ xs) h = count_rest x xs (p x) refl h (count-removed xs) ∙ sym (count_cons x xs)

  length_rest : (x : A) (xs : List A) (b : Bool) → is_some (cond b (Some x) (find p xs)) ≡ true
      → (is_some (find p xs) ≡ true → length (first_removed p xs) + 1 ≡ length xs)
      → length (cond b xs (x ∷ first_removed p xs)) + 1 ≡ length (x ∷ xs)
  length_rest x xs true h k = omega arith
  length_rest x xs false h k = let e : length (first_removed p xs) + 1 ≡ length xs = k h in omega arith

  pub length-removed : (xs : List A) → is_some (find p xs) ≡ true → length (first_removed p xs) + 1 ≡ length xs
  length-removed [] h = absurd (cc)
  length-removed (x ∷ xs) h = length_rest x xs (p x) h (length-removed xs)

  none_stays : (x : A) (xs : List A) (b : Bool) → cond b (Some x) (find p xs) ≡ None → (find p xs ≡ None → filter (λ y. not (p y)) xs ≡ xs)
      → cond (not b) (x ∷ filter (λ y. not (p y)) xs) (filter (λ y. not (p y)) xs) ≡ x ∷ xs
  none_stays x xs true h k = absurd (cc)
  none_stays x xs false h k = ap (λ ys. x ∷ ys) (k h)

  pub filter-none : (xs : List A) → find p xs ≡ None → filter (λ y. not (p y)) xs ≡ xs
  filter-none [] h = refl
  filter-none (x ∷ xs) h = none_stays x xs (p x) h (filter-none xs)

  none_counts : (x : A) (xs : List A) (b : Bool) → cond b (Some x) (find p xs) ≡ None → (find p xs ≡ None → count_by p xs ≡ 0)
      → cond b 1 0 + count_by p xs ≡ 0
  none_counts x xs true h k = absurd (cc)
  none_counts x xs false h k = let e : count_by p xs ≡ 0 = k h in omega arith

  pub count-none : (xs : List A) → find p xs ≡ None → count_by p xs ≡ 0
  count-none [] h = refl
  count-none (x ∷ xs) h = count_cons x xs ∙ none_counts x xs (p x) h (count-none xs)

pub is_some_at : {A : Type 0} (p : A → Bool) (xs : List A) (r : Option ℕ) → r ≡ position p xs → is_some r ≡ true → is_some (find p xs) ≡ true
is_some_at p xs None e h = absurd (cc)
is_some_at p xs (Some i) e h =
    elim xs as (λ ys. position p ys ≡ Some i → is_some (find p ys) ≡ true) [ [] ↦ λ f. absurd (cc) | y ∷ ys ↦ λ f. rw (found_at p (y ∷ ys) i y f) refl ] (sym e)

pub none_at : {A : Type 0} (p : A → Bool) (xs : List A) (r : Option ℕ) → r ≡ position p xs → is_some r ≡ false → find p xs ≡ None
none_at p xs None e h = not_found p xs (sym e)
none_at p xs (Some i) e h = absurd (cc)
