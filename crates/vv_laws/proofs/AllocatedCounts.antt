-- How many chunks of each volume are allocated after an accepted change.
use Rattle.std.proofs.Common.{◌≡◌, ◌≤◌, ◌<◌, ℕ, zero, suc, ◌+◌, ◌==◌, ◌&&◌, not, refl, ap, ◌∙◌, Bool, true, false, cond, List, [], ◌∷◌, ◌++◌, map, length, replicate, set, arith, length-set}
use Rattle.std.specs.Prelude.{nat_lt, sum_by, count_by, slice_index}
use Rattle.std.specs.List.{list_all}
use Rattle.std.proofs.lemmas.List.{get_or-set_other}
use Rattle.std.proofs.lemmas.List.Sums.{sum_by-cons, sum_by-append, sum_by-set}
use Rattle.std.proofs.lemmas.Bool.{ltb-true}
use Rattle.vv_flat.specs.Lists.{put_at, mapped_from, indexes_from, all_above, all_rising}
use Rattle.vv_flat.specs.Chunks.{is_in_ranges}
use Rattle.vv_flat.specs.Space.{allocated_count}
use Rattle.vv_flat.proofs.Shares.{and_left, and_right}
use Rattle.vv_flat.proofs.NewEntries.{above_rises}

-- sums whose items are equal
pub same_sum : {A : Type 0} (r : A → Bool) (f g : A → ℕ) → ((x : A) → r x ≡ true → f x ≡ g x) → (xs : List A) → list_all r xs ≡ true
    → sum_by f xs ≡ sum_by g xs
same_sum r f g h [] e = refl
same_sum r f g h (x ∷ xs) e =
    let z : f x ≡ g x = h x (and_left (r x) (list_all r xs) e) in
    let c : sum_by f (x ∷ xs) ≡ f x + sum_by f xs = sum_by-cons f x xs in
    let b : sum_by g (x ∷ xs) ≡ g x + sum_by g xs = sum_by-cons g x xs in
    let t : sum_by f xs ≡ sum_by g xs = same_sum r f g h xs (and_right (r x) (list_all r xs) e) in
    omega (arith, z, c, b, t)

-- How many chunks are allocated in a list that is edited.

allocated-cons : (x : ℕ) (xs : List ℕ) → allocated_count (x ∷ xs) ≡ cond (not (x == 0)) 1 0 + allocated_count xs
allocated-cons x xs = sum_by-cons (λ s. cond (not (s == 0)) 1 0) x xs

pub allocated-zeros : (n : ℕ) → allocated_count (replicate n 0) ≡ 0
allocated-zeros zero = refl
allocated-zeros (suc n) =
    let c : allocated_count (0 ∷ replicate n 0) ≡ 0 + allocated_count (replicate n 0) = allocated-cons 0 (replicate n 0) in
    let h : allocated_count (replicate n 0) ≡ 0 = allocated-zeros n in
    omega (arith, c, h)

pub allocated-longer : (xs : List ℕ) (n : ℕ) → allocated_count (xs ++ replicate n 0) ≡ allocated_count xs
allocated-longer xs n =
    let a : allocated_count (xs ++ replicate n 0) ≡ allocated_count xs + allocated_count (replicate n 0) =
    sum_by-append (λ s. cond (not (s == 0)) 1 0) xs (replicate n 0) in
    let z : allocated_count (replicate n 0) ≡ 0 = allocated-zeros n in
    omega (arith, a, z)

-- a list some of whose allocated chunks are unmapped
unmaps_step : (i x : ℕ) (is xs ys : List ℕ) (r z : Bool) → (x == 0) ≡ z → allocated_count ys + length is ≡ allocated_count xs
    → allocated_count (cond (r && not z) 0 x ∷ ys) + length (cond (r && not z) (i ∷ is) is) ≡ allocated_count (x ∷ xs)
unmaps_step i x is xs ys true false e h =
    let c : allocated_count (0 ∷ ys) ≡ 0 + allocated_count ys = allocated-cons 0 ys in
    let b : allocated_count (x ∷ xs) ≡ 1 + allocated_count xs = allocated-cons x xs ∙ ap (λ a. cond (not a) 1 0 + allocated_count xs) e in
    omega (arith, c, b, h)
unmaps_step i x is xs ys true true e h =
    let c : allocated_count (x ∷ ys) ≡ cond (not (x == 0)) 1 0 + allocated_count ys = allocated-cons x ys in
    let b : allocated_count (x ∷ xs) ≡ cond (not (x == 0)) 1 0 + allocated_count xs = allocated-cons x xs in
    omega (arith, c, b, h)
unmaps_step i x is xs ys false z e h =
    let c : allocated_count (x ∷ ys) ≡ cond (not (x == 0)) 1 0 + allocated_count ys = allocated-cons x ys in
    let b : allocated_count (x ∷ xs) ≡ cond (not (x == 0)) 1 0 + allocated_count xs = allocated-cons x xs in
    omega (arith, c, b, h)

pub unmaps_exact : (ranges : List (ℕ × ℕ)) (i : ℕ) (xs : List ℕ)
    → allocated_count (mapped_from (λ i x. cond (is_in_ranges ranges i && not (x == 0)) 0 x) i xs)
    + length (indexes_from (λ i s. is_in_ranges ranges i && not (s == 0)) i xs) ≡ allocated_count xs
unmaps_exact ranges i [] = refl
unmaps_exact ranges i (x ∷ xs) =
    unmaps_step i x (indexes_from (λ i s. is_in_ranges ranges i && not (s == 0)) (i + 1) xs) xs
    (mapped_from (λ i x. cond (is_in_ranges ranges i && not (x == 0)) 0 x) (i + 1) xs) (is_in_ranges ranges i) (x == 0) refl (unmaps_exact ranges (i + 1) xs)

-- Chunks put in at rising indexes inside the list: those over unmapped ones are allocated, and zeros over allocated ones
-- unmap them.
bits_step : (g x : Bool) → ◌≡◌ {A = ℕ} (cond (g && not x) 1 0 + cond (not g) 1 0) (cond (not g && x) 1 0 + cond (not x) 1 0)
bits_step true true = refl
bits_step true false = refl
bits_step false true = refl
bits_step false false = refl

module _ {A : Type 0} (f g : A → ℕ) where
  abbrev pub zeros_over : List ℕ → List A → ℕ
  zeros_over xs us = count_by (λ a. (g a == 0) && not (slice_index xs (f a) == 0)) us

  abbrev pub new_over : List ℕ → List A → ℕ
  new_over xs us = count_by (λ a. not (g a == 0) && (slice_index xs (f a) == 0)) us

  other_items : (xs : List ℕ) (i s n : ℕ) (us : List A) → i ≤ n → all_above n (map f us) ≡ true
      → (h : A → ℕ → ℕ) → sum_by (λ a. h a (slice_index (set xs i s) (f a))) us ≡ sum_by (λ a. h a (slice_index xs (f a))) us
  other_items xs i s n [] le e h = refl
  other_items xs i s n (a ∷ us) le e h =
      let lt : n < f a = ltb-true n (f a) (and_left (nat_lt n (f a)) (all_above (f a) (map f us)) e) in
      let same : slice_index (set xs i s) (f a) ≡ slice_index xs (f a) = get_or-set_other xs i (f a) s 0 (λ q. omega arith) in
      let here : h a (slice_index (set xs i s) (f a)) ≡ h a (slice_index xs (f a)) = ap (h a) same in
      let there : sum_by (λ a. h a (slice_index (set xs i s) (f a))) us ≡ sum_by (λ a. h a (slice_index xs (f a))) us =
      other_items xs i s (f a) us (omega arith) (and_right (nat_lt n (f a)) (all_above (f a) (map f us)) e) h in
      let c : sum_by (λ a. h a (slice_index (set xs i s) (f a))) (a ∷ us)
      ≡ h a (slice_index (set xs i s) (f a)) + sum_by (λ a. h a (slice_index (set xs i s) (f a))) us =
      sum_by-cons (λ a. h a (slice_index (set xs i s) (f a))) a us in
      let b : sum_by (λ a. h a (slice_index xs (f a))) (a ∷ us) ≡ h a (slice_index xs (f a)) + sum_by (λ a. h a (slice_index xs (f a))) us =
      sum_by-cons (λ a. h a (slice_index xs (f a))) a us in
      omega (arith, here, there, c, b)

  long_set : (xs : List ℕ) (i s : ℕ) (us : List A) → list_all (λ a. nat_lt (f a) (length xs)) us ≡ true
      → list_all (λ a. nat_lt (f a) (length (set xs i s))) us ≡ true
  long_set xs i s us e = ap (λ n. list_all (λ a. nat_lt (f a) n) us) (length-set xs i s) ∙ e

  pub put_exact : (us : List A) (xs : List ℕ) → all_rising (map f us) ≡ true → list_all (λ a. nat_lt (f a) (length xs)) us ≡ true
      → allocated_count (put_at (map f us) (map g us) xs) + zeros_over xs us ≡ allocated_count xs + new_over xs us
  put_exact [] xs rise inside = refl
  put_exact (a ∷ us) xs rise inside =
      let ys : List ℕ = set xs (f a) (g a) in
      let lt : f a < length xs = ltb-true (f a) (length xs) (and_left (nat_lt (f a) (length xs)) _ inside) in
      let one : allocated_count ys + cond (not (slice_index xs (f a) == 0)) 1 0 ≡ allocated_count xs + cond (not (g a == 0)) 1 0 =
      sum_by-set (λ s. cond (not (s == 0)) 1 0) xs (f a) (g a) 0 lt in
      let rest : allocated_count (put_at (map f us) (map g us) ys) + zeros_over ys us ≡ allocated_count ys + new_over ys us =
      put_exact us ys (above_rises (f a) (map f us) rise)
      (long_set xs (f a) (g a) us (and_right (nat_lt (f a) (length xs)) _ inside)) in
      let zs : zeros_over ys us ≡ zeros_over xs us =
      other_items xs (f a) (g a) (f a) us (omega arith) rise (λ b x. cond ((g b == 0) && not (x == 0)) 1 0) in
      let ns : new_over ys us ≡ new_over xs us =
      other_items xs (f a) (g a) (f a) us (omega arith) rise (λ b x. cond (not (g b == 0) && (x == 0)) 1 0) in
      let c : zeros_over xs (a ∷ us) ≡ cond ((g a == 0) && not (slice_index xs (f a) == 0)) 1 0 + zeros_over xs us =
      sum_by-cons (λ b. cond ((g b == 0) && not (slice_index xs (f b) == 0)) 1 0) a us in
      let b : new_over xs (a ∷ us) ≡ cond (not (g a == 0) && (slice_index xs (f a) == 0)) 1 0 + new_over xs us =
      sum_by-cons (λ b. cond (not (g b == 0) && (slice_index xs (f b) == 0)) 1 0) a us in
      let s : cond ((g a == 0) && not (slice_index xs (f a) == 0)) 1 0 + cond (not (g a == 0)) 1 0
      ≡ cond (not (g a == 0) && (slice_index xs (f a) == 0)) 1 0 + cond (not (slice_index xs (f a) == 0)) 1 0 =
      bits_step (g a == 0) (slice_index xs (f a) == 0) in
      omega (arith, one, rest, zs, ns, c, b, s)
