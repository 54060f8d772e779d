-- Chunks that are unmapped one after another, and how many of a volume are allocated then.
use Rattle.std.proofs.Common.{ℕ, zero, suc, ◌≡◌, ◌+◌, ◌≤◌, ◌<◌, ◌==◌, ◌&&◌, ◌||◌, not, Bool, true, false, cond, List, [], ◌∷◌, length, get_or, set, Some, slice_get, refl, sym, ap, ◌∙◌, arith}
use Rattle.std.specs.Prelude.{IsSome, nat_le, nat_lt}
use Rattle.std.proofs.lemmas.Bool.{eq-eqb, ne_eqb}
use Rattle.std.proofs.lemmas.Bool.Decides.{nat_tests}
use Rattle.std.proofs.lemmas.List.Sums.{sum_by-set}
use Rattle.vv_flat.specs.Lists.{mapped_from}
use Rattle.vv_flat.specs.State.{Volume}
use Rattle.vv_flat.specs.Chunks.{Entry, unmapped_entry, is_in_ranges, unmapped_in}
use Rattle.vv_laws.proofs.WellFormed.{same_test}
use Rattle.vv_vols.specs.Shelf.{ShelfState, volume_in, size_in, chunks_in, allocated_of}
use Rattle.vv_vols.specs.Calls.{with_entry}
use Rattle.vv_vols.proofs.TakenPlaces.{changed_stands}
use Rattle.vv_tables.specs.Unmapping.{with_unmapped}
use Rattle.vv_tables.proofs.ChangedChunks.{chunks_twice, same_chunks, chunks_changed, chunks_alike, size_of_chunks}

-- the allocated chunks at indexes that pass a test are unmapped, from an index on
abbrev unmapped_by : (ℕ → Bool) → ℕ → List Entry → List Entry
unmapped_by p j xs = mapped_from (λ i (x : Entry). cond (p i && not (x.stamp == 0)) unmapped_entry x) j xs

same_tests : (p q : ℕ → Bool) → ((k : ℕ) → p k ≡ q k) → (j : ℕ) (xs : List Entry) → unmapped_by p j xs ≡ unmapped_by q j xs
same_tests p q same j [] = refl
same_tests p q same j (x ∷ xs) =
    ap (λ b. cond (b && not (x.stamp == 0)) unmapped_entry x ∷ unmapped_by p (j + 1) xs) (same j)
    ∙ ap (λ ys. cond (q j && not (x.stamp == 0)) unmapped_entry x ∷ ys) (same_tests p q same (j + 1) xs)

-- none passes
none_passes : (p : ℕ → Bool) (j : ℕ) (xs : List Entry) → ((k : ℕ) → j ≤ k → p k ≡ false) → unmapped_by p j xs ≡ xs
none_passes p j [] none = refl
none_passes p j (x ∷ xs) none =
    ap (λ b. cond (b && not (x.stamp == 0)) unmapped_entry x ∷ unmapped_by p (j + 1) xs) (none j (omega arith))
    ∙ ap (λ ys. x ∷ ys) (none_passes p (j + 1) xs (λ k le. none k (omega arith)))

-- one test after another
both_step : (x : Entry) (p q a : Bool) → (x.stamp == 0) ≡ a
    → (let y : Entry = cond (p && not a) unmapped_entry x in cond (q && not (y.stamp == 0)) unmapped_entry y) ≡ cond ((p || q) && not a) unmapped_entry x
both_step x true true true e = ap (λ b. cond (not b) unmapped_entry x) e
both_step x true false true e = refl
both_step x false true true e = ap (λ b. cond (not b) unmapped_entry x) e
both_step x false false true e = refl
both_step x true true false e = refl
both_step x true false false e = refl
both_step x false true false e = ap (λ b. cond (not b) unmapped_entry x) e
both_step x false false false e = refl

both_tests : (p q : ℕ → Bool) (j : ℕ) (xs : List Entry) → unmapped_by q j (unmapped_by p j xs) ≡ unmapped_by (λ k. p k || q k) j xs
both_tests p q j [] = refl
both_tests p q j (x ∷ xs) =
    ap (λ (y : Entry). y ∷ unmapped_by q (j + 1) (unmapped_by p (j + 1) xs)) (both_step x (p j) (q j) (x.stamp == 0) refl)
    ∙ ap (λ ys. cond ((p j || q j) && not (x.stamp == 0)) unmapped_entry x ∷ ys) (both_tests p q (j + 1) xs)

-- ---- ranges
one_index : (i k : ℕ) → is_in_ranges ((i, 1) ∷ []) k ≡ (i == k)
one_index i k = same_test (is_in_ranges ((i, 1) ∷ []) k) (i == k) (λ e. grind (arith, nat_tests)) (λ e. grind (arith, nat_tests))

no_index : (i k : ℕ) → is_in_ranges ((i, 0) ∷ []) k ≡ false
no_index i k = same_test (is_in_ranges ((i, 0) ∷ []) k) false (λ e. grind (arith, nat_tests)) (λ e. absurd (cc))

first_index : (i n k : ℕ) → (is_in_ranges ((i, 1) ∷ []) k || is_in_ranges ((i + 1, n) ∷ []) k) ≡ is_in_ranges ((i, n + 1) ∷ []) k
first_index i n k =
    same_test (is_in_ranges ((i, 1) ∷ []) k || is_in_ranges ((i + 1, n) ∷ []) k) (is_in_ranges ((i, n + 1) ∷ []) k) (λ e. grind (arith, nat_tests)) (λ e. grind (arith, nat_tests))

first_range : (r : ℕ × ℕ) (rs : List (ℕ × ℕ)) (k : ℕ) → (is_in_ranges (r ∷ []) k || is_in_ranges rs k) ≡ is_in_ranges (r ∷ rs) k
first_range r rs k = go (nat_le r.0 k && nat_lt k (r.0 + r.1)) (is_in_ranges rs k)
  where
    go : (a b : Bool) → ((a || false) || b) ≡ (a || b)
    go true b = refl
    go false b = refl

module _ (s : ShelfState) (n : ℕ) where
  -- the first chunk of a range, and then the others
  pub unmap_first : (i count : ℕ) → with_unmapped (with_unmapped s n ((i, 1) ∷ [])) n ((i + 1, count) ∷ []) ≡ with_unmapped s n ((i, count + 1) ∷ [])
  unmap_first i count =
      chunks_twice n (unmapped_in (λ (e : Entry). e.stamp) unmapped_entry ((i, 1) ∷ [])) (unmapped_in (λ (e : Entry). e.stamp) unmapped_entry ((i + 1, count) ∷ []))
      (unmapped_in (λ (e : Entry). e.stamp) unmapped_entry ((i, count + 1) ∷ []))
      (λ chunks. both_tests (is_in_ranges ((i, 1) ∷ [])) (is_in_ranges ((i + 1, count) ∷ [])) 0 chunks
      ∙ same_tests (λ k. is_in_ranges ((i, 1) ∷ []) k || is_in_ranges ((i + 1, count) ∷ []) k) (is_in_ranges ((i, count + 1) ∷ [])) (first_index i count) 0 chunks) s

  -- the first range, and then the others
  pub unmap_more : (r : ℕ × ℕ) (rs : List (ℕ × ℕ)) → with_unmapped (with_unmapped s n (r ∷ [])) n rs ≡ with_unmapped s n (r ∷ rs)
  unmap_more r rs =
      chunks_twice n (unmapped_in (λ (e : Entry). e.stamp) unmapped_entry (r ∷ [])) (unmapped_in (λ (e : Entry). e.stamp) unmapped_entry rs)
      (unmapped_in (λ (e : Entry). e.stamp) unmapped_entry (r ∷ rs))
      (λ chunks. both_tests (is_in_ranges (r ∷ [])) (is_in_ranges rs) 0 chunks
      ∙ same_tests (λ k. is_in_ranges (r ∷ []) k || is_in_ranges rs k) (is_in_ranges (r ∷ rs)) (first_range r rs) 0 chunks) s

  -- none
  pub unmap_empty : (i : ℕ) → with_unmapped s n ((i, 0) ∷ []) ≡ s
  unmap_empty i =
      chunks_alike s n (unmapped_in (λ (e : Entry). e.stamp) unmapped_entry ((i, 0) ∷ [])) (λ chunks. chunks)
      (none_passes (is_in_ranges ((i, 0) ∷ [])) 0 (chunks_in s n) (λ k le. no_index i k))
      ∙ same_chunks s n

  pub unmap_none : with_unmapped s n [] ≡ s
  unmap_none =
      chunks_alike s n (unmapped_in (λ (e : Entry). e.stamp) unmapped_entry []) (λ chunks. chunks)
      (none_passes (is_in_ranges []) 0 (chunks_in s n) (λ k le. refl))
      ∙ same_chunks s n

  -- the volume still stands, as long as before
  pub unmapped_stands : (rs : List (ℕ × ℕ)) → IsSome (volume_in s n) → IsSome (volume_in (with_unmapped s n rs) n)
  unmapped_stands rs some = changed_stands n (λ (v : Volume Entry). record v { chunks = unmapped_in (λ (e : Entry). e.stamp) unmapped_entry rs v.chunks }) s.volumes (λ v. refl) some

  pub unmapped_size : (rs : List (ℕ × ℕ)) → size_in (with_unmapped s n rs) n ≡ size_in s n
  unmapped_size rs =
      size_of_chunks (with_unmapped s n rs) n
      ∙ ap (λ (es : List Entry). length es) (chunks_changed s n (unmapped_in (λ (e : Entry). e.stamp) unmapped_entry rs) refl)
      ∙ as_long (is_in_ranges rs) 0 (chunks_in s n) ∙ sym (size_of_chunks s n)
    where
      as_long : (p : ℕ → Bool) (j : ℕ) (xs : List Entry) → length (unmapped_by p j xs) ≡ length xs
      as_long p j [] = refl
      as_long p j (x ∷ xs) = ap suc (as_long p (j + 1) xs)

-- ---- one chunk
only : (i j : ℕ) (xs : List Entry) → unmapped_by (is_in_ranges ((i, 1) ∷ [])) j xs ≡ unmapped_by (λ k. i == k) j xs
only i j xs = same_tests (is_in_ranges ((i, 1) ∷ [])) (λ k. i == k) (one_index i) j xs

set_one : (i k j : ℕ) (xs : List Entry) (e : Entry) → j + i ≡ k → slice_get xs i ≡ Some e → (e.stamp == 0) ≡ false → set xs i unmapped_entry ≡ unmapped_by (λ m. k == m) j xs
set_one i k j [] e is there some = absurd (cc)
set_one zero k j (x ∷ xs) e is there some =
    let same : x ≡ e = cc in
    let index : k ≡ j = omega arith in
    ap (λ ys. unmapped_entry ∷ ys) (sym (none_passes (λ m. k == m) (j + 1) xs (λ m le. ne_eqb k m (λ f. absurd (omega arith)))))
    ∙ ap (λ b. cond (b && true) unmapped_entry x ∷ unmapped_by (λ m. k == m) (j + 1) xs) (sym (eq-eqb k j index))
    ∙ ap (λ b. cond ((k == j) && not b) unmapped_entry x ∷ unmapped_by (λ m. k == m) (j + 1) xs) (sym (ap (λ (y : Entry). y.stamp == 0) same ∙ some))
set_one (suc i) k j (x ∷ xs) e is there some =
    ap (λ b. cond (b && not (x.stamp == 0)) unmapped_entry x ∷ set xs i unmapped_entry) (sym (ne_eqb k j (λ f. absurd (omega arith))))
    ∙ ap (λ ys. cond ((k == j) && not (x.stamp == 0)) unmapped_entry x ∷ ys) (set_one i k (j + 1) xs e (omega arith) there some)

skip_one : (i k j : ℕ) (xs : List Entry) (e : Entry) → j + i ≡ k → slice_get xs i ≡ Some e → (e.stamp == 0) ≡ true → unmapped_by (λ m. k == m) j xs ≡ xs
skip_one i k j [] e is there none = refl
skip_one zero k j (x ∷ xs) e is there none =
    let same : x ≡ e = cc in
    let at : (x.stamp == 0) ≡ true = ap (λ (y : Entry). y.stamp == 0) same ∙ none in
    ap (λ ys. cond ((k == j) && not (x.stamp == 0)) unmapped_entry x ∷ ys) (none_passes (λ m. k == m) (j + 1) xs (λ m le. ne_eqb k m (λ f. absurd (omega arith))))
    ∙ ap (λ b. cond ((k == j) && not b) unmapped_entry x ∷ xs) at ∙ ap (λ y. y ∷ xs) (never (k == j))
  where
    never : (b : Bool) → cond (b && false) unmapped_entry x ≡ x
    never true = refl
    never false = refl
skip_one (suc i) k j (x ∷ xs) e is there none =
    ap (λ b. cond (b && not (x.stamp == 0)) unmapped_entry x ∷ unmapped_by (λ m. k == m) (j + 1) xs) (ne_eqb k j (λ f. absurd (omega arith)))
    ∙ ap (λ ys. x ∷ ys) (skip_one i k (j + 1) xs e (omega arith) there none)

module _ (s : ShelfState) (n i : ℕ) (e : Entry) (there : slice_get (chunks_in s n) i ≡ Some e) where
  -- an allocated one
  pub unmap_one : (e.stamp == 0) ≡ false → with_entry s n i unmapped_entry ≡ with_unmapped s n ((i, 1) ∷ [])
  unmap_one some =
      chunks_alike s n (λ chunks. set chunks i unmapped_entry) (unmapped_in (λ (x : Entry). x.stamp) unmapped_entry ((i, 1) ∷ []))
      (set_one i i 0 (chunks_in s n) e (omega arith) there some ∙ sym (only i 0 (chunks_in s n)))

  -- one that isn't
  pub unmap_no : (e.stamp == 0) ≡ true → s ≡ with_unmapped s n ((i, 1) ∷ [])
  unmap_no none =
      sym (same_chunks s n)
      ∙ chunks_alike s n (λ chunks. chunks) (unmapped_in (λ (x : Entry). x.stamp) unmapped_entry ((i, 1) ∷ []))
      (sym (only i 0 (chunks_in s n) ∙ skip_one i i 0 (chunks_in s n) e (omega arith) there none))

  -- one less is allocated
  pub one_fewer : (e.stamp == 0) ≡ false → allocated_of (chunks_in (with_entry s n i unmapped_entry) n) + 1 ≡ allocated_of (chunks_in s n)
  one_fewer some =
      let is : allocated_of (chunks_in (with_entry s n i unmapped_entry) n) ≡ allocated_of (set (chunks_in s n) i unmapped_entry) =
      ap allocated_of (chunks_changed s n (λ chunks. set chunks i unmapped_entry) refl) in
      let at : get_or (chunks_in s n) i e ≡ e = there_is (chunks_in s n) i there in
      let edit : allocated_of (set (chunks_in s n) i unmapped_entry) + cond (not ((get_or (chunks_in s n) i e).stamp == 0)) 1 0 ≡ allocated_of (chunks_in s n) + 0 =
      sum_by-set (λ (x : Entry). cond (not (x.stamp == 0)) 1 0) (chunks_in s n) i unmapped_entry e (there_within (chunks_in s n) i there) in
      let one : ◌≡◌ {A = ℕ} (cond (not ((get_or (chunks_in s n) i e).stamp == 0)) 1 0) 1 = ap (λ (x : Entry). cond (not (x.stamp == 0)) 1 0) at ∙ ap (λ b. cond (not b) 1 0) some in
      omega (arith, is, edit, one)
    where
      there_is : (xs : List Entry) (k : ℕ) → slice_get xs k ≡ Some e → get_or xs k e ≡ e
      there_is [] k f = refl
      there_is (x ∷ xs) zero f = cc
      there_is (x ∷ xs) (suc k) f = there_is xs k f

      there_within : (xs : List Entry) (k : ℕ) → slice_get xs k ≡ Some e → k < length xs
      there_within [] k f = absurd (cc)
      there_within (x ∷ xs) zero f = omega arith
      there_within (x ∷ xs) (suc k) f = let rest = there_within xs k f in omega arith
