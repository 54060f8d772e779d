-- UNMAP range by range, and chunks by their numbers.
use Rattle.std.proofs.Common.{ℕ, zero, suc, ◌≡◌, ◌+◌, ◌-◌, ◌<◌, ◌≤◌, ◌==◌, ◌||◌, ◌&&◌, Bool, true, false, not, cond, List, [], ◌∷◌, length, count_by, refl, sym, ap, ◌∙◌, arith, min}
use Rattle.std.specs.Prelude.{nat_le, nat_lt, slice_index}
use Rattle.std.specs.List.{list_any}
use Rattle.std.proofs.lemmas.List.Sums.{sum_by-cons}
use Rattle.std.proofs.lemmas.Bool.Decides.{nat_tests}
use Rattle.std.proofs.lemmas.Bool.{ne_eqb, eq-eqb}
use Rattle.vv_flat.specs.Lists.{numbers_from, any_from}
use Rattle.vv_flat.specs.Chunks.{is_in_ranges, unmaps_any, touched_indexes}
use Rattle.vv_units.specs.Sizes.{first_touched, touched_count}
use Rattle.vv_record.specs.declared.record.ChunkRange.{ChunkRange}
use Rattle.vv_judge.specs.Blocks.{range_pairs, is_past, unmaps_some}

pub any_range_past : (size : ℕ) (ranges : List ChunkRange) → list_any (λ (r : ℕ × ℕ). nat_lt size (r.0 + r.1)) (range_pairs ranges) ≡ list_any (is_past size) ranges
any_range_past size [] = refl
any_range_past size (r ∷ rs) = ap (λ b. is_past size r || b) (any_range_past size rs)

-- ---- numbers in a row
pub numbers_step : (i e : ℕ) → i < e → numbers_from i (e - i) ≡ i ∷ numbers_from (i + 1) (e - (i + 1))
numbers_step i e h = let s : e - i ≡ suc (e - (i + 1)) = omega arith in ap (numbers_from i) s

pub numbers_end : (i e : ℕ) → e ≤ i → numbers_from i (e - i) ≡ []
numbers_end i e h = let s : e - i ≡ 0 = omega arith in ap (numbers_from i) s

pub count_step : (p : ℕ → Bool) (i e : ℕ) → i < e
    → count_by p (numbers_from i (e - i)) ≡ cond (p i) 1 0 + count_by p (numbers_from (i + 1) (e - (i + 1)))
count_step p i e h = ap (count_by p) (numbers_step i e h) ∙ sum_by-cons (λ x. cond (p x) 1 0) i (numbers_from (i + 1) (e - (i + 1)))

pub count_end : (p : ℕ → Bool) (i e : ℕ) → e ≤ i → count_by p (numbers_from i (e - i)) ≡ 0
count_end p i e h = ap (count_by p) (numbers_end i e h)

-- whether a chunk is unmapped
abbrev pub is_unmapped : List ℕ → ℕ → Bool
is_unmapped stamps i = slice_index stamps i == 0

-- ---- tests of items at their indexes
any_same : (f g : ℕ → ℕ → Bool) → ((i s : ℕ) → f i s ≡ g i s) → (k : ℕ) (xs : List ℕ) → any_from f k xs ≡ any_from g k xs
any_same f g same k [] = refl
any_same f g same k (x ∷ xs) = ap (λ b. b || any_from f (k + 1) xs) (same k x) ∙ ap (λ b. g k x || b) (any_same f g same (k + 1) xs)

any_none : (f : ℕ → ℕ → Bool) → ((i s : ℕ) → f i s ≡ false) → (k : ℕ) (xs : List ℕ) → any_from f k xs ≡ false
any_none f none k [] = refl
any_none f none k (x ∷ xs) = ap (λ b. b || any_from f (k + 1) xs) (none k x) ∙ any_none f none (k + 1) xs

four : (a b c d : Bool) → ((a || b) || (c || d)) ≡ ((a || c) || (b || d))
four true b c d = refl
four false true true d = refl
four false true false d = refl
four false false c d = refl

any_or : (f g : ℕ → ℕ → Bool) (k : ℕ) (xs : List ℕ) → any_from (λ i s. f i s || g i s) k xs ≡ (any_from f k xs || any_from g k xs)
any_or f g k [] = refl
any_or f g k (x ∷ xs) =
    ap (λ b. (f k x || g k x) || b) (any_or f g (k + 1) xs) ∙ four (f k x) (g k x) (any_from f (k + 1) xs) (any_from g (k + 1) xs)

or_and : (a b c : Bool) → ((a || b) && c) ≡ ((a && c) || (b && c))
or_and true true true = refl
or_and true false true = refl
or_and true true false = refl
or_and true false false = refl
or_and false b c = refl

-- an item at a place that was passed is none of the others
behind : (j k : ℕ) (xs : List ℕ) → j < k → any_from (λ i s. (i == j) && not (s == 0)) k xs ≡ false
behind j k [] h = refl
behind j k (x ∷ xs) h =
    let other : (k == j) ≡ false = ne_eqb k j (λ e. absurd (omega arith)) in
    ap (λ b. (b && not (x == 0)) || any_from (λ i s. (i == j) && not (s == 0)) (k + 1) xs) other
    ∙ behind j (k + 1) xs (omega arith)

or_none : (b : Bool) → (b || false) ≡ b
or_none true = refl
or_none false = refl

at_index : (k : ℕ) (xs : List ℕ) (a : ℕ) → any_from (λ i s. (i == (k + a)) && not (s == 0)) k xs ≡ not (slice_index xs a == 0)
at_index k [] a = refl
at_index k (x ∷ xs) zero =
    let here : (k == (k + 0)) ≡ true = eq-eqb k (k + 0) (omega arith) in
    ap (λ b. (b && not (x == 0)) || any_from (λ i s. (i == (k + 0)) && not (s == 0)) (k + 1) xs) here
    ∙ ap (λ b. not (x == 0) || b) (behind (k + 0) (k + 1) xs (omega arith))
    ∙ or_none (not (x == 0))
at_index k (x ∷ xs) (suc a) =
    let other : (k == (k + suc a)) ≡ false = ne_eqb k (k + suc a) (λ e. absurd (omega arith)) in
    let place : k + suc a ≡ (k + 1) + a = omega arith in
    ap (λ b. (b && not (x == 0)) || any_from (λ i s. (i == (k + suc a)) && not (s == 0)) (k + 1) xs) other
    ∙ ap (λ n. any_from (λ i s. (i == n) && not (s == 0)) (k + 1) xs) place
    ∙ at_index (k + 1) xs a

at_number : (xs : List ℕ) (a : ℕ) → any_from (λ i s. (i == a) && not (s == 0)) 0 xs ≡ not (slice_index xs a == 0)
at_number xs a =
    let e : a ≡ 0 + a = omega arith in
    ap (λ n. any_from (λ i s. (i == n) && not (s == 0)) 0 xs) e ∙ at_index 0 xs a

-- ---- a range
is_in : ℕ → ℕ → ℕ → Bool
is_in a n i = nat_le a i && nat_lt i (a + n)

in_none : (a i : ℕ) → (nat_le a i && nat_lt i (a + 0)) ≡ false
in_none a i = grind (arith, nat_tests)

in_more : (a n i : ℕ) → (nat_le a i && nat_lt i (a + suc n)) ≡ ((i == a) || (nat_le (a + 1) i && nat_lt i ((a + 1) + n)))
in_more a n i = grind (arith, nat_tests)

range_unmaps : (xs : List ℕ) (n a : ℕ) → any_from (λ i s. (nat_le a i && nat_lt i (a + n)) && not (s == 0)) 0 xs
    ≡ list_any (λ i. not (slice_index xs i == 0)) (numbers_from a n)
range_unmaps xs zero a = any_none (λ i s. (nat_le a i && nat_lt i (a + 0)) && not (s == 0)) (λ i s. ap (λ b. b && not (s == 0)) (in_none a i)) 0 xs
range_unmaps xs (suc n) a =
    any_same (λ i s. (nat_le a i && nat_lt i (a + suc n)) && not (s == 0))
    (λ i s. ((i == a) && not (s == 0)) || ((nat_le (a + 1) i && nat_lt i ((a + 1) + n)) && not (s == 0)))
    (λ i s. ap (λ b. b && not (s == 0)) (in_more a n i) ∙ or_and (i == a) (nat_le (a + 1) i && nat_lt i ((a + 1) + n)) (not (s == 0))) 0 xs
    ∙ any_or (λ i s. (i == a) && not (s == 0)) (λ i s. (nat_le (a + 1) i && nat_lt i ((a + 1) + n)) && not (s == 0)) 0 xs
    ∙ ap (λ b. b || any_from (λ i s. (nat_le (a + 1) i && nat_lt i ((a + 1) + n)) && not (s == 0)) 0 xs) (at_number xs a)
    ∙ ap (λ b. not (slice_index xs a == 0) || b) (range_unmaps xs n (a + 1))

pub ranges_unmap : (stamps : List ℕ) (ranges : List ChunkRange) → unmaps_any (range_pairs ranges) stamps ≡ list_any (unmaps_some stamps) ranges
ranges_unmap stamps [] = any_none (λ i s. false && not (s == 0)) (λ i s. refl) 0 stamps
ranges_unmap stamps (r ∷ rs) =
    any_same (λ i s. ((nat_le r.first_chunk i && nat_lt i (r.first_chunk + r.chunks)) || is_in_ranges (range_pairs rs) i) && not (s == 0))
    (λ i s. ((nat_le r.first_chunk i && nat_lt i (r.first_chunk + r.chunks)) && not (s == 0)) || (is_in_ranges (range_pairs rs) i && not (s == 0)))
    (λ i s. or_and (nat_le r.first_chunk i && nat_lt i (r.first_chunk + r.chunks)) (is_in_ranges (range_pairs rs) i) (not (s == 0))) 0 stamps
    ∙ any_or (λ i s. (nat_le r.first_chunk i && nat_lt i (r.first_chunk + r.chunks)) && not (s == 0)) (λ i s. is_in_ranges (range_pairs rs) i && not (s == 0)) 0 stamps
    ∙ ap (λ b. b || any_from (λ i s. is_in_ranges (range_pairs rs) i && not (s == 0)) 0 stamps) (range_unmaps stamps r.chunks r.first_chunk)
    ∙ ap (λ b. unmaps_some stamps r || b) (ranges_unmap stamps rs)

-- ---- a walk over a range, as far as it has come
abbrev pub unmapping : List ℕ → ℕ → Bool
unmapping stamps i = not (slice_index stamps i == 0)

pub unmaps_there : (stamps : List ℕ) (i s : ℕ) → s ≡ slice_index stamps i → (s ≡ 0 → ⊥) → unmapping stamps i ≡ true
unmaps_there stamps i s e some = ap not (ne_eqb (slice_index stamps i) 0 (λ z. some (e ∙ z)))

pub stays_there : (stamps : List ℕ) (i s : ℕ) → s ≡ slice_index stamps i → s ≡ 0 → unmapping stamps i ≡ false
stays_there stamps i s e none = ap not (eq-eqb (slice_index stamps i) 0 (sym e ∙ none))

pub walk_stops : (stamps : List ℕ) (i e : ℕ) → i < e → unmapping stamps i ≡ true → list_any (unmapping stamps) (numbers_from i (e - i)) ≡ true
walk_stops stamps i e h yes_ =
    ap (list_any (unmapping stamps)) (numbers_step i e h) ∙ ap (λ b. b || list_any (unmapping stamps) (numbers_from (i + 1) (e - (i + 1)))) yes_

pub walk_goes_on : (stamps : List ℕ) (i e : ℕ) → i < e → unmapping stamps i ≡ false
    → list_any (unmapping stamps) (numbers_from i (e - i)) ≡ list_any (unmapping stamps) (numbers_from (i + 1) (e - (i + 1)))
walk_goes_on stamps i e h no_ =
    ap (list_any (unmapping stamps)) (numbers_step i e h) ∙ ap (λ b. b || list_any (unmapping stamps) (numbers_from (i + 1) (e - (i + 1)))) no_

nothing_there : (xs : List ℕ) (i : ℕ) → length xs ≤ i → slice_index xs i ≡ 0
nothing_there [] i h = refl
nothing_there (x ∷ xs) zero h = absurd (omega arith)
nothing_there (x ∷ xs) (suc i) h = nothing_there xs i (omega arith)

past_all : (stamps : List ℕ) (n i : ℕ) → length stamps ≤ i → list_any (unmapping stamps) (numbers_from i n) ≡ false
past_all stamps zero i h = refl
past_all stamps (suc n) i h =
    ap (λ m. not (m == 0) || list_any (unmapping stamps) (numbers_from (i + 1) n)) (nothing_there stamps i h)
    ∙ past_all stamps n (i + 1) (omega arith)

-- a walk that has come to the end of the range, or of the volume
pub walk_ends : (stamps : List ℕ) (i e : ℕ) → min e (length stamps) ≤ i → list_any (unmapping stamps) (numbers_from i (e - i)) ≡ false
walk_ends stamps i e h = go (nat_le e i) refl
  where
    go : (b : Bool) → nat_le e i ≡ b → list_any (unmapping stamps) (numbers_from i (e - i)) ≡ false
    go true t = let past : e ≤ i = grind (arith, nat_tests) in ap (list_any (unmapping stamps)) (numbers_end i e past)
    go false t = let more : i < e = grind (arith, nat_tests) in past_all stamps (e - i) i (omega arith)

-- ---- the chunks that a write touches
pub touched_some : (chunk_blocks first blocks : ℕ) → 1 ≤ blocks
    → touched_indexes chunk_blocks first blocks ≡ numbers_from (first_touched first chunk_blocks) (touched_count first blocks chunk_blocks)
touched_some chunk_blocks first blocks h =
    ap (λ b. cond b [] (numbers_from (first_touched first chunk_blocks) (touched_count first blocks chunk_blocks))) (ne_eqb blocks 0 (λ e. absurd (omega arith)))

pub length_numbers : (i n : ℕ) → length (numbers_from i n) ≡ n
length_numbers i zero = refl
length_numbers i (suc n) = let rest : length (numbers_from (i + 1) n) ≡ n = length_numbers (i + 1) n in omega arith
