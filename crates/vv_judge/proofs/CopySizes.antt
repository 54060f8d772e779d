-- The pieces of a difference copy, counted chunk by chunk and page by page.
use Rattle.std.proofs.Common.{ℕ, zero, suc, ◌≡◌, ◌+◌, ◌-◌, ◌<◌, ◌≤◌, ◌==◌, ◌&&◌, Bool, true, false, not, cond, List, [], ◌∷◌, map, length, drop, filter, take, min, ◌*◌, refl, sym, ap, ◌∙◌, arith, add-one, drop-cons, get_or-take, length-take}
use Rattle.std.specs.Prelude.{slice_index, nat_lt}
use Rattle.std.proofs.lemmas.Bool.{eq-eqb}
use Rattle.std.proofs.lemmas.Bool.Decides.{nat_tests}
use Rattle.std.proofs.lemmas.List.{drop_all, get_or-drop, length-drop}
use Rattle.std.proofs.lemmas.List.Sums.{sum_by-cons}
use Rattle.vv_flat.specs.Lists.{mapped_from}
use Rattle.vv_flat.specs.State.{Piece}
use Rattle.vv_flat.specs.Space.{allocating_pieces}
use Rattle.vv_flat.specs.Tasks.{difference}
use Rattle.vv_judge.specs.Differences.{one_piece, one_allocating, piece, differs, pieces_from}

same_list : (xs : List ℕ) → map (λ s. s) xs ≡ xs
same_list [] = refl
same_list (x ∷ xs) = ap (λ l. x ∷ l) (same_list xs)

pub from_start : (source base : List ℕ) → pieces_from source base 0 ≡ difference (λ s. s) source base
from_start source base = refl

at_index : (source : List ℕ) (i : ℕ) → i < length source → drop i source ≡ slice_index source i ∷ drop (i + 1) source
at_index source i h = rw (add-one, drop-cons source i 0) refl

-- those from an index on begin with that chunk's, if it differs
pub one_more : (source base : List ℕ) (i : ℕ) → i < length source
    → pieces_from source base i
    ≡ cond (not (slice_index source i == slice_index base i)) (piece i (slice_index source i) ∷ pieces_from source base (i + 1)) (pieces_from source base (i + 1))
one_more source base i h =
    ap (λ (l : List ℕ). filter (differs base) (mapped_from piece i l)) (at_index source i h)
    ∙ ap (λ (l : List ℕ). cond (not (slice_index source i == slice_index l i)) (piece i (slice_index source i) ∷ pieces_from source base (i + 1)) (pieces_from source base (i + 1))) (same_list base)

length_cond : (b : Bool) (p : Piece ℕ) (rest : List (Piece ℕ)) → length (cond b (p ∷ rest) rest) ≡ cond b 1 0 + length rest
length_cond true p rest = omega arith
length_cond false p rest = omega arith

pub length_more : (source base : List ℕ) (i : ℕ) → i < length source
    → length (pieces_from source base i) ≡ one_piece (slice_index source i) (slice_index base i) + length (pieces_from source base (i + 1))
length_more source base i h =
    ap length (one_more source base i h) ∙ length_cond (not (slice_index source i == slice_index base i)) (piece i (slice_index source i)) (pieces_from source base (i + 1))

allocating_cond : (target : List ℕ) (b : Bool) (p : Piece ℕ) (rest : List (Piece ℕ))
    → allocating_pieces target (cond b (p ∷ rest) rest) ≡ cond b (cond (not (p.chunk == 0) && (slice_index target p.index == 0)) 1 0) 0 + allocating_pieces target rest
allocating_cond target true p rest = sum_by-cons (λ (q : Piece ℕ). cond (not (q.chunk == 0) && (slice_index target q.index == 0)) 1 0) p rest
allocating_cond target false p rest = omega arith

pub allocating_more : (source base target : List ℕ) (i : ℕ) → i < length source
    → allocating_pieces target (pieces_from source base i)
    ≡ one_allocating (slice_index source i) (slice_index base i) (slice_index target i) + allocating_pieces target (pieces_from source base (i + 1))
allocating_more source base target i h =
    ap (allocating_pieces target) (one_more source base i h)
    ∙ allocating_cond target (not (slice_index source i == slice_index base i)) (piece i (slice_index source i)) (pieces_from source base (i + 1))

pub none_left : (source base : List ℕ) (i : ℕ) → length source ≤ i → pieces_from source base i ≡ []
none_left source base i h = ap (λ (l : List ℕ). filter (differs base) (mapped_from piece i l)) (drop_all i source h)

small : (b : Bool) → cond b 1 0 ≤ 1
small true = omega arith
small false = omega arith

pub one_at_most : (s b : ℕ) → one_piece s b ≤ 1
one_at_most s b = small (not (s == b))

smaller : (b d : Bool) → cond b (cond d 1 0) 0 ≤ cond b 1 0
smaller true true = omega arith
smaller true false = omega arith
smaller false d = omega arith

pub fewer_allocate : (s b t : ℕ) → one_allocating s b t ≤ one_piece s b
fewer_allocate s b t = smaller (not (s == b)) (not (s == 0) && (t == 0))

-- ---- pages
-- chunks that are equal add no piece
pub equal_run : (source base : List ℕ) (n i : ℕ) → ((j : ℕ) → j < n → slice_index source (i + j) ≡ slice_index base (i + j))
    → pieces_from source base i ≡ pieces_from source base (i + n)
equal_run source base zero i same = let here : i ≡ i + 0 = omega arith in ap (pieces_from source base) here
equal_run source base (suc n) i same =
    go (nat_lt i (length source)) refl (equal_run source base n (i + 1) (λ j h. let next : i + 1 + j ≡ i + suc j = omega arith in
    ap (slice_index source) next ∙ same (suc j) (omega arith) ∙ ap (slice_index base) (sym next)))
  where
    go : (b : Bool) → nat_lt i (length source) ≡ b → pieces_from source base (i + 1) ≡ pieces_from source base (i + 1 + n) → pieces_from source base i ≡ pieces_from source base (i + suc n)
    go true t rest =
        let inside : i < length source = grind (arith, nat_tests) in
        let first : i + 0 ≡ i = omega arith in
        let next : i + 1 + n ≡ i + suc n = omega arith in
        let equal : (slice_index source i == slice_index base i) ≡ true =
        eq-eqb (slice_index source i) (slice_index base i) (ap (slice_index source) (sym first) ∙ same 0 (omega arith) ∙ ap (slice_index base) first) in
        one_more source base i inside
        ∙ ap (λ b. cond (not b) (piece i (slice_index source i) ∷ pieces_from source base (i + 1)) (pieces_from source base (i + 1))) equal
        ∙ rest ∙ ap (pieces_from source base) next
    go false t rest =
        let past : length source ≤ i = grind (arith, nat_tests) in
        none_left source base i past ∙ sym (none_left source base (i + suc n) (omega arith))

-- the stamp at a place of a page
pub on_page : (stamps page : List ℕ) (k i : ℕ) → page ≡ take 64 (drop (64 * k) stamps) → i < 64 → slice_index page i ≡ slice_index stamps (64 * k + i)
on_page stamps page k i is h =
    ap (λ l. slice_index l i) is ∙ get_or-take 64 (drop (64 * k) stamps) i 0 h ∙ get_or-drop (64 * k) stamps i 0

-- a page that is the base's has no piece
pub equal_page : (source base : List ℕ) (k : ℕ) → take 64 (drop (64 * k) source) ≡ take 64 (drop (64 * k) base)
    → pieces_from source base (64 * k) ≡ pieces_from source base (64 * (k + 1))
equal_page source base k same =
    let next : 64 * k + 64 ≡ 64 * (k + 1) = omega arith in
    equal_run source base 64 (64 * k) (λ j h.
    sym (on_page source (take 64 (drop (64 * k) source)) k j refl h) ∙ on_page base (take 64 (drop (64 * k) source)) k j same h)
    ∙ ap (pieces_from source base) next

pub page_length : (source page : List ℕ) (k : ℕ) → page ≡ take 64 (drop (64 * k) source) → length page ≡ min 64 (length source - 64 * k)
page_length source page k is =
    let cut = length-take 64 (drop (64 * k) source) in
    let rest = length-drop (64 * k) source in
    ap length is ∙ omega arith

-- the pieces behind the last chunk of a page are those of the next page
pub page_end : (source base : List ℕ) (k i : ℕ) → i ≡ min 64 (length source - 64 * k) → pieces_from source base (64 * k + i) ≡ pieces_from source base (64 * (k + 1))
page_end source base k i is = go (nat_lt i 64) refl
  where
    go : (b : Bool) → nat_lt i 64 ≡ b → pieces_from source base (64 * k + i) ≡ pieces_from source base (64 * (k + 1))
    go true t =
        let short : i < 64 = grind (arith, nat_tests) in
        none_left source base (64 * k + i) (omega arith) ∙ sym (none_left source base (64 * (k + 1)) (omega arith))
    go false t =
        let full : 64 ≤ i = grind (arith, nat_tests) in
        let next : 64 * k + i ≡ 64 * (k + 1) = omega arith in
        ap (pieces_from source base) next
