-- The ranges of an UNMAP, descriptor by descriptor.
use Rattle.std.proofs.Common.{ℕ, zero, suc, ◌≡◌, ◌+◌, ◌≤◌, ◌^◌, ◌==◌, Bool, true, false, not, cond, List, [], ◌∷◌, ◌++◌, map, take, Some, refl, sym, ap, ◌∙◌, arith}
use Rattle.std.specs.List.{slice_get, filter}
use Rattle.std.proofs.lemmas.Bool.{leb-true}
use Rattle.std.proofs.lemmas.List.{map-append}
use Rattle.std.proofs.lemmas.List.Elements.{filter-append}
use Rattle.vv_flat.specs.Chunks.{whole_chunks, unmap_ranges}
use Rattle.vv_flat.proofs.Shares.{and_left, and_right}
use Rattle.vv_record.specs.declared.record.ChunkRange.{ChunkRange}
use Rattle.vv_plan.specs.CommandAsks.{pair_of, unless_empty, are_low}

take_suc : {A : Type 0} (xs : List A) (i : ℕ) (x : A) → slice_get xs i ≡ Some x → take (suc i) xs ≡ take i xs ++ x ∷ []
take_suc [] i x e = absurd (cc)
take_suc (y ∷ ys) zero x e = let same : y ≡ x = cc in ap (λ z. z ∷ []) same
take_suc (y ∷ ys) (suc i) x e = ap (λ zs. y ∷ zs) (take_suc ys i x e)

-- a descriptor of a list of low ones is low
pub low_at : (xs : List (ℕ × ℕ)) (i first blocks : ℕ) → are_low xs ≡ true → slice_get xs i ≡ Some (first, blocks) → first + blocks ≤ 2 ^ 31
low_at [] i first blocks low e = absurd (cc)
low_at (x ∷ xs) zero first blocks low e =
    let a : x.0 ≡ first = cc in
    let b : x.1 ≡ blocks = cc in
    let h : x.0 + x.1 ≤ 2 ^ 31 = leb-true (x.0 + x.1) (2 ^ 31) (and_left _ _ low) in
    omega (arith, a, b, h)
low_at (x ∷ xs) (suc i) first blocks low e = low_at xs i first blocks (and_right _ _ low) e

one_more : (B : ℕ) (xs : List (ℕ × ℕ)) (x : ℕ × ℕ) → unmap_ranges B (xs ++ x ∷ []) ≡ unmap_ranges B xs ++ unmap_ranges B (x ∷ [])
one_more B xs x =
    let whole : ℕ × ℕ → ℕ × ℕ = λ r. whole_chunks B r.0 r.1 in
    let some : ℕ × ℕ → Bool = λ r. not (r.1 == 0) in
    ap (filter some) (map-append whole xs (x ∷ [])) ∙ filter-append some (map whole xs) (map whole (x ∷ []))

added : (B : ℕ) (r : ChunkRange) (first blocks : ℕ) → pair_of r ≡ whole_chunks B first blocks → map pair_of (unless_empty r) ≡ unmap_ranges B ((first, blocks) ∷ [])
added B r first blocks is = go (r.chunks == 0) ∙ ap (λ (p : ℕ × ℕ). cond (not (p.1 == 0)) (p ∷ []) []) is
  where
    go : (b : Bool) → map pair_of (cond b [] (r ∷ [])) ≡ cond (not b) (pair_of r ∷ []) []
    go true = refl
    go false = refl

pub ranges_more : (B : ℕ) (xs : List (ℕ × ℕ)) (i first blocks : ℕ) (done more : List ChunkRange) (r : ChunkRange) → slice_get xs i ≡ Some (first, blocks)
    → pair_of r ≡ whole_chunks B first blocks → map pair_of done ≡ unmap_ranges B (take i xs) → more ≡ done ++ unless_empty r
    → map pair_of more ≡ unmap_ranges B (take (i + 1) xs)
ranges_more B xs i first blocks done more r at is before grown =
    let next : suc i ≡ i + 1 = omega arith in
    ap (map pair_of) grown
    ∙ map-append pair_of done (unless_empty r)
    ∙ ap (λ ys. ys ++ map pair_of (unless_empty r)) before
    ∙ ap (λ ys. unmap_ranges B (take i xs) ++ ys) (added B r first blocks is)
    ∙ sym (one_more B (take i xs) (first, blocks))
    ∙ ap (unmap_ranges B) (sym (take_suc xs i (first, blocks) at))
    ∙ ap (λ k. unmap_ranges B (take k xs)) next
