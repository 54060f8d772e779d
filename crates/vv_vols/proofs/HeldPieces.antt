-- Entries with their indexes: what an edit of the entries, and of the indexes, makes of the pieces.
use Rattle.std.proofs.Common.{ℕ, zero, suc, ◌≡◌, ◌+◌, List, [], ◌∷◌, ◌++◌, map, length, set, Option, Some, None, slice_get, refl, sym, ap, ◌∙◌, arith}
use Rattle.std.specs.Prelude.{slice_index}
use Rattle.vv_flat.specs.Lists.{numbers_from}
use Rattle.vv_flat.specs.State.{Piece, indexed}
use Rattle.vv_flat.specs.Chunks.{Entry}
use Rattle.vv_vols.specs.Calls.{piece_set, piece_chunks}
use Rattle.vv_vols.specs.Rows.{with_indexes}
use Rattle.vv_vols.proofs.Members.{numbered_from}

abbrev piece : ℕ → Entry → Piece Entry
piece i e = record { index = i; chunk = e }

pub with_len : (is : List ℕ) (es : List Entry) → length is ≡ length es → length (with_indexes is es) ≡ length es
with_len [] [] e = refl
with_len [] (x ∷ es) e = absurd (omega arith)
with_len (i ∷ is) [] e = absurd (omega arith)
with_len (i ∷ is) (x ∷ es) e = ap suc (with_len is es (omega arith))

with_from : (first : ℕ) (es : List Entry) → with_indexes (numbers_from first (length es)) es ≡ numbered_from first es
with_from first [] = refl
with_from first (e ∷ es) = ap (λ ps. piece first e ∷ ps) (with_from (first + 1) es)

-- indexes from 0 on
pub with_all : (n : ℕ) (es : List Entry) → length es ≡ n → with_indexes (numbers_from 0 n) es ≡ indexed es
with_all n es e = ap (λ k. with_indexes (numbers_from 0 k) es) (sym e) ∙ with_from 0 es

pub with_set : (is : List ℕ) (es : List Entry) (at : ℕ) (e : Entry) → with_indexes is (set es at e) ≡ piece_set at e (with_indexes is es)
with_set [] es at e = refl
with_set (i ∷ is) [] at e = refl
with_set (i ∷ is) (x ∷ es) zero e = refl
with_set (i ∷ is) (x ∷ es) (suc at) e = ap (λ ps. piece i x ∷ ps) (with_set is es at e)

pub with_more : (is : List ℕ) (es : List Entry) (i : ℕ) (e : Entry) → length is ≡ length es → with_indexes (is ++ i ∷ []) (es ++ e ∷ []) ≡ with_indexes is es ++ piece i e ∷ []
with_more [] [] i e size = refl
with_more [] (x ∷ es) i e size = absurd (omega arith)
with_more (j ∷ is) [] i e size = absurd (omega arith)
with_more (j ∷ is) (x ∷ es) i e size = ap (λ ps. piece j x ∷ ps) (with_more is es i e (omega arith))

pub chunks_with : (is : List ℕ) (es : List Entry) → length is ≡ length es → piece_chunks (with_indexes is es) ≡ es
chunks_with [] [] size = refl
chunks_with [] (x ∷ es) size = absurd (omega arith)
chunks_with (i ∷ is) [] size = absurd (omega arith)
chunks_with (i ∷ is) (x ∷ es) size = ap (λ xs. x ∷ xs) (chunks_with is es (omega arith))

pub indexes_with : (is : List ℕ) (es : List Entry) → length is ≡ length es → map (λ (a : Piece Entry). a.index) (with_indexes is es) ≡ is
indexes_with [] [] size = refl
indexes_with [] (x ∷ es) size = absurd (omega arith)
indexes_with (i ∷ is) [] size = absurd (omega arith)
indexes_with (i ∷ is) (x ∷ es) size = ap (λ xs. i ∷ xs) (indexes_with is es (omega arith))

pub with_at : (is : List ℕ) (es : List Entry) (at : ℕ) (e : Entry) → length is ≡ length es → slice_get es at ≡ Some e → slice_get (with_indexes is es) at ≡ Some (piece (slice_index is at) e)
with_at [] [] at e size there = absurd (cc)
with_at [] (x ∷ es) at e size there = absurd (omega arith)
with_at (i ∷ is) [] at e size there = absurd (omega arith)
with_at (i ∷ is) (x ∷ es) zero e size there = ap (λ o. elim o as (λ (_ : Option Entry). Option (Piece Entry)) [ Some y ↦ Some (piece i y) | None ↦ None ]) there
with_at (i ∷ is) (x ∷ es) (suc at) e size there = with_at is es at e (omega arith) there

-- pieces with all indexes from 0 on are those of their entries
pub whole_indexed : (first : ℕ) (ps : List (Piece Entry)) → map (λ (a : Piece Entry). a.index) ps ≡ numbers_from first (length ps) → numbered_from first (piece_chunks ps) ≡ ps
whole_indexed first [] e = refl
whole_indexed first (p ∷ ps) e =
    let head : p.index ≡ first = cc in
    let rest : map (λ (a : Piece Entry). a.index) ps ≡ numbers_from (first + 1) (length ps) = cc in
    ap (λ i. piece i p.chunk ∷ numbered_from (first + 1) (piece_chunks ps)) (sym head)
    ∙ ap (λ qs. p ∷ qs) (whole_indexed (first + 1) ps rest)
