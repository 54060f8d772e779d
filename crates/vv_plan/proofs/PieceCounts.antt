-- How many pieces a copy has, by what the tables count.
use Rattle.std.proofs.Common.{ℕ, ◌≡◌, ◌+◌, ◌==◌, Bool, true, not, cond, List, [], ◌∷◌, map, length, count_by, Option, None, Some, is_none, refl, sym, ap, ◌∙◌}
use Rattle.std.proofs.lemmas.List.Sums.{sum_by-cons, length-filter}
use Rattle.vv_flat.specs.Lists.{if_found, mapped_from}
use Rattle.vv_flat.specs.State.{Volume, Piece, Durable, volume_of, indexed}
use Rattle.vv_flat.specs.Space.{allocated_count}
use Rattle.vv_flat.specs.Bits.{is_unshared, unshared_count}
use Rattle.vv_flat.specs.Tasks.{difference}
use Rattle.vv_flat.specs.Changes.{stamps_of, allocated_of}
use Rattle.vv_meaning.specs.Calls.{piece_count}

counted : (test : ℕ → ℕ → Bool) (k : ℕ) (xs : List ℕ)
    → count_by (λ (p : Piece ℕ). test p.index p.chunk) (mapped_from (λ i x. record { index = i; chunk = x }) k xs) ≡ count_by (λ b. b) (mapped_from test k xs)
counted test k [] = refl
counted test k (x ∷ xs) =
    sum_by-cons (λ (p : Piece ℕ). cond (test p.index p.chunk) 1 0) (record { index = k; chunk = x }) (mapped_from (λ i x. record { index = i; chunk = x }) (k + 1) xs)
    ∙ ap (λ n. cond (test k x) 1 0 + n) (counted test (k + 1) xs)
    ∙ sym (sum_by-cons (λ b. cond b 1 0) (test k x) (mapped_from test (k + 1) xs))

same_stamps : (xs : List ℕ) → map (λ s. s) xs ≡ xs
same_stamps [] = refl
same_stamps (x ∷ xs) = ap (λ ys. x ∷ ys) (same_stamps xs)

pieces_counted : (source base : List ℕ) → length (difference (λ s. s) source base) ≡ unshared_count source base
pieces_counted source base =
    length-filter (λ (p : Piece ℕ). is_unshared (map (λ s. s) base) p.index p.chunk) (indexed source)
    ∙ counted (is_unshared (map (λ s. s) base)) 0 source
    ∙ ap (λ stamps. unshared_count source stamps) (same_stamps base)

all_unshared : (k : ℕ) (xs : List ℕ) → count_by (λ b. b) (mapped_from (is_unshared []) k xs) ≡ allocated_count xs
all_unshared k [] = refl
all_unshared k (x ∷ xs) =
    sum_by-cons (λ b. cond b 1 0) (not (x == 0)) (mapped_from (is_unshared []) (k + 1) xs)
    ∙ ap (λ n. cond (not (x == 0)) 1 0 + n) (all_unshared (k + 1) xs)
    ∙ sym (sum_by-cons (λ s. cond (not (s == 0)) 1 0) x xs)

no_stamps : (o : Option (Volume ℕ)) → true ≡ is_none o → if_found o (λ (v : Volume ℕ). v.chunks) [] ≡ []
no_stamps None e = refl
no_stamps (Some v) e = absurd (cc)

module _ (d : Durable ℕ) (source base : ℕ) where
  pub pieces_are : unshared_count (stamps_of d source) (stamps_of d base) ≡ piece_count d source base
  pieces_are = sym (pieces_counted (stamps_of d source) (stamps_of d base))

  -- a volume that doesn't stand has no piece
  pub no_piece : true ≡ is_none (volume_of d source) → 0 ≡ piece_count d source base
  no_piece e = ap (λ stamps. unshared_count stamps (stamps_of d base)) (sym (no_stamps (volume_of d source) e)) ∙ pieces_are

  -- against none each allocated chunk is a piece
  pub all_pieces : true ≡ is_none (volume_of d base) → allocated_of d source ≡ piece_count d source base
  all_pieces e =
      sym (all_unshared 0 (stamps_of d source)) ∙ ap (λ stamps. unshared_count (stamps_of d source) stamps) (sym (no_stamps (volume_of d base) e)) ∙ pieces_are
