-- Entries of lists as rows and as pairs.
use Rattle.std.proofs.Common.{◌≡◌, ℕ, ◌==◌, ◌&&◌, Bool, true, false, cond, not, List, [], ◌∷◌, map, Option, Some, None, refl, sym, ap, ◌∙◌, length}
use Rattle.std.specs.Prelude.{filter, unwrap_or}
use Rattle.std.specs.List.{list_all, filter_map, cons_option}
use Rattle.vv_flat.specs.Lists.{if_found}
use Rattle.vv_flat.specs.State.{Piece}
use Rattle.vv_flat.specs.Chunks.{Entry}
use Rattle.vv_flat.specs.Space.{distinct}
use Rattle.vv_flat.specs.Sharing.{Standing, agrees, both_or_neither, no_place}
use Rattle.vv_rules.specs.declared.pairs.Pair.{Pair}
use Rattle.vv_rules.specs.declared.rows.Row.{Row}
use Rattle.vv_rules.specs.Pairs.{piece_of, pair_of, shape_of_standing, is_allocated}
use Rattle.vv_rules.specs.Least.{sooner, least_failing, place_of, least_apart}
use Rattle.vv_rules.specs.Rows.{row_of, rows_agree, least_mixed}

-- ---- pairs

allocated_step : (a : Standing) (b : Bool) (xs : List Standing) (ys : List (Piece ℕ)) → map piece_of (map pair_of xs) ≡ ys
    → map piece_of (map pair_of (cond b (a ∷ xs) xs)) ≡ cond b (shape_of_standing a ∷ ys) ys
allocated_step a true xs ys e = ap (λ zs. shape_of_standing a ∷ zs) e
allocated_step a false xs ys e = e

allocated_pieces : (xs : List Standing) → map piece_of (map pair_of (filter (λ (a : Standing). not (a.piece.chunk.stamp == 0)) xs)) ≡ filter is_allocated (map shape_of_standing xs)
allocated_pieces [] = refl
allocated_pieces (a ∷ xs) =
    allocated_step a (not (a.piece.chunk.stamp == 0)) (filter (λ (a : Standing). not (a.piece.chunk.stamp == 0)) xs) (filter is_allocated (map shape_of_standing xs)) (allocated_pieces xs)

pub used_pairs : (pairs : List Pair) (xs : List Standing) → pairs ≡ map pair_of (filter (λ (a : Standing). not (a.piece.chunk.stamp == 0)) xs)
    → length (distinct (map piece_of pairs)) ≡ length (distinct (filter is_allocated (map shape_of_standing xs)))
used_pairs pairs xs e = ap (λ ps. length (distinct (map piece_of ps))) e ∙ ap (λ ps. length (distinct ps)) (allocated_pieces xs)

-- ---- rows

abbrev row_at : ℕ → ℕ → ℕ → Row
row_at i s p = record { index = i; stamp = s; place = p }

-- whether an entry with a place, or without one, agrees with another
abbrev agrees_from : Option ℕ → ℕ → ℕ → Piece Entry → Bool
agrees_from o i s b =
    if_found o (λ p. if_found b.chunk.place (λ q. both_or_neither (p == q) ((i == b.index) && (s == b.chunk.stamp))) true) true

placeless : (i s : ℕ) (all : List (Piece Entry)) → list_all (agrees_from None i s) all ≡ true
placeless i s [] = refl
placeless i s (b ∷ bs) = placeless i s bs

agree_step : (p i s j t : ℕ) (o : Option ℕ) (rest : Bool) (rows : List Row) → rest ≡ list_all (rows_agree (row_at i s p)) rows
    → (if_found o (λ q. both_or_neither (p == q) ((i == j) && (s == t))) true && rest) ≡ list_all (rows_agree (row_at i s p)) (cons_option (if_found o (λ q. Some (row_at j t q)) None) rows)
agree_step p i s j t None rest rows e = e
agree_step p i s j t (Some q) rest rows e = ap (λ b. both_or_neither (p == q) ((i == j) && (s == t)) && b) e

agree_rows : (p i s : ℕ) (all : List Standing) → list_all (agrees_from (Some p) i s) (map (λ (b : Standing). b.piece) all) ≡ list_all (rows_agree (row_at i s p)) (filter_map row_of all)
agree_rows p i s [] = refl
agree_rows p i s (b ∷ bs) =
    agree_step p i s b.piece.index b.piece.chunk.stamp b.piece.chunk.place (list_all (agrees_from (Some p) i s) (map (λ (b : Standing). b.piece) bs)) (filter_map row_of bs) (agree_rows p i s bs)

abbrev agrees_with_rows : List Standing → Row → Bool
agrees_with_rows all x = list_all (rows_agree x) (filter_map row_of all)

apart_step : (all : List Standing) (i s : ℕ) (o rest : Option ℕ) (rows : List Row) → rest ≡ least_failing (agrees_with_rows all) (λ (x : Row). x.place) rows
    → sooner (cond (list_all (agrees_from o i s) (map (λ (b : Standing). b.piece) all)) None (Some (unwrap_or o no_place))) rest
    ≡ least_failing (agrees_with_rows all) (λ (x : Row). x.place) (cons_option (if_found o (λ p. Some (row_at i s p)) None) rows)
apart_step all i s None rest rows e =
    ap (λ b. sooner (cond b None (Some no_place)) rest) (placeless i s (map (λ (b : Standing). b.piece) all)) ∙ e
apart_step all i s (Some p) rest rows e =
    ap (λ b. sooner (cond b None (Some p)) rest) (agree_rows p i s all)
    ∙ ap (λ o. sooner (cond (agrees_with_rows all (row_at i s p)) None (Some p)) o) e

apart_rows : (all xs : List Standing)
    → least_failing (λ (a : Standing). list_all (agrees a.piece) (map (λ (b : Standing). b.piece) all)) place_of xs
    ≡ least_failing (agrees_with_rows all) (λ (x : Row). x.place) (filter_map row_of xs)
apart_rows all [] = refl
apart_rows all (a ∷ xs) =
    apart_step all a.piece.index a.piece.chunk.stamp a.piece.chunk.place
    (least_failing (λ (a : Standing). list_all (agrees a.piece) (map (λ (b : Standing). b.piece) all)) place_of xs) (filter_map row_of xs) (apart_rows all xs)

-- entries that don't agree are rows that don't
pub apart_mixed : (rows : List Row) (xs : List Standing) → rows ≡ filter_map row_of xs → least_mixed rows ≡ least_apart xs
unfolding least_apart
apart_mixed rows xs e = ap least_mixed e ∙ sym (apart_rows xs xs)
