-- Rows of entries that have a place, and when two of them don't agree.
use Rattle.std.specs.Prelude.{ℕ, ◌==◌, ◌&&◌, Bool, not, List, [], ◌∷◌, Option, Some, None, if◌then◌else◌}
use Rattle.std.specs.List.{list_all}
use Rattle.vv_flat.specs.Lists.{if_found}
use Rattle.vv_flat.specs.Sharing.{Standing, both_or_neither}
use Rattle.vv_rules.specs.declared.rows.Row.{Row}
use Rattle.vv_rules.specs.Least.{sooner, least_failing}

-- the row of an entry, if it has a place
abbrev pub row_of : Standing → Option Row
row_of a =
    if_found a.piece.chunk.place
    (λ p. Some (record { index = a.piece.index; stamp = a.piece.chunk.stamp; place = p })) None

abbrev pub same_key : Row → Row → Bool
same_key x y = (x.index == y.index) && (x.stamp == y.stamp)

-- one place for two keys, and one key at two places
abbrev pub is_mixed_place : Row → Row → Bool
is_mixed_place x y = (x.place == y.place) && not (same_key x y)

abbrev pub is_mixed_key : Row → Row → Bool
is_mixed_key x y = same_key x y && not (x.place == y.place)

-- two rows have the same place exactly where they have the same key
abbrev pub rows_agree : Row → Row → Bool
rows_agree x y = both_or_neither (x.place == y.place) (same_key x y)

-- the least place of the rows that don't agree with all
abbrev pub least_mixed : List Row → Option ℕ
least_mixed rows = least_failing (λ x. list_all (rows_agree x) rows) (λ (x : Row). x.place) rows

abbrev pub place_if : Bool → Row → Option ℕ
place_if wrong x = if wrong then Some x.place else None

-- whether a row is wrong with the one behind it
abbrev pub wrong_front : (Row → Row → Bool) → Row → List Row → Option ℕ
wrong_front wrong x [] = None
wrong_front wrong x (y ∷ ys) = place_if (wrong x y) x

-- the least place of a row that is wrong with the one behind it
abbrev pub least_wrong : (Row → Row → Bool) → List Row → Option ℕ
least_wrong wrong [] = None
least_wrong wrong (x ∷ xs) = sooner (wrong_front wrong x xs) (least_wrong wrong xs)
