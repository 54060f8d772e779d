-- How many places of the pool entries name, and how many chunks they use. Where entries share places rightly the two
-- are one number. This is this project's own.
use Rattle.std.specs.Prelude.{ℕ, ◌==◌, Bool, not, List, map, filter, length, count_by}
use Rattle.std.specs.List.{list_any}
use Rattle.vv_flat.specs.Lists.{numbers_from}
use Rattle.vv_flat.specs.State.{Piece, map_piece}
use Rattle.vv_flat.specs.Chunks.{Entry}
use Rattle.vv_flat.specs.Space.{distinct}
use Rattle.vv_flat.specs.Sharing.{names_place}

-- whether some entry names a place
abbrev pub is_named : List (Piece Entry) → ℕ → Bool
is_named all place = list_any (names_place place) all

-- how many different places of the pool the entries name
unfoldable pub named_count : ℕ → List (Piece Entry) → ℕ
named_count pool_chunks all = count_by (is_named all) (numbers_from 0 pool_chunks)

-- how many chunks entries use: one for each distinct pair of index and stamp among those that are allocated
unfoldable pub used_by : List (Piece Entry) → ℕ
used_by all =
    length (distinct (filter (λ (p : Piece ℕ). not (p.chunk == 0)) (map (map_piece (λ (e : Entry). e.stamp)) all)))
