-- The places of a shelf: which the pool may hand out, and what a call that takes some makes of the shelf.
use Rattle.std.specs.Prelude.{ℕ, ◌≡◌, ◌-◌, ◌==◌, not, List, length, take, filter, fold, nat_lt, nat_le, Result, Ok, Err, if◌then◌else◌}
use Rattle.vv_flat.specs.Lists.{numbers_from, put_before}
use Rattle.vv_flat.specs.NamedPlaces.{is_named}
use Rattle.vv_pool.specs.declared.full.Full.{Full}
use Rattle.vv_pool.specs.Pool.{PoolState, count_of, used_of, free_places}
use Rattle.vv_vols.specs.Shelf.{ShelfState, shelf_pieces, shelf_used, is_shelf_free}
use Rattle.vv_vols.specs.Rows.{fresh_from}

-- the places that no entry names and that aren't fresh, in rising order
unfoldable pub free_places_of : ShelfState → List ℕ
free_places_of s = filter (is_shelf_free s) (numbers_from 0 s.geometry.pool_chunks)

-- the lowest n of them
abbrev pub lowest_of : ShelfState → ℕ → List ℕ
lowest_of s n = take n (free_places_of s)

-- how many places may be taken: those that are neither used nor reserved
abbrev pub shelf_free : ShelfState → ℕ
shelf_free s = s.geometry.pool_chunks - shelf_used s - s.reserved

-- whether n places may be taken
abbrev pub place_room_for : ShelfState → ℕ → Result (Unit {0}) Full
place_room_for s n =
    if nat_le n (shelf_free s) then Ok tt else Err (record { free = shelf_free s; asked = n })

-- these places are fresh too, each put where it comes in rising order
abbrev pub with_taken : ShelfState → List ℕ → ShelfState
with_taken s places = record s { fresh = fold (λ now p. put_before (λ q. nat_lt p q) p now) s.fresh places }

-- What the pool of a shelf is: its places are fresh, named by entries or free as the shelf says.
pub record IsPoolOf (s : ShelfState) (pool : PoolState) : Type 0 where
  pub size : length pool.places ≡ s.geometry.pool_chunks
  pub reserved : pool.reserved ≡ s.reserved
  pub fresh : fresh_from 0 pool.places ≡ s.fresh
  pub free : free_places pool ≡ free_places_of s
  pub used : used_of pool ≡ shelf_used s
  pub named : (p : ℕ) → is_named (shelf_pieces s) p ≡ not (count_of pool p == 0)
