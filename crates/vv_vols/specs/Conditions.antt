-- The conditions of the calls of a shelf.
use Rattle.std.specs.Prelude.{ℕ, ◌≡◌, ◌⊎◌, ◌<◌, ◌==◌, ◌&&◌, Bool, not, List, map}
use Rattle.std.specs.List.{list_all, Contains}
use Rattle.vv_flat.specs.Lists.{numbers_from}
use Rattle.vv_flat.specs.State.{Piece}
use Rattle.vv_flat.specs.Chunks.{Entry, unmapped_entry}
use Rattle.vv_vols.specs.Shelf.{ShelfState, shelf_pieces, pieces_in, held_size}

-- no entry has this stamp at this index
abbrev pub is_new_stamp : ShelfState → ℕ → ℕ → Bool
is_new_stamp s index stamp =
    not (stamp == 0) && list_all (λ (a : Piece Entry). not ((a.index == index) && (a.chunk.stamp == stamp))) (shelf_pieces s)

-- all chunks of a list are unmapped
abbrev pub AreUnmapped : List Entry → Type 0
AreUnmapped chunks = (e : Entry) → Contains chunks e → e ≡ unmapped_entry

-- an entry stands somewhere
abbrev pub Stands : ShelfState → Piece Entry → Type 0
Stands s a = Contains (shelf_pieces s) a

-- each of some pieces stands, or is unmapped
abbrev pub Comes : ShelfState → List (Piece Entry) → Type 0
Comes s pieces = (a : Piece Entry) → Contains pieces a → Stands s a ⊎ (a.chunk ≡ unmapped_entry)

-- an index is above those of all entries of a held list
abbrev pub IsAbove : ShelfState → ℕ → ℕ → Type 0
IsAbove s n index = (a : Piece Entry) → Contains (pieces_in s n) a → a.index < index

-- a held list has every index from 0 on
abbrev pub HasEveryIndex : ShelfState → ℕ → Type 0
HasEveryIndex s n = map (λ (a : Piece Entry). a.index) (pieces_in s n) ≡ numbers_from 0 (held_size s n)
