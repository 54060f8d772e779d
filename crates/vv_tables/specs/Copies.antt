-- Words on difference copies: how many pieces there are, and those that a target's chunks are allocated or unmapped by.
use Rattle.std.specs.Prelude.{ℕ, ◌==◌, ◌&&◌, Bool, not, List, length, map, slice_index}
use Rattle.vv_flat.specs.State.{Piece, Durable, map_piece}
use Rattle.vv_flat.specs.Chunks.{Entry, shape_of_tables}
use Rattle.vv_flat.specs.Tasks.{difference}
use Rattle.vv_flat.specs.Changes.{stamps_of}
use Rattle.vv_vols.specs.Shelf.{ShelfState, chunks_in}

-- how many pieces a copy has of what differs between two volumes
abbrev pub differing : Durable Entry → ℕ → ℕ → ℕ
differing d source base =
    length (difference (λ s. s) (stamps_of (shape_of_tables d) source) (stamps_of (shape_of_tables d) base))

-- the stamps of a volume of a shelf
abbrev pub stamps_in : ShelfState → ℕ → List ℕ
stamps_in s n = map (λ (e : Entry). e.stamp) (chunks_in s n)

-- pieces, by their stamps
abbrev pub shaped_piece : Piece Entry → Piece ℕ
shaped_piece p = map_piece (λ (e : Entry). e.stamp) p

abbrev pub shaped_pieces : List (Piece Entry) → List (Piece ℕ)
shaped_pieces pieces = map shaped_piece pieces

-- whether a piece will allocate a chunk of a target, and whether it will unmap one
abbrev pub is_allocating : List ℕ → Piece ℕ → Bool
is_allocating target p = not (p.chunk == 0) && (slice_index target p.index == 0)

abbrev pub is_unmapping : List ℕ → Piece ℕ → Bool
is_unmapping target p = (p.chunk == 0) && not (slice_index target p.index == 0)
