-- What the calls on pieces make of a shelf, in the words of the whole array's definitions.
use Rattle.std.specs.Prelude.{ℕ, ◌<◌, ◌-◌, List, [], ◌∷◌, ◌++◌}
use Rattle.std.specs.List.{Contains}
use Rattle.vv_flat.specs.Lists.{first_changed}
use Rattle.vv_flat.specs.State.{Piece}
use Rattle.vv_flat.specs.Chunks.{Entry}
use Rattle.vv_flat.specs.Tasks.{difference, pieces_put}
use Rattle.vv_vols.specs.Shelf.{HeldList, ShelfState, is_held, size_in, chunks_in, pieces_in}
use Rattle.vv_vols.specs.Calls.{with_chunks, without_held}

-- the source's entries at the indexes where source and base differ
abbrev pub difference_in : ShelfState → ℕ → ℕ → List (Piece Entry)
difference_in s source base = difference (λ (e : Entry). e.stamp) (chunks_in s source) (chunks_in s base)

-- the entries of a held list are put into a volume at their indexes, and the list is gone
abbrev pub with_pieces_put : ShelfState → ℕ → ℕ → ShelfState
with_pieces_put s target n = with_chunks (without_held s n) target (pieces_put (pieces_in s n))

-- the indexes of a held list lie inside a volume
abbrev pub ArePiecesInside : ShelfState → ℕ → ℕ → Type 0
ArePiecesInside s target n = (a : Piece Entry) → Contains (pieces_in s n) a → a.index < size_in s target

-- an entry more at the end of a held list, with its index
abbrev pub with_piece_more : ShelfState → ℕ → ℕ → Entry → ShelfState
with_piece_more s n index e =
    let last : Piece Entry = record { index = index; chunk = e } in
    record s { held = first_changed (is_held n) (λ (h : HeldList). record h { pieces = h.pieces ++ last ∷ []; left = h.left - 1 }) s.held }
