-- What each call makes of a shelf.
use Rattle.std.specs.Prelude.{ℕ, ◌-◌, ◌==◌, Bool, not, zero, suc, List, [], ◌∷◌, ◌++◌, length, map, replicate, slice_set, filter, Some, nat_lt}
use Rattle.vv_flat.specs.Lists.{first_changed, put_before, first_removed}
use Rattle.vv_flat.specs.State.{Volume, Piece}
use Rattle.vv_flat.specs.Chunks.{Entry, unmapped_entry}
use Rattle.vv_vols.specs.Shelf.{HeldList, ShelfState, is_volume, is_held, next_held}

-- the entry of a chunk at a place
abbrev pub placed_at : ℕ → ℕ → Entry
placed_at p stamp = record { place = Some p; stamp = stamp }

-- ---- volumes
-- one more volume
abbrev pub with_made : ShelfState → Volume Entry → ShelfState
with_made s v = record s { volumes = put_before (λ (w : Volume Entry). nat_lt v.number w.number) v s.volumes }

-- one volume less
abbrev pub with_deleted : ShelfState → ℕ → ShelfState
with_deleted s n = record s { volumes = first_removed (is_volume n) s.volumes }

-- one volume changed
abbrev pub with_changed : ShelfState → ℕ → (Volume Entry → Volume Entry) → ShelfState
with_changed s n f = record s { volumes = first_changed (is_volume n) f s.volumes }

-- one volume has these chunks
abbrev pub with_chunks : ShelfState → ℕ → (List Entry → List Entry) → ShelfState
with_chunks s n f = with_changed s n (λ (v : Volume Entry). record v { chunks = f v.chunks })

-- an entry of a volume is another one
abbrev pub with_entry : ShelfState → ℕ → ℕ → Entry → ShelfState
with_entry s n index e = with_chunks s n (λ chunks. slice_set chunks index e)

-- a volume has so many chunks, the further ones unmapped
abbrev pub with_size : ShelfState → ℕ → ℕ → ShelfState
with_size s n chunks = with_chunks s n (λ old. old ++ replicate (chunks - length old) unmapped_entry)

-- ---- fresh places
-- a place isn't fresh any more
abbrev pub without_fresh : ShelfState → ℕ → ShelfState
without_fresh s p = record s { fresh = filter (λ q. not (q == p)) s.fresh }

-- so many of the free places are reserved
abbrev pub with_reserve : ShelfState → ℕ → ShelfState
with_reserve s n = record s { reserved = n }

-- a fresh place is put into a volume
abbrev pub with_put : ShelfState → ℕ → ℕ → ℕ → ℕ → ShelfState
with_put s n index p stamp = with_entry (without_fresh s p) n index (placed_at p stamp)

-- ---- held lists
-- one more held list
abbrev pub with_held : ShelfState → HeldList → ShelfState
with_held s h = record s { held = put_before (λ (k : HeldList). nat_lt h.number k.number) h s.held }

-- a new held list, with the first number that no other has
abbrev pub new_held : ShelfState → List (Piece Entry) → Bool → ℕ → HeldList
new_held s pieces is_image left = record { number = next_held s; pieces = pieces; is_image = is_image; left = left }

-- one held list less

abbrev pub without_held : ShelfState → ℕ → ShelfState
without_held s n = record s { held = first_removed (is_held n) s.held }

-- a held list has other pieces
abbrev pub with_pieces : ShelfState → ℕ → (List (Piece Entry) → List (Piece Entry)) → ShelfState
with_pieces s n f = record s { held = first_changed (is_held n) (λ (h : HeldList). record h { pieces = f h.pieces }) s.held }

-- an entry of a held list, by its position, is another one; its index stays
abbrev pub piece_set : ℕ → Entry → List (Piece Entry) → List (Piece Entry)
piece_set at e [] = []
piece_set zero e (a ∷ pieces) = record a { chunk = e } ∷ pieces
piece_set (suc at) e (a ∷ pieces) = a ∷ piece_set at e pieces

-- .. in a shelf
abbrev pub with_piece : ShelfState → ℕ → ℕ → Entry → ShelfState
with_piece s n at e = with_pieces s n (piece_set at e)

-- an unmapped entry more at the end of a held list
abbrev pub with_appended : ShelfState → ℕ → ℕ → ShelfState
with_appended s n index =
    let last : Piece Entry = record { index = index; chunk = unmapped_entry } in
    record s { held = first_changed (is_held n) (λ (h : HeldList). record h { pieces = h.pieces ++ last ∷ []; left = h.left - 1 }) s.held }

-- the entries of pieces
abbrev pub piece_chunks : List (Piece Entry) → List Entry
piece_chunks pieces = map (λ (a : Piece Entry). a.chunk) pieces
