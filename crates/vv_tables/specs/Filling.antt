-- When free places may be put into a held list whose entries there are unmapped, one after another, each in place of a reserved
-- one, as at a turn of a clone.
use Rattle.std.specs.Prelude.{ℕ, ◌≡◌, ◌+◌, ◌-◌, ◌≤◌, false, List, [], ◌∷◌, IsTrue, Some, length, map}
use Rattle.std.specs.List.{list_all, All}
use Rattle.vv_record.specs.declared.record.ChunkCopy.{ChunkCopy}
use Rattle.vv_flat.specs.Lists.{all_different, all_rising}
use Rattle.vv_flat.specs.State.{Piece}
use Rattle.vv_flat.specs.Chunks.{Entry, unmapped_entry, placed_entries}
use Rattle.vv_vols.specs.Shelf.{ShelfState, entry_at, is_shelf_free, shelf_used}
use Rattle.vv_vols.specs.Calls.{with_pieces, with_reserve, piece_set}
use Rattle.vv_vols.specs.Conditions.{is_new_stamp}
use Rattle.vv_tables.specs.Kept.{image_in, IsIndexed}

-- the indexes of chunks that are copied, and the places of the copies
abbrev pub copy_indexes : List ChunkCopy → List ℕ
copy_indexes copies = map (λ (c : ChunkCopy). c.index) copies

abbrev pub copy_places : List ChunkCopy → List ℕ
copy_places copies = map (λ (c : ChunkCopy). c.place.0) copies

-- entries stand at positions
abbrev pub pieces_filled : List ℕ → List Entry → List (Piece Entry) → List (Piece Entry)
pieces_filled [] entries pieces = pieces
pieces_filled (i ∷ is) [] pieces = pieces
pieces_filled (i ∷ is) (e ∷ es) pieces = pieces_filled is es (piece_set i e pieces)

-- .. in a shelf, and as many places less are reserved
abbrev pub with_filled : ShelfState → ℕ → ℕ → List ℕ → List ℕ → ShelfState
with_filled s n stamp indexes places =
    with_reserve (with_pieces s n (pieces_filled indexes (placed_entries places stamp))) (s.reserved - length places)

-- an entry of a held list is unmapped
abbrev pub IsUnmappedAt : ShelfState → ℕ → ℕ → Type 0
IsUnmappedAt s n i = entry_at s n i ≡ Some unmapped_entry

-- Places may be put into a held list at these indexes, which rise, with a stamp: the list isn't an image, has the indexes from 0
-- on, and is unmapped there; the places are free, different and reserved, and there are as many as are used and reserved; and
-- no entry has the stamp at one of the indexes.
pub record MayFill (s : ShelfState) (n stamp : ℕ) (indexes places : List ℕ) : Type 0 where
  pub target : image_in s n ≡ Some false
  pub indexed : IsIndexed s n
  pub rise : IsTrue (all_rising indexes)
  pub unmapped : All (IsUnmappedAt s n) indexes
  pub as_many : length indexes ≡ length places
  pub free : IsTrue (list_all (is_shelf_free s) places)
  pub different : IsTrue (all_different places)
  pub reserve : length places ≤ s.reserved
  pub within : shelf_used s + s.reserved ≤ s.geometry.pool_chunks
  pub fresh : s.fresh ≡ []
  pub stamps : IsTrue (list_all (λ i. is_new_stamp s i stamp) indexes)
