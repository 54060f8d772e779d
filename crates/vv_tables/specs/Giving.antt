-- When the entries of a list may be put into a held list whose entries are unmapped, one after another, as where tables are put
-- together again. An entry names a free place, or one that an entry with the same index and stamp names already.
use Rattle.std.specs.Prelude.{ℕ, ◌≡◌, true, false, List, [], ◌∷◌, ◌++◌, map, Some, length, slice_get}
use Rattle.std.specs.List.{list_all}
use Rattle.vv_flat.specs.State.{Piece}
use Rattle.vv_flat.specs.Chunks.{Entry, unmapped_entry}
use Rattle.vv_flat.specs.Sharing.{is_placed, agrees, shares_places}
use Rattle.vv_vols.specs.Shelf.{ShelfState, shelf_pieces, pieces_in, held_size, entry_at, index_at}
use Rattle.vv_vols.specs.Calls.{with_pieces, with_held, new_held}
use Rattle.vv_vols.specs.Rows.{seen_entry}
use Rattle.vv_tables.specs.declared.giving.GivenPiece.{GivenPiece}
use Rattle.vv_tables.specs.Kept.{image_in}

-- pieces with these entries, each at its index; those behind stay
abbrev pub pieces_given : List Entry → List (Piece Entry) → List (Piece Entry)
pieces_given [] ps = ps
pieces_given (e ∷ es) [] = []
pieces_given (e ∷ es) (p ∷ ps) = record p { chunk = e } ∷ pieces_given es ps

-- a held list with these entries
abbrev pub with_given : ShelfState → ℕ → List Entry → ShelfState
with_given s n es = with_pieces s n (pieces_given es)

-- no entry of pieces is allocated
abbrev pub AreBare : List (Piece Entry) → Type 0
AreBare ps = (at : ℕ) (a : Piece Entry) → slice_get ps at ≡ Some a → a.chunk ≡ unmapped_entry

-- An entry may be put at a position of a held list: the list isn't an image, and is unmapped there; the entry has a place or
-- none as it should, and agrees with all others; and no place is fresh or reserved.
pub record MayGiveOne (s : ShelfState) (n at : ℕ) (e : Entry) : Type 0 where
  pub target : image_in s n ≡ Some false
  pub unmapped : entry_at s n at ≡ Some unmapped_entry
  pub placed : is_placed s.geometry.pool_chunks e ≡ true
  pub agree : list_all (λ (a : Piece Entry). agrees a (record { index = index_at s n at; chunk = e })) (shelf_pieces s) ≡ true
  pub fresh : s.fresh ≡ []
  pub reserved : s.reserved ≡ 0

-- .. all entries of a list, from the first position on
pub record MayGive (s : ShelfState) (n : ℕ) (es : List Entry) : Type 0 where
  pub target : image_in s n ≡ Some false
  pub size : length es ≡ held_size s n
  pub bare : AreBare (pieces_in s n)
  pub shares : shares_places s.geometry.pool_chunks (shelf_pieces s ++ pieces_given es (pieces_in s n)) ≡ true
  pub fresh : s.fresh ≡ []
  pub reserved : s.reserved ≡ 0

-- ---- lists with indexes of their own
abbrev pub seen_piece : GivenPiece → Piece Entry
seen_piece p = record { index = p.index; chunk = seen_entry p.entry }

abbrev pub seen_pieces : List GivenPiece → List (Piece Entry)
seen_pieces pieces = map seen_piece pieces

-- a shelf that holds these pieces more, with memory for so many further ones
abbrev pub with_some : ShelfState → List (Piece Entry) → ℕ → ShelfState
with_some s ps left = with_held s (new_held s ps false left)
