-- What a shelf is: all volumes of an array, and the lists that running tasks hold, over the places of one pool. No page
-- and no count is seen here. Volumes are those of the whole array's definitions, with entries for chunks.
use Rattle.std.specs.Prelude.{ℕ, ◌+◌, ◌==◌, ◌&&◌, Bool, not, List, [], ◌∷◌, ◌++◌, length, map, sum_by, count_by, true, slice_get, option_map, nat_lt, nat_le, Option, Result, Ok, Err, if◌then◌else◌}
use Rattle.std.specs.List.{find, flat_map, list_all}
use Rattle.vv_units.specs.declared.geometry.Geometry.{Geometry}
use Rattle.vv_vols.specs.declared.map_full.MapFull.{MapFull}
use Rattle.vv_flat.specs.Lists.{if_found}
use Rattle.vv_flat.specs.State.{Volume, Piece, indexed}
use Rattle.vv_flat.specs.Chunks.{Entry, unmapped_entry}
use Rattle.vv_flat.specs.Sharing.{shares_places}
use Rattle.vv_flat.specs.NamedPlaces.{is_named, used_by}

-- A list that a running task holds: entries, each with the index of its chunk, and for how many further ones it has memory.
-- An image is the list that a volume had, and stays; another is filled entry after entry.
pub record HeldList : Type 0 where
  pub number : ℕ
  pub pieces : List (Piece Entry)
  pub is_image : Bool
  pub left : ℕ

-- What a task has of a list that it holds: its number, and how many entries it has.
pub record HeldName : Type 0 where
  pub number : ℕ
  pub len : ℕ

-- The volumes in rising order of their numbers, and the held lists in rising order of theirs. The fresh places, in rising
-- order, are taken from the pool, and no entry names them yet; so many of the free ones are reserved.
pub record ShelfState : Type 0 where
  pub geometry : Geometry
  pub volumes : List (Volume Entry)
  pub held : List HeldList
  pub fresh : List ℕ
  pub reserved : ℕ

-- the entries of all volumes and held lists, each with its index
abbrev pub pieces_of : List (Volume Entry) → List HeldList → List (Piece Entry)
pieces_of volumes held = flat_map (λ (v : Volume Entry). indexed v.chunks) volumes ++ flat_map (λ (h : HeldList). h.pieces) held

abbrev pub shelf_pieces : ShelfState → List (Piece Entry)
shelf_pieces s = pieces_of s.volumes s.held

-- how many entries all lists have
abbrev pub shelf_entries : ShelfState → ℕ
shelf_entries s =
    sum_by (λ (v : Volume Entry). length v.chunks) s.volumes + sum_by (λ (h : HeldList). length h.pieces) s.held

-- how many places are used: those of the distinct pairs of index and stamp among all allocated entries, and the fresh ones
abbrev pub shelf_used : ShelfState → ℕ
shelf_used s = used_by (shelf_pieces s) + length s.fresh

abbrev pub is_volume : ℕ → Volume Entry → Bool
is_volume n v = v.number == n

abbrev pub is_held : ℕ → HeldList → Bool
is_held n h = h.number == n

abbrev pub volume_in : ShelfState → ℕ → Option (Volume Entry)
volume_in s n = find (is_volume n) s.volumes

abbrev pub held_in : ShelfState → ℕ → Option HeldList
held_in s n = find (is_held n) s.held

-- the least number from n on that isn't among rising ones
abbrev pub first_gap : ℕ → List ℕ → ℕ
first_gap n [] = n
first_gap n (m ∷ ms) = if m == n then first_gap (n + 1) ms else n

-- the number that a new held list gets: the least one that no held list has
abbrev pub next_held : ShelfState → ℕ
next_held s = first_gap 0 (map (λ (h : HeldList). h.number) s.held)

-- the entries of a held list, with their indexes
abbrev pub pieces_in : ShelfState → ℕ → List (Piece Entry)
pieces_in s n = if_found (held_in s n) (λ (h : HeldList). h.pieces) []

-- how many entries a held list has
abbrev pub held_size : ShelfState → ℕ → ℕ
held_size s n = length (pieces_in s n)

-- the one at a position
abbrev pub piece_at : ShelfState → ℕ → ℕ → Option (Piece Entry)
piece_at s n at = slice_get (pieces_in s n) at

-- the index of the entry of a held list at a position
abbrev pub index_at : ShelfState → ℕ → ℕ → ℕ
index_at s n at = if_found (piece_at s n at) (λ (a : Piece Entry). a.index) 0

-- the entry of a held list at a position
abbrev pub entry_at : ShelfState → ℕ → ℕ → Option Entry
entry_at s n at = option_map (λ (a : Piece Entry). a.chunk) (piece_at s n at)

-- .. which is unmapped past the end
abbrev pub chunk_at : ShelfState → ℕ → ℕ → Entry
chunk_at s n at = if_found (piece_at s n at) (λ (a : Piece Entry). a.chunk) unmapped_entry

-- for how many further entries a held list has memory
abbrev pub left_in : ShelfState → ℕ → ℕ
left_in s n = if_found (held_in s n) (λ (h : HeldList). h.left) 0

-- whether a held list is an image
abbrev pub is_image_in : ShelfState → ℕ → Bool
is_image_in s n = if_found (held_in s n) (λ (h : HeldList). h.is_image) true

-- a place that the pool may hand out: no entry names it, and it isn't fresh
abbrev pub is_shelf_free : ShelfState → ℕ → Bool
is_shelf_free s p = nat_lt p s.geometry.pool_chunks && not (is_named (shelf_pieces s) p) && list_all (λ q. not (q == p)) s.fresh

-- a place that may be published: it is one of the pool's, and no entry names it
abbrev pub is_new_place : ShelfState → ℕ → Bool
is_new_place s p = nat_lt p s.geometry.pool_chunks && not (is_named (shelf_pieces s) p)

-- its entries share places rightly
abbrev pub shares_rightly : ShelfState → Bool
shares_rightly s = shares_places s.geometry.pool_chunks (shelf_pieces s)

-- how many chunks a volume has
abbrev pub size_in : ShelfState → ℕ → ℕ
size_in s n = if_found (volume_in s n) (λ (v : Volume Entry). length v.chunks) 0

-- the chunks of a volume
abbrev pub chunks_in : ShelfState → ℕ → List Entry
chunks_in s n = if_found (volume_in s n) (λ (v : Volume Entry). v.chunks) []

-- how many of some chunks are allocated
abbrev pub allocated_of : List Entry → ℕ
allocated_of chunks = count_by (λ (e : Entry). not (e.stamp == 0)) chunks

-- whether so many entries more may stand in lists
abbrev pub map_room_for : ShelfState → ℕ → Result (Unit {0}) MapFull
map_room_for s n =
    if nat_le (shelf_entries s + n) s.geometry.map_chunks then Ok tt
    else Err (record { entries = shelf_entries s; asked = n; limit = s.geometry.map_chunks })
