-- How the rows of a shelf are seen: the entries of their lists stand in the pages of a store.
use Rattle.std.specs.Prelude.{ℕ, ◌≡◌, ◌≢◌, ◌+◌, ◌-◌, ◌/◌, ◌<◌, ◌≤◌, ◌==◌, Bool, true, false, not, List, [], ◌∷◌, ◌++◌, length, map, count_by, slice_index, slice_index_or, vec_capacity, Option, option_map, nat_lt, if◌then◌else◌}
use Rattle.std.specs.List.{All, find}
use Rattle.vv_units.specs.declared.numbers.Place.{Place}
use Rattle.vv_units.specs.declared.geometry.Geometry.{Geometry}
use Rattle.vv_map.specs.Rooms.{MapState}
use Rattle.vv_map.specs.Pages.{StoreState, list_of, count_at, pages_for}
use Rattle.vv_pool.specs.declared.place_use.PlaceUse.{PlaceUse}
use Rattle.vv_pool.specs.declared.place_use.PlaceUse.TheVariants.{Counted, Fresh}
use Rattle.vv_entries.specs.declared.entry.Entry.{Entry as PlacedEntry}
use Rattle.vv_entries.specs.Entries.{EntriesState}
use Rattle.vv_entries.specs.Owners.{AreAllLists}
use Rattle.vv_flat.specs.Lists.{if_found, all_rising, numbers_from}
use Rattle.vv_flat.specs.State.{Volume, Piece}
use Rattle.vv_flat.specs.Chunks.{Entry}
use Rattle.vv_vols.specs.declared.head.Head.{Head}
use Rattle.vv_vols.specs.declared.row.VolumeRow.{VolumeRow}
use Rattle.vv_vols.specs.declared.row.HeldRow.{HeldRow}
use Rattle.vv_vols.specs.declared.row.HeldIndexes.{HeldIndexes}
use Rattle.vv_vols.specs.declared.row.HeldIndexes.TheVariants.{FromZero, Listed}
use Rattle.vv_vols.specs.Shelf.{HeldList, ShelfState, shares_rightly, shelf_entries}

-- an entry as the definitions of the whole array see it
abbrev pub seen_entry : PlacedEntry → Entry
seen_entry e = record { place = option_map (λ (p : Place). p.0) e.place; stamp = e.stamp }

abbrev pub seen_entries : List PlacedEntry → List Entry
seen_entries entries = map seen_entry entries

abbrev pub volume_map : VolumeRow → MapState
volume_map row = row.map

abbrev pub held_map : HeldRow → MapState
held_map row = row.map

-- a head and chunks make a volume
abbrev pub volume_with : ℕ → Head → List Entry → Volume Entry
volume_with n head chunks = record {
  number = n;
  container = head.container.0;
  vtype = head.vtype;
  kind = head.kind;
  reverted = head.reverted;
  needs = head.needs;
  metadata = head.metadata;
  chunks = chunks;
}

abbrev pub seen_volume : StoreState PlacedEntry → VolumeRow → Volume Entry
seen_volume store row = volume_with row.id.0 row.head (seen_entries (list_of store row.map))

-- entries and their indexes
abbrev pub with_indexes : List ℕ → List Entry → List (Piece Entry)
with_indexes [] es = []
with_indexes (i ∷ is) [] = []
with_indexes (i ∷ is) (e ∷ es) = record { index = i; chunk = e } ∷ with_indexes is es

-- the index of each entry of a held list of so many
abbrev pub held_indexes : HeldIndexes → ℕ → List ℕ
held_indexes FromZero n = numbers_from 0 n
held_indexes (Listed listed) n = listed.indexes.items

-- for how many further entries a held list has memory
abbrev pub further : HeldIndexes → ℕ
further FromZero = 0
further (Listed listed) = vec_capacity listed.indexes - length listed.indexes.items

abbrev pub seen_held : StoreState PlacedEntry → HeldRow → HeldList
seen_held store row = record {
  number = row.number;
  pieces = with_indexes (held_indexes row.indexes row.map.len) (seen_entries (list_of store row.map));
  is_image = row.is_image;
  left = further row.indexes;
}

-- the fresh places of a list of uses, the first having the number `at`
abbrev pub fresh_from : ℕ → List PlaceUse → List ℕ
fresh_from at [] = []
fresh_from at (Fresh ∷ uses) = at ∷ fresh_from (at + 1) uses
fresh_from at (Counted n ∷ uses) = fresh_from (at + 1) uses

abbrev pub seen_shelf : Geometry → EntriesState → List VolumeRow → List HeldRow → ShelfState
seen_shelf geometry entries volumes held = record {
  geometry = geometry;
  volumes = map (seen_volume entries.store) volumes;
  held = map (seen_held entries.store) held;
  fresh = fresh_from 0 entries.pool.places;
  reserved = entries.pool.reserved;
}

-- how many entries are allocated
abbrev pub allocated_in : List PlacedEntry → ℕ
allocated_in entries = count_by (λ (e : PlacedEntry). not (e.stamp == 0)) entries

-- What a shelf keeps: its rows own all lists of the store, which has a place for each entry that the map has; the entries
-- share places rightly; and the numbers are kept.
pub record IsKept (geometry : Geometry) (entries : EntriesState) (volumes : List VolumeRow) (held : List HeldRow) (total : ℕ) : Type 0 where
  pub lists : AreAllLists entries.store (map volume_map volumes ++ map held_map held)
  pub places : length entries.pool.places ≡ geometry.pool_chunks
  pub pages : length entries.store.counts ≡ geometry.map_chunks
  pub shares : shares_rightly (seen_shelf geometry entries volumes held) ≡ true
  pub summed : total ≡ shelf_entries (seen_shelf geometry entries volumes held)
  pub few : total ≤ geometry.map_chunks
  pub allocated : All (λ (row : VolumeRow). row.allocated ≡ allocated_in (list_of entries.store row.map)) volumes

abbrev pub is_row : ℕ → VolumeRow → Bool
is_row n row = row.id.0 == n

abbrev pub is_row_above : ℕ → VolumeRow → Bool
is_row_above n row = nat_lt n row.id.0

-- whether a held row has a number, and whether its number is above one
abbrev pub is_held_row : ℕ → HeldRow → Bool
is_held_row n row = row.number == n

abbrev pub is_held_above : ℕ → HeldRow → Bool
is_held_above n row = nat_lt n row.number

-- no other list names the pages of a list
abbrev pub AreOwn : StoreState PlacedEntry → MapState → Type 0
AreOwn store map = (k : ℕ) → k < length map.numbers → count_at store (slice_index map.numbers k) ≡ 1

-- a held list that isn't an image
abbrev pub IsFilled : StoreState PlacedEntry → HeldRow → Type 0
IsFilled store row = row.is_image ≡ false → AreOwn store row.map

abbrev pub rises : List ℕ → Bool
rises numbers = all_rising numbers

abbrev pub volume_numbers : List VolumeRow → List ℕ
volume_numbers rows = map (λ (row : VolumeRow). row.id.0) rows

abbrev pub held_numbers : List HeldRow → List ℕ
held_numbers rows = map (λ (row : HeldRow). row.number) rows

-- the allocated number of a held list is kept
abbrev pub IsCountedHeld : StoreState PlacedEntry → HeldRow → Type 0
IsCountedHeld store row = row.allocated ≡ allocated_in (list_of store row.map)

-- a held list that grows has memory for the pages of all entries that its indexes have room for
abbrev pub HasRoom : HeldIndexes → MapState → Type 0
HasRoom FromZero m = Unit {0}
HasRoom (Listed listed) m =
    let all = pages_for (vec_capacity listed.indexes) in (all ≤ m.memory) × (all ≤ length m.numbers + listed.room.pages)

-- All that a shelf keeps: its lists and numbers; that the rows stand in rising order; that an entry of a held list has an
-- index, and the list its pages for itself where tasks fill it, its allocated number and its room; and that there is memory
-- for so many rows more, of either kind.
pub record IsShelf (geometry : Geometry) (entries : EntriesState) (volumes : List VolumeRow) (held : List HeldRow) (total rooms volume_memory held_memory : ℕ) : Type 0 where
  pub lists : IsKept geometry entries volumes held total
  pub rising : rises (volume_numbers volumes) ≡ true
  pub held_rising : rises (held_numbers held) ≡ true
  pub indexed : All (λ (row : HeldRow). length (held_indexes row.indexes row.map.len) ≡ row.map.len) held
  pub filled : All (IsFilled entries.store) held
  pub volume_rows : length volumes + length held + rooms ≤ volume_memory
  pub held_rows : length volumes + length held + rooms ≤ held_memory
  pub held_counts : All (IsCountedHeld entries.store) held
  pub held_room : All (λ (row : HeldRow). HasRoom row.indexes row.map) held

-- ---- what callers see
-- Which pages of a volume's list no other list names, by 64 entries.
pub record OwnPages : Type 0 where
  pub number : ℕ
  pub own : List Bool

abbrev pub own_pages : StoreState PlacedEntry → MapState → List Bool
own_pages store m = map (λ number. count_at store number == 1) m.numbers

abbrev pub seen_pages : StoreState PlacedEntry → VolumeRow → OwnPages
seen_pages store row = record { number = row.id.0; own = own_pages store row.map }

-- What callers see of a shelf: its lists and places; which pages of volumes are their own, which says what memory a change
-- takes; and for how many further lists it has the memory of a row.
pub record ShelfView : Type 0 where
  pub shelf : ShelfState
  pub pages : List OwnPages
  pub rooms : ℕ

abbrev pub seen_view : Geometry → EntriesState → List VolumeRow → List HeldRow → ℕ → ShelfView
seen_view geometry entries volumes held rooms = record {
  shelf = seen_shelf geometry entries volumes held;
  pages = map (seen_pages entries.store) volumes;
  rooms = rooms;
}

-- a shelf without a list
abbrev pub empty_view : Geometry → ShelfView
empty_view geometry = record {
  shelf = record { geometry = geometry; volumes = []; held = []; fresh = []; reserved = 0 };
  pages = [];
  rooms = 0;
}

-- whether a page of a volume is its own
abbrev pub own_in : List OwnPages → ℕ → ℕ → Bool
own_in pages n k = if_found (find (λ (p : OwnPages). p.number == n) pages) (λ p. slice_index_or p.own k false) false

abbrev pub is_own : ShelfView → ℕ → ℕ → Bool
is_own view n k = own_in view.pages n k

-- a call takes no page from a volume that had it for itself
abbrev pub KeepsOwn : ShelfView → ShelfView → Type 0
KeepsOwn old new = (n k : ℕ) → is_own old n k ≡ true → is_own new n k ≡ true

-- .. from no other volume than this one
abbrev pub KeepsOwnBut : ℕ → ShelfView → ShelfView → Type 0
KeepsOwnBut m old new = (n k : ℕ) → n ≢ m → is_own old n k ≡ true → is_own new n k ≡ true

-- .. from no other volume than these two
abbrev pub KeepsOwnButBoth : ℕ → ℕ → ShelfView → ShelfView → Type 0
KeepsOwnButBoth m l old new = (n k : ℕ) → n ≢ m → n ≢ l → is_own old n k ≡ true → is_own new n k ≡ true

-- ---- rooms
-- Memory that was taken: for so many pages, for the numbers of a list of so many pages and for so many indexes; and the
-- head of a volume, if one was put in.
pub record RoomView : Type 0 where
  pub pages : ℕ
  pub numbers : ℕ
  pub indexes : ℕ
  pub head : Option Head

-- how many pages a range of entries touches
abbrev pub pages_touched : ℕ → ℕ → ℕ
pages_touched first count = if count == 0 then 0 else (first + count - 1) / 64 + 1 - first / 64

-- how many pages writes in a range of a volume copy, at most
abbrev pub copies_in : ShelfView → ℕ → ℕ → ℕ → ℕ
copies_in view n first count = count_by (λ k. not (is_own view n k)) (numbers_from (first / 64) (pages_touched first count))

-- memory for changes in a range of a volume
abbrev pub IsChangeRoom : ShelfView → ℕ → ℕ → ℕ → RoomView → Type 0
IsChangeRoom view n first count room = copies_in view n first count ≤ room.pages

-- memory for a list of so many entries: one page more than it has, for the last page of a list that grows
pub record IsListRoom (n : ℕ) (room : RoomView) : Type 0 where
  pub pages : pages_for n + 1 ≤ room.pages
  pub numbers : pages_for n ≤ room.numbers
  pub indexes : n ≤ room.indexes
