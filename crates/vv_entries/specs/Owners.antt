-- All lists over the pages of one store, as the layer that owns them sees them.
use Rattle.std.specs.Prelude.{ℕ, ◌≡◌, List}
use Rattle.std.specs.List.{All, flat_map}
use Rattle.vv_map.specs.Rooms.{MapState}
use Rattle.vv_map.specs.Pages.{StoreState, count_at, list_of, IsMapOf}
use Rattle.vv_entries.specs.declared.entry.Entry.{Entry}
use Rattle.vv_entries.specs.Changes.{times}

-- the numbers of the pages of some lists
abbrev pub all_numbers : List MapState → List ℕ
all_numbers lists = flat_map (λ (map : MapState). map.numbers) lists

-- the entries of some lists
abbrev pub all_entries : StoreState Entry → List MapState → List Entry
all_entries store lists = flat_map (list_of store) lists

-- These are all lists of a store: each page is counted as often as they name it.
pub record AreAllLists (store : StoreState Entry) (lists : List MapState) : Type 0 where
  pub counts : (n : ℕ) → count_at store n ≡ times n (all_numbers lists)
  pub maps : All (λ (map : MapState). IsMapOf store map) lists

-- a list that a call left as it was
pub record IsLeft (old new : StoreState Entry) (map : MapState) : Type 0 where
  pub of : IsMapOf new map
  pub same : list_of new map ≡ list_of old map
