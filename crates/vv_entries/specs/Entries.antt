-- Entries of lists over counted pages, and how often they name a place of the pool. The entries of a page count once,
-- however many lists share it.
use Rattle.std.specs.Prelude.{ℕ, ◌≡◌, ◌^◌, ◌≤◌, ◌==◌, Bool, false, List, [], length, replicate, sum_by, count_by, Option, Some, None}
use Rattle.vv_units.specs.declared.numbers.Place.{Place}
use Rattle.vv_map.specs.Pages.{StoreState, page_at, count_at}
use Rattle.vv_pool.specs.declared.place_use.PlaceUse.TheVariants.{Counted}
use Rattle.vv_pool.specs.Pool.{PoolState, count_of}
use Rattle.vv_entries.specs.declared.entry.Entry.{Entry}

abbrev pub is_place : ℕ → Option Place → Bool
is_place p None = false
is_place p (Some place) = place.0 == p

-- whether an entry names a place
abbrev pub names : ℕ → Entry → Bool
names p e = is_place p e.place

-- how many of some entries name a place
unfoldable pub named : ℕ → List Entry → ℕ
named p entries = count_by (names p) entries

-- how many entries of all pages name a place
unfoldable pub named_in : StoreState Entry → ℕ → ℕ
unfolding named
named_in store p = sum_by (named p) store.pages

-- the entry of an unmapped chunk
abbrev pub unmapped : Entry
unmapped = record { place = None; stamp = 0 }

-- the entry of a chunk at a place
abbrev pub placed : ℕ → ℕ → Entry
placed p stamp = record { place = Some (record { 0 = p }); stamp = stamp }

-- The pages of lists of entries, and the pool of the places that they name.
pub record EntriesState : Type 0 where
  pub store : StoreState Entry
  pub pool : PoolState

-- no list over so many unused pages, and a pool of free places
abbrev pub empty_entries : ℕ → ℕ → EntriesState
empty_entries chunks pages = record {
  store = record { pages = replicate pages []; counts = replicate pages 0 };
  pool = record { places = replicate chunks (Counted 0); reserved = 0 };
}

-- the same pages, and another pool
abbrev pub with_pool : EntriesState → PoolState → EntriesState
with_pool entries pool = record { store = entries.store; pool = pool }

-- Pages of at most 64 entries, those that no list names being empty.
pub record IsTidy (store : StoreState Entry) : Type 0 where
  pub small : (n : ℕ) → length (page_at store n) ≤ 64
  pub blank : (n : ℕ) → count_at store n ≡ 0 → page_at store n ≡ []
  pub same : length store.counts ≡ length store.pages
  pub few : length store.pages ≤ 2 ^ 20

-- A place's count is the number of entries of all pages that name it.
pub record IsCounted (store : StoreState Entry) (pool : PoolState) : Type 0 where
  pub tidy : IsTidy store
  pub counted : (p : ℕ) → count_of pool p ≡ named_in store p
