-- What a call leaves as it is: of the pages, for the lists that it isn't about, and of the pool.
use Rattle.std.specs.Prelude.{ℕ, ◌≡◌, ◌+◌, ◌<◌, ◌≤◌, ◌==◌, List, [], ◌∷◌, length, count_by}
use Rattle.vv_map.specs.Pages.{StoreState, page_at, count_at}
use Rattle.vv_pool.specs.Pool.{PoolState, IsFresh, count_of}
use Rattle.vv_entries.specs.declared.entry.Entry.{Entry}
use Rattle.vv_entries.specs.Entries.{named, named_in, IsTidy}

-- how often a number stands in a list
unfoldable pub times : ℕ → List ℕ → ℕ
times n numbers = count_by (λ m. m == n) numbers

-- One list's pages were these and are those now; to another list nothing happened. So the count of each page went with
-- the one list, and a page that other lists name too has the entries that it had.
pub record Exchanges (old new : StoreState Entry) (before after : List ℕ) : Type 0 where
  pub counts : (n : ℕ) → count_at new n + times n before ≡ count_at old n + times n after
  pub pages : (n : ℕ) → times n before < count_at old n → page_at new n ≡ page_at old n
  pub size : length new.counts ≡ length old.counts

-- The pool's fresh and reserved places are what they were; only counts may have changed.
pub record KeepsFresh (old new : PoolState) : Type 0 where
  pub reserved : new.reserved ≡ old.reserved
  pub size : length new.places ≡ length old.places
  pub fresh : (p : ℕ) → IsFresh old p → IsFresh new p
  pub only : (p : ℕ) → IsFresh new p → IsFresh old p

-- Some entries more name their places, and the fresh and reserved places are what they were.
pub record Raises (old new : PoolState) (entries : List Entry) : Type 0 where
  pub counts : (p : ℕ) → count_of new p ≡ count_of old p + named p entries
  pub kept : KeepsFresh old new

-- .. or some entries less
pub record Lowers (old new : PoolState) (entries : List Entry) : Type 0 where
  pub counts : (p : ℕ) → count_of new p + named p entries ≡ count_of old p
  pub kept : KeepsFresh old new

-- Each place that some entries name is counted.
abbrev pub AreCounted : PoolState → List Entry → Type 0
AreCounted pool entries = (p : ℕ) → 1 ≤ named p entries → 1 ≤ count_of pool p

-- The pool counts an entry that stands in no page yet.
pub record IsAwaiting (store : StoreState Entry) (pool : PoolState) (entry : Entry) : Type 0 where
  pub tidy : IsTidy store
  pub counted : (p : ℕ) → count_of pool p ≡ named_in store p + named p (entry ∷ [])

-- The pages that a list names now are ones that it named before, or ones that were unused.
abbrev pub TakesUnused : StoreState Entry → List ℕ → List ℕ → Type 0
TakesUnused old before after = (n : ℕ) → 1 ≤ count_at old n → times n after ≤ times n before
