-- What a store of counted pages is, and what a list over its pages is.
use Rattle.std.specs.Prelude.{ℕ, ◌≡◌, ◌≢◌, ◌+◌, ◌-◌, ◌*◌, ◌/◌, ◌%◌, ◌^◌, ◌<◌, ◌≤◌, ◌==◌, min, List, [], ◌++◌, length, take, map, filter, fold, replicate, count_by, slice_index, slice_index_or, slice_set, if◌then◌else◌}
use Rattle.std.specs.List.{flat_map}
use Rattle.vv_map.specs.Rooms.{MapState}

-- The entries of each page, by its number, and how many lists name it. A page that none names is unused.
pub record StoreState (E : Type 0) : Type 0 where
  pub pages : List (List E)
  pub counts : List ℕ

-- the entries of a page
abbrev pub page_at : {E : Type 0} → StoreState E → ℕ → List E
page_at store number = slice_index_or store.pages number []

-- how many lists name a page
abbrev pub count_at : {E : Type 0} → StoreState E → ℕ → ℕ
count_at store number = slice_index store.counts number

-- how many pages are unused
abbrev pub unused_pages : {E : Type 0} → StoreState E → ℕ
unused_pages store = count_by (λ count. count == 0) store.counts

-- the entries of a list over pages
abbrev pub list_of : {E : Type 0} → StoreState E → MapState → List E
list_of store map = flat_map (page_at store) map.numbers

-- how many pages a list of n entries has
abbrev pub pages_for : ℕ → ℕ
pages_for n = (n + 63) / 64

-- a page has these entries and this count
abbrev pub with_page : {E : Type 0} → StoreState E → ℕ → List E → ℕ → StoreState E
with_page store number entries count = record {
  pages = slice_set store.pages number entries;
  counts = slice_set store.counts number count;
}

-- a page has these entries
abbrev pub with_entries : {E : Type 0} → StoreState E → ℕ → List E → StoreState E
with_entries store number entries = record { pages = slice_set store.pages number entries; counts = store.counts }

-- a page has this count
abbrev pub with_count : {E : Type 0} → StoreState E → ℕ → ℕ → StoreState E
with_count store number count = record { pages = store.pages; counts = slice_set store.counts number count }

-- the last page of a list has entries as far as a list of n entries goes
abbrev pub last_filled : {E : Type 0} → StoreState E → MapState → ℕ → E → StoreState E
last_filled store map n entry =
    let number = slice_index map.numbers (map.len / 64) in
    let more = min 64 (n - 64 * (map.len / 64)) - map.len % 64 in
    if map.len % 64 == 0 then store else with_entries store number (page_at store number ++ replicate more entry)

-- so many unused pages more
abbrev pub extended : {E : Type 0} → StoreState E → ℕ → StoreState E
extended store n = record { pages = store.pages ++ replicate n []; counts = store.counts ++ replicate n 0 }

-- one list more names a page
abbrev pub raised : {E : Type 0} → StoreState E → ℕ → StoreState E
raised store number = with_count store number (count_at store number + 1)

-- one list less names a page: where that was the last, its entries go
abbrev pub lowered : {E : Type 0} → StoreState E → ℕ → StoreState E
lowered store number =
    if count_at store number == 1 then with_page store number [] 0
    else with_count store number (count_at store number - 1)

-- one list more, or less, names each of these pages
abbrev pub all_raised : {E : Type 0} → StoreState E → List ℕ → StoreState E
all_raised store numbers = fold raised store numbers

abbrev pub all_lowered : {E : Type 0} → StoreState E → List ℕ → StoreState E
all_lowered store numbers = fold lowered store numbers

-- the entries of those of these pages that are named once
abbrev pub ending_entries : {E : Type 0} → StoreState E → List ℕ → List E
ending_entries store numbers = flat_map (page_at store) (filter (λ number. count_at store number == 1) numbers)

-- A list of this store: it names each of its pages once, each counts it, and all but the last page are full.
pub record IsMapOf {E : Type 0} (store : StoreState E) (map : MapState) : Type 0 where
  pub counted : (i : ℕ) → i < length map.numbers → 1 ≤ count_at store (slice_index map.numbers i)
  pub apart : (i j : ℕ) → i < j → j < length map.numbers → slice_index map.numbers i ≢ slice_index map.numbers j
  pub sizes : (i : ℕ) → i < length map.numbers → length (page_at store (slice_index map.numbers i)) ≡ min 64 (map.len - 64 * i)
  pub size : length map.numbers ≡ pages_for map.len

-- A list got a copy of its page at place i: an unused page has the entries now, and one list less names the old one.
pub record Unshares {E : Type 0} (old new : StoreState E) (map map' : MapState) (i : ℕ) : Type 0 where
  pub unused : count_at old (slice_index map'.numbers i) ≡ 0
  pub within : slice_index map'.numbers i < length old.counts
  pub page : slice_index map'.numbers i < length old.pages
  pub copied : new ≡ with_page (lowered old (slice_index map.numbers i)) (slice_index map'.numbers i) (page_at old (slice_index map.numbers i)) 1
  pub numbers : map'.numbers ≡ slice_set map.numbers i (slice_index map'.numbers i)
  pub len : map'.len ≡ map.len
  pub memory : map'.memory ≡ map.memory
  pub left : unused_pages new + 1 ≡ unused_pages old

-- Unused pages became the further pages of a list, with equal entries as far as a list of n entries goes.
pub record Appends {E : Type 0} (old new : StoreState E) (numbers numbers' : List ℕ) (n : ℕ) (entry : E) : Type 0 where
  pub first : take (length numbers) numbers' ≡ numbers
  pub longer : length numbers ≤ length numbers'
  pub unused : (i : ℕ) → length numbers ≤ i → i < length numbers' → count_at old (slice_index numbers' i) ≡ 0
  pub counted : (i : ℕ) → length numbers ≤ i → i < length numbers' → count_at new (slice_index numbers' i) ≡ 1
  pub filled : (i : ℕ) → length numbers ≤ i → i < length numbers' → page_at new (slice_index numbers' i) ≡ replicate (min 64 (n - 64 * i)) entry
  pub apart : (i j : ℕ) → length numbers ≤ i → i < j → j < length numbers' → slice_index numbers' i ≢ slice_index numbers' j
  pub other_pages : (p : ℕ) → 1 ≤ count_at old p → page_at new p ≡ page_at old p
  pub other_counts : (p : ℕ) → 1 ≤ count_at old p → count_at new p ≡ count_at old p
  pub still_unused : (p : ℕ) → count_at old p ≡ 0 → ((i : ℕ) → length numbers ≤ i → i < length numbers' → slice_index numbers' i ≢ p) → (page_at new p ≡ page_at old p) × (count_at new p ≡ 0)
  pub pages : length new.pages ≡ length old.pages
  pub counts : length new.counts ≡ length old.counts
  pub left : unused_pages new + length numbers' ≡ unused_pages old + length numbers

-- What a store keeps: pages and counts go together, and the unused pages are listed, each once, in a list with memory for all.
pub record IsStore {E : Type 0} (pages : List (List E)) (counts unused : List ℕ) (memory : ℕ) : Type 0 where
  pub same : length counts ≡ length pages
  pub few : length pages < 2 ^ 32
  pub room : length pages ≤ memory
  pub within : (i : ℕ) → i < length unused → slice_index unused i < length counts
  pub zero : (i : ℕ) → i < length unused → slice_index counts (slice_index unused i) ≡ 0
  pub apart : (i j : ℕ) → i < j → j < length unused → slice_index unused i ≢ slice_index unused j
  pub all : length unused ≡ count_by (λ count. count == 0) counts
