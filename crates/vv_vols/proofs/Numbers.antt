-- The kept numbers of a shelf: allocated entries after a write, the pages that all lists take, and fresh places after one was put.
use Rattle.std.proofs.Common.{ℕ, zero, suc, ◌≡◌, ◌+◌, ◌-◌, ◌^◌, ◌<◌, ◌≤◌, ◌==◌, Bool, true, false, cond, not, filter, List, [], ◌∷◌, ◌++◌, map, length, get_or, set, sum_by, Some, find, replicate, refl, sym, ap, ◌∙◌, subst, ⊎_elim, arith}
use Rattle.std.specs.Prelude.{slice_get, Result, Ok, Err, IfOk}
use Rattle.std.specs.List.{All}
use Rattle.std.proofs.lemmas.Bool.{cases_Bool, eq-eqb, ne_eqb}
use Rattle.std.proofs.lemmas.Option.{get_or_from_slice_get}
use Rattle.std.proofs.lemmas.List.{length-map}
use Rattle.std.proofs.lemmas.List.Elements.{All-head, All-tail}
use Rattle.std.proofs.lemmas.List.Sums.{sum_by-set, sum_by-cons, sum_by-append}
use Rattle.vv_units.specs.declared.geometry.Geometry.{Geometry}
use Rattle.vv_map.specs.Rooms.{MapState}
use Rattle.vv_map.specs.Pages.{StoreState, list_of, pages_for, count_at, unused_pages, IsMapOf}
use Rattle.vv_pool.specs.declared.place_use.PlaceUse.{PlaceUse}
use Rattle.vv_pool.specs.declared.place_use.PlaceUse.TheVariants.{Counted, Fresh}
use Rattle.vv_entries.specs.declared.entry.Entry.{Entry as PlacedEntry}
use Rattle.vv_entries.specs.Entries.{EntriesState, unmapped}
use Rattle.vv_entries.proofs.Owners.{All-front, All-back, unused_left, unused_shared}
use Rattle.vv_flat.specs.Lists.{if_found, numbers_from}
use Rattle.vv_flat.specs.State.{Volume}
use Rattle.vv_flat.specs.Chunks.{Entry}
use Rattle.vv_vols.specs.Shelf.{HeldList, is_volume, size_in}
use Rattle.vv_vols.specs.declared.row.VolumeRow.{VolumeRow}
use Rattle.vv_vols.specs.declared.row.HeldRow.{HeldRow}
use Rattle.vv_vols.specs.Rows.{seen_entry, seen_entries, seen_volume, seen_held, seen_shelf, with_indexes, held_indexes, fresh_from, allocated_in, volume_map, held_map, IsShelf}
use Rattle.vv_vols.proofs.OwnKept.{list_len}

-- ---- allocated entries
abbrev mapped_bit : PlacedEntry → ℕ
mapped_bit e = cond (not (e.stamp == 0)) 1 0

allocated-set : (es : List PlacedEntry) (i : ℕ) (e before : PlacedEntry) → i < length es → slice_get es i ≡ Some before → allocated_in (set es i e) + mapped_bit before ≡ allocated_in es + mapped_bit e
allocated-set es i e before lt there =
    let was = get_or_from_slice_get es i before before there in
    let sums = sum_by-set (λ (x : PlacedEntry). cond (not (x.stamp == 0)) 1 0) es i e before lt in
    subst (λ (x : PlacedEntry). allocated_in (set es i e) + mapped_bit x ≡ allocated_in es + mapped_bit e) was sums

bit_of_none : (e : PlacedEntry) → (e.stamp == 0) ≡ true → mapped_bit e ≡ 0
bit_of_none e h = ap (λ b. cond (not b) 1 0) h

bit_of_some : (e : PlacedEntry) → (e.stamp == 0) ≡ false → mapped_bit e ≡ 1
bit_of_some e h = ap (λ b. cond (not b) 1 0) h

-- an entry that is allocated came
pub allocated_put : (es : List PlacedEntry) (i a a' : ℕ) (e before : PlacedEntry) → i < length es → slice_get es i ≡ Some before → (e.stamp == 0) ≡ false
    → a ≡ allocated_in es → a' ≡ cond (before.stamp == 0) (a + 1) a → a' ≡ allocated_in (set es i e)
allocated_put es i a a' e before lt there mapped was is =
    let sums = allocated-set es i e before lt there in
    let one = bit_of_some e mapped in
    ⊎_elim
    (λ zero_before. let none = bit_of_none before zero_before in let now : a' ≡ a + 1 = is ∙ ap (λ b. cond b (a + 1) a) zero_before in omega arith)
    (λ some_before. let some = bit_of_some before some_before in let now : a' ≡ a = is ∙ ap (λ b. cond b (a + 1) a) some_before in omega arith)
    (cases_Bool (before.stamp == 0))

-- one that isn't came
pub allocated_taken : (es : List PlacedEntry) (i a a' : ℕ) (e before : PlacedEntry) → i < length es → slice_get es i ≡ Some before → (e.stamp == 0) ≡ true
    → a ≡ allocated_in es → a' + mapped_bit before ≡ a → a' ≡ allocated_in (set es i e)
allocated_taken es i a a' e before lt there unmapped was is =
    let sums = allocated-set es i e before lt there in
    let zero_now = bit_of_none e unmapped in
    omega arith

-- an entry that is allocated is counted
pub allocated_some : (es : List PlacedEntry) (i : ℕ) (before : PlacedEntry) → i < length es → slice_get es i ≡ Some before → (before.stamp == 0) ≡ false → 1 ≤ allocated_in es
allocated_some es i before lt there mapped =
    let sums = allocated-set es i unmapped before lt there in
    let zero_now = bit_of_none unmapped refl in
    let one = bit_of_some before mapped in
    omega arith

pub allocated_unmapped : (es : List PlacedEntry) (i a a' : ℕ) (before : PlacedEntry) → i < length es → slice_get es i ≡ Some before
    → a ≡ allocated_in es → a' ≡ cond (before.stamp == 0) a (a - 1) → a' ≡ allocated_in (set es i unmapped)
allocated_unmapped es i a a' before lt there was is = ⊎_elim
    (λ zero_before. let none = bit_of_none before zero_before in let now : a' ≡ a = is ∙ ap (λ b. cond b a (a - 1)) zero_before in
    allocated_taken es i a a' unmapped before lt there refl was (omega arith))
    (λ some_before.
    let some = bit_of_some before some_before in let now : a' ≡ a - 1 = is ∙ ap (λ b. cond b a (a - 1)) some_before in
    let one = allocated_some es i before lt there some_before in
    allocated_taken es i a a' unmapped before lt there refl was (omega arith))
    (cases_Bool (before.stamp == 0))

-- one replaced another
pub allocated_replaced : (es : List PlacedEntry) (i a a' : ℕ) (e before : PlacedEntry) → i < length es → slice_get es i ≡ Some before → a ≡ allocated_in es
    → ((e.stamp == 0) ≡ true → a' ≡ cond (before.stamp == 0) a (a - 1)) → ((e.stamp == 0) ≡ false → a' ≡ cond (before.stamp == 0) (a + 1) a) → a' ≡ allocated_in (set es i e)
allocated_replaced es i a a' e before lt there was none one = ⊎_elim
    (λ zero_now. ⊎_elim
    (λ zero_before. let bit = bit_of_none before zero_before in let now : a' ≡ a = none zero_now ∙ ap (λ b. cond b a (a - 1)) zero_before in
    allocated_taken es i a a' e before lt there zero_now was (omega arith))
    (λ some_before.
    let bit = bit_of_some before some_before in let now : a' ≡ a - 1 = none zero_now ∙ ap (λ b. cond b a (a - 1)) some_before in
    let some = allocated_some es i before lt there some_before in
    allocated_taken es i a a' e before lt there zero_now was (omega arith))
    (cases_Bool (before.stamp == 0)))
    (λ some_now. allocated_put es i a a' e before lt there some_now was (one some_now))
    (cases_Bool (e.stamp == 0))

-- ---- entries and pages of all lists
with_len : (is : List ℕ) (es : List Entry) → length is ≡ length es → length (with_indexes is es) ≡ length es
with_len [] [] e = refl
with_len [] (x ∷ es) e = absurd (omega arith)
with_len (i ∷ is) [] e = absurd (omega arith)
with_len (i ∷ is) (x ∷ es) e = ap suc (with_len is es (omega arith))

volumes_fit : (store : StoreState PlacedEntry) (rows : List VolumeRow) → All (λ (m : MapState). IsMapOf store m) (map volume_map rows)
    → sum_by (λ (m : MapState). pages_for m.len) (map volume_map rows) ≤ sum_by (λ (v : Volume Entry). length v.chunks) (map (seen_volume store) rows)
volumes_fit store [] maps = omega arith
volumes_fit store (r ∷ rows) maps =
    let of = All-head (λ (m : MapState). IsMapOf store m) (volume_map r) (map volume_map rows) maps in
    let rest = volumes_fit store rows (All-tail (λ (m : MapState). IsMapOf store m) (volume_map r) (map volume_map rows) maps) in
    let len : length (seen_volume store r).chunks ≡ r.map.len = length-map (list_of store r.map) seen_entry ∙ list_len store r.map of in
    let pages = sum_by-cons (λ (m : MapState). pages_for m.len) (volume_map r) (map volume_map rows) in
    let chunks = sum_by-cons (λ (v : Volume Entry). length v.chunks) (seen_volume store r) (map (seen_volume store) rows) in
    omega arith

volumes_fit_but : (store : StoreState PlacedEntry) (rows : List VolumeRow) (i : ℕ) (d : VolumeRow) → All (λ (m : MapState). IsMapOf store m) (map volume_map rows) → i < length rows
    → sum_by (λ (m : MapState). pages_for m.len) (map volume_map rows) + length (list_of store (get_or rows i d).map)
    ≤ sum_by (λ (v : Volume Entry). length v.chunks) (map (seen_volume store) rows) + pages_for (get_or rows i d).map.len
volumes_fit_but store [] i d maps lt = absurd (omega arith)
volumes_fit_but store (r ∷ rows) zero d maps lt =
    let rest = volumes_fit store rows (All-tail (λ (m : MapState). IsMapOf store m) (volume_map r) (map volume_map rows) maps) in
    let len : length (seen_volume store r).chunks ≡ length (list_of store r.map) = length-map (list_of store r.map) seen_entry in
    let pages = sum_by-cons (λ (m : MapState). pages_for m.len) (volume_map r) (map volume_map rows) in
    let chunks = sum_by-cons (λ (v : Volume Entry). length v.chunks) (seen_volume store r) (map (seen_volume store) rows) in
    omega arith
volumes_fit_but store (r ∷ rows) (suc i) d maps lt =
    let of = All-head (λ (m : MapState). IsMapOf store m) (volume_map r) (map volume_map rows) maps in
    let rest = volumes_fit_but store rows i d (All-tail (λ (m : MapState). IsMapOf store m) (volume_map r) (map volume_map rows) maps) (omega arith) in
    let len : length (seen_volume store r).chunks ≡ r.map.len = length-map (list_of store r.map) seen_entry ∙ list_len store r.map of in
    let pages = sum_by-cons (λ (m : MapState). pages_for m.len) (volume_map r) (map volume_map rows) in
    let chunks = sum_by-cons (λ (v : Volume Entry). length v.chunks) (seen_volume store r) (map (seen_volume store) rows) in
    omega arith

-- what is found is at most the sum of all
found-le-sum : {A : Type 0} (p : A → Bool) (f : A → ℕ) (xs : List A) → if_found (find p xs) f 0 ≤ sum_by f xs
found-le-sum p f [] = omega arith
found-le-sum p f (x ∷ xs) = go (p x) (found-le-sum p f xs)
  where
    go : (b : Bool) → if_found (find p xs) f 0 ≤ sum_by f xs → if_found (cond b (Some x) (find p xs)) f 0 ≤ sum_by f (x ∷ xs)
    go true later = let sums = sum_by-cons f x xs in omega arith
    go false later = let sums = sum_by-cons f x xs in omega arith

pub length-numbers_from : (first count : ℕ) → length (numbers_from first count) ≡ count
length-numbers_from first zero = refl
length-numbers_from first (suc count) = ap suc (length-numbers_from (first + 1) count)

pub if_ok_weaker : {A E : Type 0} (r : Result A E) (P Q : A → Type 0) → ((x : A) → P x → Q x) → IfOk r P → IfOk r Q
if_ok_weaker (Ok x) P Q f h = f x h
if_ok_weaker (Err e) P Q f h = h

-- unmapped entries aren't allocated
pub none_allocated : (n : ℕ) → allocated_in (replicate n unmapped) ≡ 0
none_allocated zero = refl
none_allocated (suc n) = let sums = sum_by-cons (λ (x : PlacedEntry). cond (not (x.stamp == 0)) 1 0) unmapped (replicate n unmapped) in let rest = none_allocated n in sums ∙ ap (λ k. 0 + k) rest

pub allocated_grown : (es : List PlacedEntry) (n : ℕ) → allocated_in (es ++ replicate n unmapped) ≡ allocated_in es
allocated_grown es n =
    let sums = sum_by-append (λ (x : PlacedEntry). cond (not (x.stamp == 0)) 1 0) es (replicate n unmapped) in
    let none = none_allocated n in
    sums ∙ ap (λ k. allocated_in es + k) none ∙ omega arith

held_fit : (store : StoreState PlacedEntry) (rows : List HeldRow) → All (λ (m : MapState). IsMapOf store m) (map held_map rows) → All (λ (row : HeldRow). length (held_indexes row.indexes row.map.len) ≡ row.map.len) rows
    → sum_by (λ (m : MapState). pages_for m.len) (map held_map rows) ≤ sum_by (λ (h : HeldList). length h.pieces) (map (seen_held store) rows)
held_fit store [] maps indexed = omega arith
held_fit store (r ∷ rows) maps indexed =
    let of = All-head (λ (m : MapState). IsMapOf store m) (held_map r) (map held_map rows) maps in
    let own = All-head (λ (row : HeldRow). length (held_indexes row.indexes row.map.len) ≡ row.map.len) r rows indexed in
    let rest = held_fit store rows (All-tail (λ (m : MapState). IsMapOf store m) (held_map r) (map held_map rows) maps) (All-tail (λ (row : HeldRow). length (held_indexes row.indexes row.map.len) ≡ row.map.len) r rows indexed) in
    let entries : length (seen_entries (list_of store r.map)) ≡ r.map.len = length-map (list_of store r.map) seen_entry ∙ list_len store r.map of in
    let len = with_len (held_indexes r.indexes r.map.len) (seen_entries (list_of store r.map)) (own ∙ sym entries) in
    let pages = sum_by-cons (λ (m : MapState). pages_for m.len) (held_map r) (map held_map rows) in
    let pieces = sum_by-cons (λ (h : HeldList). length h.pieces) (seen_held store r) (map (seen_held store) rows) in
    omega arith

module _ (geometry : Geometry) (entries : EntriesState) (volumes : List VolumeRow) (held : List HeldRow) (total rooms volume_memory held_memory : ℕ)
    (kept : IsShelf geometry entries volumes held total rooms volume_memory held_memory) where
  -- no more pages than entries
  pub pages_fit : sum_by (λ (m : MapState). pages_for m.len) (map volume_map volumes ++ map held_map held) ≤ total
  pages_fit =
      let both = sum_by-append (λ (m : MapState). pages_for m.len) (map volume_map volumes) (map held_map held) in
      let vs = volumes_fit entries.store volumes (All-front (λ (m : MapState). IsMapOf entries.store m) (map volume_map volumes) (map held_map held) kept.lists.lists.maps) in
      let hs = held_fit entries.store held (All-back (λ (m : MapState). IsMapOf entries.store m) (map volume_map volumes) (map held_map held) kept.lists.lists.maps) kept.indexed in
      let sum = kept.lists.summed in
      omega arith

  -- so many pages are unused,
  pub pages_left : geometry.map_chunks ≤ unused_pages entries.store + total
  pages_left = let left = unused_left entries.store (map volume_map volumes ++ map held_map held) kept.lists.lists in let fit = pages_fit in let size = kept.lists.pages in omega arith

  -- and one where a page is shared
  pub page_left : (k : ℕ) → 2 ≤ count_at entries.store k → 1 ≤ unused_pages entries.store
  page_left k two =
      let left = unused_shared entries.store (map volume_map volumes ++ map held_map held) k kept.lists.lists two in
      let fit = pages_fit in let size = kept.lists.pages in let few = kept.lists.few in omega arith

  -- no volume has more chunks than all lists
  pub size_few : (n : ℕ) → size_in (seen_shelf geometry entries volumes held) n ≤ 2 ^ 20
  size_few n =
      let most = found-le-sum (is_volume n) (λ (v : Volume Entry). length v.chunks) (map (seen_volume entries.store) volumes) in
      let sum = kept.lists.summed in let few = kept.lists.few in let limit = geometry.map_to in omega arith

  -- the pages that the lists leave beside those of one volume
  pub pages_beside : (i : ℕ) (row : VolumeRow) → i < length volumes → row ≡ get_or volumes i row
      → geometry.map_chunks + length (list_of entries.store row.map) ≤ unused_pages entries.store + total + pages_for row.map.len
  pages_beside i row lt here =
      let both = sum_by-append (λ (m : MapState). pages_for m.len) (map volume_map volumes) (map held_map held) in
      let vs = volumes_fit_but entries.store volumes i row (All-front (λ (m : MapState). IsMapOf entries.store m) (map volume_map volumes) (map held_map held) kept.lists.lists.maps) lt in
      let is : length (list_of entries.store (get_or volumes i row).map) ≡ length (list_of entries.store row.map) = ap (λ (r : VolumeRow). length (list_of entries.store r.map)) (sym here) in
      let len : pages_for (get_or volumes i row).map.len ≡ pages_for row.map.len = ap (λ (r : VolumeRow). pages_for r.map.len) (sym here) in
      let hs = held_fit entries.store held (All-back (λ (m : MapState). IsMapOf entries.store m) (map volume_map volumes) (map held_map held) kept.lists.lists.maps) kept.indexed in
      let left = unused_left entries.store (map volume_map volumes ++ map held_map held) kept.lists.lists in
      let size = kept.lists.pages in
      let sum = kept.lists.summed in
      omega arith

-- ---- fresh places
low_out : (p at : ℕ) (us : List PlaceUse) → p < at → filter (λ q. not (q == p)) (fresh_from at us) ≡ fresh_from at us
low_out p at [] lt = refl
low_out p at (Fresh ∷ us) lt =
    ap (λ b. cond (not b) (at ∷ filter (λ q. not (q == p)) (fresh_from (at + 1) us)) (filter (λ q. not (q == p)) (fresh_from (at + 1) us))) (ne_eqb at p (λ e. absurd (omega arith)))
    ∙ ap (λ qs. at ∷ qs) (low_out p (at + 1) us (omega arith))
low_out p at (Counted n ∷ us) lt = low_out p (at + 1) us (omega arith)

fresh-set : (at k p n : ℕ) (us : List PlaceUse) → p ≡ at + k → fresh_from at (set us k (Counted n)) ≡ filter (λ q. not (q == p)) (fresh_from at us)
fresh-set at k p n [] e = refl
fresh-set at zero p n (Fresh ∷ us) e =
    sym (low_out p (at + 1) us (omega arith))
    ∙ sym (ap (λ b. cond (not b) (at ∷ filter (λ q. not (q == p)) (fresh_from (at + 1) us)) (filter (λ q. not (q == p)) (fresh_from (at + 1) us))) (eq-eqb at p (omega arith)))
fresh-set at zero p n (Counted m ∷ us) e = sym (low_out p (at + 1) us (omega arith))
fresh-set at (suc k) p n (Fresh ∷ us) e =
    ap (λ qs. at ∷ qs) (fresh-set (at + 1) k p n us (omega arith))
    ∙ sym (ap (λ b. cond (not b) (at ∷ filter (λ q. not (q == p)) (fresh_from (at + 1) us)) (filter (λ q. not (q == p)) (fresh_from (at + 1) us))) (ne_eqb at p (λ same. absurd (omega arith))))
fresh-set at (suc k) p n (Counted m ∷ us) e = fresh-set (at + 1) k p n us (omega arith)

-- a place that is counted from now on isn't fresh
pub fresh_out : (us : List PlaceUse) (p n : ℕ) → fresh_from 0 (set us p (Counted n)) ≡ filter (λ q. not (q == p)) (fresh_from 0 us)
fresh_out us p n = fresh-set 0 p p n us (omega arith)
