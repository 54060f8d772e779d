-- One list more names the pages of a volume: what stays the own of other lists, and why a count has room for it.
use Rattle.std.proofs.Common.{ℕ, zero, suc, ◌≡◌, ◌≢◌, ◌+◌, ◌-◌, ◌^◌, ◌<◌, ◌≤◌, ◌==◌, Bool, true, false, cond, List, [], ◌∷◌, ◌++◌, map, length, get_or, Some, find, refl, sym, ap, ◌∙◌, subst, arith}
use Rattle.std.specs.Prelude.{slice_index}
use Rattle.std.specs.List.{All, Contains, position}
use Rattle.std.proofs.lemmas.Bool.{eqb-true, ne_eqb}
use Rattle.std.proofs.lemmas.List.{length-map}
use Rattle.std.proofs.lemmas.List.Elements.{All-nil, All-cons, All-head, All-tail, Contains-get_or}
use Rattle.std.proofs.lemmas.List.Sums.{count_by-le-length}
use Rattle.vv_units.specs.declared.geometry.Geometry.{Geometry}
use Rattle.vv_map.specs.Pages.{StoreState, count_at, IsMapOf}
use Rattle.vv_entries.specs.declared.entry.Entry.{Entry as PlacedEntry}
use Rattle.vv_entries.specs.Entries.{EntriesState}
use Rattle.vv_entries.specs.Changes.{times, Exchanges}
use Rattle.vv_entries.specs.Owners.{all_numbers}
use Rattle.vv_entries.proofs.Owners.{numbers-append, numbers_few, left_one}
use Rattle.vv_entries.proofs.Times.{times-nil, times-append, times_in}
use Rattle.vv_flat.specs.Lists.{if_found}
use Rattle.vv_flat.proofs.Positions.{found_passes}
use Rattle.vv_flat.specs.Chunks.{Entry}
use Rattle.vv_flat.specs.State.{Volume}
use Rattle.vv_vols.specs.declared.row.VolumeRow.{VolumeRow}
use Rattle.vv_vols.specs.declared.row.HeldRow.{HeldRow}
use Rattle.vv_vols.specs.Rows.{OwnPages, is_row, own_in, seen_volume, seen_pages, volume_map, held_map, IsFilled, IsShelf}
use Rattle.vv_vols.proofs.ChangedRow.{found_seen}
use Rattle.vv_vols.proofs.OwnKept.{own_is, own_from}
use Rattle.vv_vols.proofs.Numbers.{pages_fit}
use Rattle.vv_vols.proofs.RowCalls.{row_within, row_of}

times-le-length : (p : ℕ) (ns : List ℕ) → times p ns ≤ length ns
unfolding times
times-le-length p ns = count_by-le-length (λ m. m == p) ns

-- the pages of one volume are among those of all
pub times_one : (rows : List VolumeRow) (i : ℕ) (d : VolumeRow) (p : ℕ) → i < length rows → times p (get_or rows i d).map.numbers ≤ times p (all_numbers (map volume_map rows))
times_one [] i d p lt = absurd (omega arith)
times_one (r ∷ rows) zero d p lt = let parts = times-append p r.map.numbers (all_numbers (map volume_map rows)) in omega arith
times_one (r ∷ rows) (suc i) d p lt = let parts = times-append p r.map.numbers (all_numbers (map volume_map rows)) in let rest = times_one rows i d p (omega arith) in omega arith

-- the pages of a row of another number aren't looked at
pub own_past : (store : StoreState PlacedEntry) (r : VolumeRow) (rows : List VolumeRow) (n k : ℕ) → n ≢ r.id.0 → own_in (map (seen_pages store) (r ∷ rows)) n k ≡ own_in (map (seen_pages store) rows) n k
own_past store r rows n k ne =
    ap (λ b. if_found (cond b (Some (seen_pages store r)) (find (λ (x : OwnPages). x.number == n) (map (seen_pages store) rows))) (λ (x : OwnPages). get_or x.own k false) false)
    (ne_eqb r.id.0 n (λ e. ne (sym e)))

module _ (old new : StoreState PlacedEntry) (shared : List ℕ) (ex : Exchanges old new [] shared) where
  -- a page with one name that stands in a list beside those that are shared keeps its one name
  beside_one : (numbers : List ℕ) → ((p : ℕ) → times p numbers + times p shared ≤ count_at old p) → (k : ℕ) → k < length numbers
      → count_at old (slice_index numbers k) ≡ 1 → count_at new (slice_index numbers k) ≡ 1
  beside_one numbers beside k lt one =
      let here = times_in (slice_index numbers k) numbers k lt refl in
      let all = beside (slice_index numbers k) in
      let counts = ex.counts (slice_index numbers k) in
      let none = times-nil (slice_index numbers k) in
      omega arith

  beside_own : (numbers : List ℕ) → ((p : ℕ) → times p numbers + times p shared ≤ count_at old p) → (k : ℕ)
      → get_or (map (λ n. count_at old n == 1) numbers) k false ≡ true → get_or (map (λ n. count_at new n == 1) numbers) k false ≡ true
  beside_own numbers beside k own = let o = own_is old numbers k own in own_from new numbers k o.0 (beside_one numbers beside k o.0 o.1)

  beside_rows : (rows : List VolumeRow) (n k : ℕ) → ((p : ℕ) → times p (all_numbers (map volume_map rows)) + times p shared ≤ count_at old p)
      → own_in (map (seen_pages old) rows) n k ≡ true → own_in (map (seen_pages new) rows) n k ≡ true
  beside_rows [] n k beside h = h
  beside_rows (r ∷ rows) n k beside h = go (is_row n r)
      (beside_rows rows n k (λ p. let all = beside p in let parts = times-append p r.map.numbers (all_numbers (map volume_map rows)) in omega arith)) h
    where
      go : (b : Bool) → (own_in (map (seen_pages old) rows) n k ≡ true → own_in (map (seen_pages new) rows) n k ≡ true)
          → if_found (cond b (Some (seen_pages old r)) (find (λ (p : OwnPages). p.number == n) (map (seen_pages old) rows))) (λ p. get_or p.own k false) false ≡ true
          → if_found (cond b (Some (seen_pages new r)) (find (λ (p : OwnPages). p.number == n) (map (seen_pages new) rows))) (λ p. get_or p.own k false) false ≡ true
      go true later h = beside_own r.map.numbers (λ p. let all = beside p in let parts = times-append p r.map.numbers (all_numbers (map volume_map rows)) in omega arith) k h
      go false later h = later h

  -- the own pages of every volume but the one whose pages are shared
  other_rows : (rows : List VolumeRow) (i : ℕ) (d : VolumeRow) (n k : ℕ) → i < length rows → (get_or rows i d).map.numbers ≡ shared → n ≢ (get_or rows i d).id.0
      → ((p : ℕ) → times p (all_numbers (map volume_map rows)) ≤ count_at old p)
      → own_in (map (seen_pages old) rows) n k ≡ true → own_in (map (seen_pages new) rows) n k ≡ true
  other_rows [] i d n k lt same ne named h = absurd (omega arith)
  other_rows (r ∷ rows) zero d n k lt same ne named h =
      own_past new r rows n k ne
      ∙ beside_rows rows n k (λ p. let all = named p in let parts = times-append p r.map.numbers (all_numbers (map volume_map rows)) in let is = ap (times p) same in omega arith)
      (sym (own_past old r rows n k ne) ∙ h)
  other_rows (r ∷ rows) (suc i) d n k lt same ne named h = go (is_row n r)
      (other_rows rows i d n k (omega arith) same ne (λ p. let all = named p in let parts = times-append p r.map.numbers (all_numbers (map volume_map rows)) in omega arith)) h
    where
      go : (b : Bool) → (own_in (map (seen_pages old) rows) n k ≡ true → own_in (map (seen_pages new) rows) n k ≡ true)
          → if_found (cond b (Some (seen_pages old r)) (find (λ (p : OwnPages). p.number == n) (map (seen_pages old) rows))) (λ p. get_or p.own k false) false ≡ true
          → if_found (cond b (Some (seen_pages new r)) (find (λ (p : OwnPages). p.number == n) (map (seen_pages new) rows))) (λ p. get_or p.own k false) false ≡ true
      go true later h = beside_own r.map.numbers (λ p.
          let all = named p in
          let parts = times-append p r.map.numbers (all_numbers (map volume_map rows)) in
          let one = times_one rows i d p (omega arith) in
          let is = ap (times p) same in omega arith) k h
      go false later h = later h

  -- and those of lists that tasks fill
  beside_filled : (held : List HeldRow) → ((p : ℕ) → times p (all_numbers (map held_map held)) + times p shared ≤ count_at old p) → All (IsFilled old) held → All (IsFilled new) held
  beside_filled [] beside filled = All-nil (IsFilled new)
  beside_filled (h ∷ held) beside filled = All-cons (IsFilled new) h held
      (λ image k lt. beside_one h.map.numbers
      (λ p. let all = beside p in let parts = times-append p h.map.numbers (all_numbers (map held_map held)) in omega arith) k lt
      (All-head (IsFilled old) h held filled image k lt))
      (beside_filled held (λ p. let all = beside p in let parts = times-append p h.map.numbers (all_numbers (map held_map held)) in omega arith) (All-tail (IsFilled old) h held filled))

module _ (geometry : Geometry) (old : EntriesState) (volumes : List VolumeRow) (held : List HeldRow) (total rooms volume_memory held_memory i n : ℕ) (row : VolumeRow)
    (at : position (is_row n) volumes ≡ Some i) (here : row ≡ get_or volumes i row) (kept : IsShelf geometry old volumes held total rooms volume_memory held_memory) where
  all_names : (p : ℕ) → count_at old.store p ≡ times p (all_numbers (map volume_map volumes)) + times p (all_numbers (map held_map held))
  all_names p = kept.lists.lists.counts p ∙ numbers-append p (map volume_map volumes) (map held_map held)

  lt : i < length volumes
  lt = row_within geometry old volumes held total i n row row at here kept.lists

  numbers_are : (get_or volumes i row).map.numbers ≡ row.map.numbers
  numbers_are = ap (λ (r : VolumeRow). r.map.numbers) (sym here)

  pub row_names : (p : ℕ) → times p row.map.numbers ≤ times p (all_numbers (map volume_map volumes))
  row_names p = let one = times_one volumes i row p lt in let is = ap (times p) numbers_are in omega arith

  -- each page of a volume is counted as often as the volume names it, at least
  pub row_counted : (p : ℕ) → times p row.map.numbers ≤ count_at old.store p
  row_counted p = let all = all_names p in let one = row_names p in omega arith

  pub row_number : row.id.0 ≡ n
  row_number = eqb-true row.id.0 n (found_passes (is_row n) volumes i row at here)

  -- the volume that the row is seen as is one of the shelf's
  pub row_stands : Contains (map (seen_volume old.store) volumes) (seen_volume old.store row)
  row_stands = subst (λ (v : Volume Entry). Contains (map (seen_volume old.store) volumes) v)
      (found_seen old.store volumes i row ∙ ap (seen_volume old.store) (sym here))
      (Contains-get_or (map (seen_volume old.store) volumes) i (seen_volume old.store row) (let l = length-map volumes (seen_volume old.store) in let w = lt in omega arith))

  -- its list stays where another list is shared
  pub row_left : (new : EntriesState) (shared : List ℕ) → Exchanges old.store new.store [] shared → IsMapOf new.store row.map
  row_left new shared ex = (left_one old.store new.store [] shared ex row.map (row_of geometry old volumes held total i n row row at here kept.lists)
      (λ p. let counted = row_counted p in let none = times-nil p in omega arith)).of

  -- no more lists name a page than all lists have entries
  pub few_names : (p : ℕ) → count_at old.store p < 2 ^ 32 - 1
  few_names p =
      let all = kept.lists.lists.counts p in
      let most = times-le-length p (all_numbers (map volume_map volumes ++ map held_map held)) in
      let few = numbers_few old.store (map volume_map volumes ++ map held_map held) kept.lists.lists.maps in
      let fit = pages_fit geometry old volumes held total rooms volume_memory held_memory kept in
      let limit = geometry.map_to in
      let total_few = kept.lists.few in
      omega arith

  -- a list more names the volume's pages
  module _ (new : EntriesState) (ex : Exchanges old.store new.store [] row.map.numbers) where
    pub shared_filled : All (IsFilled new.store) held
    shared_filled = beside_filled old.store new.store row.map.numbers ex held (λ p. let all = all_names p in let one = row_names p in omega arith) kept.filled

    pub shared_own : (m k : ℕ) → m ≢ n → own_in (map (seen_pages old.store) volumes) m k ≡ true → own_in (map (seen_pages new.store) volumes) m k ≡ true
    shared_own m k ne = other_rows old.store new.store row.map.numbers ex volumes i row m k lt numbers_are
        (λ e. ne (e ∙ ap (λ (r : VolumeRow). r.id.0) (sym here) ∙ row_number))
        (λ p. let all = all_names p in omega arith)
