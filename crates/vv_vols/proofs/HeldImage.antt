-- One more held list, over the pages of a volume's list: what a shelf keeps, and what is seen of it.
use Rattle.std.proofs.Common.{ℕ, ◌≡◌, ◌≢◌, ◌+◌, ◌-◌, ◌^◌, ◌<◌, ◌≤◌, ◌==◌, Bool, true, false, cond, List, [], ◌∷◌, ◌++◌, map, length, get_or, Some, find, inl, refl, sym, ap, ◌∙◌, subst, ⊎_elim, arith}
use Rattle.std.specs.Prelude.{slice_index}
use Rattle.std.specs.List.{All, Contains, position}
use Rattle.std.proofs.lemmas.Bool.{cases_eq, eqb-true}
use Rattle.std.proofs.lemmas.List.{length-map}
use Rattle.std.proofs.lemmas.List.Concat.{flat_map-append}
use Rattle.std.proofs.lemmas.List.Elements.{All-nil, All-cons, All-head, All-tail}
use Rattle.vv_units.specs.declared.geometry.Geometry.{Geometry}
use Rattle.vv_map.specs.Rooms.{MapState}
use Rattle.vv_map.specs.Pages.{StoreState, list_of, count_at, IsMapOf}
use Rattle.vv_entries.specs.declared.entry.Entry.{Entry as PlacedEntry}
use Rattle.vv_entries.specs.Entries.{EntriesState}
use Rattle.vv_entries.specs.Changes.{times, Exchanges}
use Rattle.vv_entries.specs.Owners.{all_numbers}
use Rattle.vv_entries.proofs.Times.{same_bit_yes, same_bit_no, times-nil, times-cons, times-append, times_in}
use Rattle.vv_entries.proofs.Owners.{numbers_few}
use Rattle.vv_flat.specs.Lists.{if_found, numbers_from, put_before}
use Rattle.vv_flat.specs.State.{indexed}
use Rattle.vv_flat.proofs.Positions.{found_is}
use Rattle.vv_vols.specs.declared.row.VolumeRow.{VolumeRow}
use Rattle.vv_vols.specs.declared.row.HeldRow.{HeldRow}
use Rattle.vv_vols.specs.declared.row.HeldIndexes.TheVariants.{FromZero}
use Rattle.vv_vols.specs.Shelf.{HeldList, chunks_in, first_gap, next_held, shares_rightly}
use Rattle.vv_vols.specs.Calls.{with_held, new_held}
use Rattle.vv_vols.specs.Rows.{OwnPages, is_row, is_held_above, seen_entry, seen_entries, seen_held, seen_pages, own_pages, seen_shelf, own_in, volume_map, held_map, held_numbers, with_indexes, allocated_in, IsFilled, IsShelf}
use Rattle.vv_vols.proofs.Kept.{held_shares}
use Rattle.vv_vols.proofs.OwnKept.{list_len, own_is, own_from}
use Rattle.vv_vols.proofs.Numbers.{length-numbers_from, pages_fit}
use Rattle.vv_vols.proofs.RowCalls.{row_allocated}
use Rattle.vv_vols.proofs.ReadRow.{here_chunks}
use Rattle.vv_vols.proofs.HeldPieces.{with_all}
use Rattle.vv_vols.proofs.HeldShares.{in_chunks}
use Rattle.vv_vols.proofs.HeldTarget.{held_numbers_seen}
use Rattle.vv_vols.proofs.AddedHeld.{added_held_seen, added_held_kept}

-- ---- how often pages are named
times_few : (k : ℕ) (ns : List ℕ) → times k ns ≤ length ns
times_few k [] = let z = times-nil k in omega arith
times_few k (n ∷ ns) =
    let rest = times_few k ns in let both = times-cons k n ns in
    ⊎_elim (λ e. let one = same_bit_yes n k e in omega arith) (λ ne. let none = same_bit_no n k ne in omega arith) (cases_eq n k)

pub times_joined : (k : ℕ) (ms ls : List MapState) → times k (all_numbers (ms ++ ls)) ≡ times k (all_numbers ms) + times k (all_numbers ls)
times_joined k ms ls = ap (times k) (flat_map-append (λ (m : MapState). m.numbers) ms ls) ∙ times-append k (all_numbers ms) (all_numbers ls)

pub times_found : {R : Type 0} (map_of : R → MapState) (p : R → Bool) (k : ℕ) (rows : List R) (r : R) → find p rows ≡ Some r → times k (map_of r).numbers ≤ times k (all_numbers (map map_of rows))
times_found map_of p k [] r e = absurd (cc)
times_found map_of p k (q ∷ rows) r e = go (p q) (times_found map_of p k rows r) e
  where
    go : (b : Bool) → (find p rows ≡ Some r → times k (map_of r).numbers ≤ times k (all_numbers (map map_of rows))) → cond b (Some q) (find p rows) ≡ Some r
        → times k (map_of r).numbers ≤ times k (all_numbers (map map_of (q ∷ rows)))
    go true later e =
        let same : q ≡ r = cc in
        let is = ap (λ (x : _). times k (map_of x).numbers) same in
        let both = times-append k (map_of q).numbers (all_numbers (map map_of rows)) in omega arith
    go false later e = let rest = later e in let both = times-append k (map_of q).numbers (all_numbers (map map_of rows)) in omega arith

-- no page is named more often than there are entries
module _ (geometry : Geometry) (old : EntriesState) (volumes : List VolumeRow) (held : List HeldRow) (total rooms volume_memory held_memory : ℕ)
    (kept : IsShelf geometry old volumes held total rooms volume_memory held_memory) where
  pub count_few : (k : ℕ) → count_at old.store k < 2 ^ 32 - 1
  count_few k =
      let is = kept.lists.lists.counts k in
      let few = times_few k (all_numbers (map volume_map volumes ++ map held_map held)) in
      let all = numbers_few old.store (map volume_map volumes ++ map held_map held) kept.lists.lists.maps in
      let fit = pages_fit geometry old volumes held total rooms volume_memory held_memory kept in
      let sum = kept.lists.few in
      let limit = geometry.map_to in
      omega arith

-- ---- pages that are a list's own while others are shared
module _ (old new : StoreState PlacedEntry) (shared : List ℕ) (ex : Exchanges old new [] shared) where
  stays_one : (k : ℕ) → count_at old k ≡ 1 → times k shared ≡ 0 → count_at new k ≡ 1
  stays_one k one none = let e = ex.counts k in let z = times-nil k in omega arith

  own_one : (m : MapState) (k : ℕ) → ((j : ℕ) → times j m.numbers + times j shared ≤ count_at old j) → get_or (own_pages old m) k false ≡ true → get_or (own_pages new m) k false ≡ true
  own_one m k beside own =
      let o = own_is old m.numbers k own in
      let j = slice_index m.numbers k in
      let some = times_in j m.numbers k o.0 refl in
      let most = beside j in
      let one = o.1 in
      own_from new m.numbers k o.0 (stays_one j one (omega arith))

  filled_shared : (held : List HeldRow) → ((j : ℕ) → times j (all_numbers (map held_map held)) + times j shared ≤ count_at old j) → All (IsFilled old) held → All (IsFilled new) held
  filled_shared [] beside filled = All-nil (IsFilled new)
  filled_shared (h ∷ held) beside filled = All-cons (IsFilled new) h held
      (λ image i lt.
      let j = slice_index h.map.numbers i in
      let one = All-head (IsFilled old) h held filled image i lt in
      let some = times_in j h.map.numbers i lt refl in
      let most = beside j in
      let both = times-append j h.map.numbers (all_numbers (map held_map held)) in
      stays_one j one (omega arith))
      (filled_shared held (λ j. let most = beside j in let both = times-append j h.map.numbers (all_numbers (map held_map held)) in omega arith) (All-tail (IsFilled old) h held filled))

  own_beside : (rows : List VolumeRow) (v k : ℕ) → ((j : ℕ) → times j (all_numbers (map volume_map rows)) + times j shared ≤ count_at old j)
      → own_in (map (seen_pages old) rows) v k ≡ true → own_in (map (seen_pages new) rows) v k ≡ true
  own_beside [] v k beside h = h
  own_beside (r ∷ rows) v k beside h =
      go (is_row v r)
      (own_one r.map k (λ j. let most = beside j in let both = times-append j r.map.numbers (all_numbers (map volume_map rows)) in omega arith))
      (own_beside rows v k (λ j. let most = beside j in let both = times-append j r.map.numbers (all_numbers (map volume_map rows)) in omega arith)) h
    where
      go : (b : Bool) → (get_or (own_pages old r.map) k false ≡ true → get_or (own_pages new r.map) k false ≡ true)
          → (own_in (map (seen_pages old) rows) v k ≡ true → own_in (map (seen_pages new) rows) v k ≡ true)
          → if_found (cond b (Some (seen_pages old r)) (find (λ (p : OwnPages). p.number == v) (map (seen_pages old) rows))) (λ p. get_or p.own k false) false ≡ true
          → if_found (cond b (Some (seen_pages new r)) (find (λ (p : OwnPages). p.number == v) (map (seen_pages new) rows))) (λ p. get_or p.own k false) false ≡ true
      go true one later h = one h
      go false one later h = later h

  own_others : (rows : List VolumeRow) (id v k : ℕ) (row : VolumeRow) → v ≢ id → find (is_row id) rows ≡ Some row → row.map.numbers ≡ shared
      → ((j : ℕ) → times j (all_numbers (map volume_map rows)) ≤ count_at old j)
      → own_in (map (seen_pages old) rows) v k ≡ true → own_in (map (seen_pages new) rows) v k ≡ true
  own_others [] id v k row ne found is all h = h
  own_others (r ∷ rows) id v k row ne found is all h =
      go (is_row v r) (is_row id r) refl refl found (own_others rows id v k row ne)
      h
    where
      parts : (j : ℕ) → times j (all_numbers (map volume_map (r ∷ rows))) ≡ times j r.map.numbers + times j (all_numbers (map volume_map rows))
      parts j = times-append j r.map.numbers (all_numbers (map volume_map rows))

      go : (b c : Bool) → is_row v r ≡ b → is_row id r ≡ c → cond c (Some r) (find (is_row id) rows) ≡ Some row
          → (find (is_row id) rows ≡ Some row → row.map.numbers ≡ shared → ((j : ℕ) → times j (all_numbers (map volume_map rows)) ≤ count_at old j)
          → own_in (map (seen_pages old) rows) v k ≡ true → own_in (map (seen_pages new) rows) v k ≡ true)
          → if_found (cond b (Some (seen_pages old r)) (find (λ (p : OwnPages). p.number == v) (map (seen_pages old) rows))) (λ p. get_or p.own k false) false ≡ true
          → if_found (cond b (Some (seen_pages new r)) (find (λ (p : OwnPages). p.number == v) (map (seen_pages new) rows))) (λ p. get_or p.own k false) false ≡ true
      go true true here_v here_id found later h = absurd (ne (sym (eqb-true r.id.0 v here_v) ∙ eqb-true r.id.0 id here_id))
      go true false here_v here_id found later h =
          own_one r.map k (λ j.
          let most = all j in let both = parts j in
          let inside = times_found volume_map (is_row id) j rows row found in
          let same = ap (times j) is in omega arith) h
      go false true here_v here_id found later h =
          let same : r ≡ row = cc in
          own_beside rows v k (λ j.
          let most = all j in let both = parts j in
          let is_row : times j r.map.numbers ≡ times j shared = ap (λ (x : VolumeRow). times j x.map.numbers) same ∙ ap (times j) is in omega arith) h
      go false false here_v here_id found later h = later found is (λ j. let most = all j in let both = parts j in omega arith) h

module _ (geometry : Geometry) (old new : EntriesState) (volumes : List VolumeRow) (held : List HeldRow) (total rooms volume_memory held_memory held_memory' i id n : ℕ) (row : VolumeRow) (m : MapState)
    (at : position (is_row id) volumes ≡ Some i) (here : row ≡ get_or volumes i row) (number : n ≡ first_gap 0 (held_numbers held))
    (of : IsMapOf new.store m) (ex : Exchanges old.store new.store [] row.map.numbers) (numbers_same : m.numbers ≡ row.map.numbers) (len_same : m.len ≡ row.map.len) (pool : new.pool ≡ old.pool)
    (list : list_of new.store m ≡ list_of old.store row.map)
    (few : total + row.map.len ≤ geometry.map_chunks) (some : 1 ≤ rooms) (memory : held_memory ≤ held_memory')
    (kept : IsShelf geometry old volumes held total rooms volume_memory held_memory) where
  abbrev row' : HeldRow
  row' = record { number = n; map = m; indexes = FromZero; is_image = true; allocated = row.allocated }

  counted : row.allocated ≡ allocated_in (list_of new.store m)
  counted = row_allocated geometry old volumes held total i id row row at here kept.lists ∙ ap allocated_in (sym list)

  ex' : Exchanges old.store new.store [] m.numbers
  ex' = subst (Exchanges old.store new.store []) (sym numbers_same) ex

  fits : total + m.len ≤ geometry.map_chunks
  fits = omega arith

  chunks_are : seen_entries (list_of new.store m) ≡ chunks_in (seen_shelf geometry old volumes held) id
  chunks_are = ap seen_entries list ∙ sym (here_chunks geometry old volumes held total rooms volume_memory held_memory i id row at here kept)

  size : length (chunks_in (seen_shelf geometry old volumes held) id) ≡ m.len
  size = ap length (sym chunks_are) ∙ length-map (list_of new.store m) seen_entry ∙ list_len new.store m of

  pieces_seen : with_indexes (numbers_from 0 m.len) (seen_entries (list_of new.store m)) ≡ indexed (chunks_in (seen_shelf geometry old volumes held) id)
  pieces_seen = ap (λ es. with_indexes (numbers_from 0 m.len) es) chunks_are ∙ with_all m.len (chunks_in (seen_shelf geometry old volumes held) id) size

  next : n ≡ next_held (seen_shelf geometry old volumes held)
  next = number ∙ ap (first_gap 0) (sym (held_numbers_seen old.store held))

  is_new : seen_held new.store row' ≡ new_held (seen_shelf geometry old volumes held) (indexed (chunks_in (seen_shelf geometry old volumes held) id)) true 0
  is_new =
      ap (λ ps. let h : HeldList = record { number = n; pieces = ps; is_image = true; left = 0 } in h) pieces_seen
      ∙ ap (λ k. let h : HeldList = record { number = k; pieces = indexed (chunks_in (seen_shelf geometry old volumes held) id); is_image = true; left = 0 } in h) next

  shares : shares_rightly (with_held (seen_shelf geometry old volumes held) (seen_held new.store row')) ≡ true
  shares = held_shares (seen_shelf geometry old volumes held) kept.lists.shares (seen_held new.store row')
      (λ a in_new. inl (in_chunks (seen_shelf geometry old volumes held) kept.lists.shares id a (subst (λ ps. Contains ps a) pieces_seen in_new)))

  counts_are : (j : ℕ) → count_at old.store j ≡ times j (all_numbers (map volume_map volumes)) + times j (all_numbers (map held_map held))
  counts_are j = kept.lists.lists.counts j ∙ times_joined j (map volume_map volumes) (map held_map held)

  found : find (is_row id) volumes ≡ Some row
  found = found_is (is_row id) volumes i row at here

  filled : All (IsFilled new.store) held
  filled = filled_shared old.store new.store row.map.numbers ex held
      (λ j. let all = counts_are j in let inside = times_found volume_map (is_row id) j volumes row found in omega arith) kept.filled

  pub image_seen : seen_shelf geometry new volumes (put_before (is_held_above n) row' held) ≡ with_held (seen_shelf geometry old volumes held) (new_held (seen_shelf geometry old volumes held) (indexed (chunks_in (seen_shelf geometry old volumes held) id)) true 0)
  image_seen =
      added_held_seen geometry old new volumes held total rooms volume_memory held_memory held_memory' row' number of ex' pool counted (length-numbers_from 0 m.len) tt fits some memory kept
      ∙ ap (with_held (seen_shelf geometry old volumes held)) is_new

  pub image_kept : IsShelf geometry new volumes (put_before (is_held_above n) row' held) (total + row.map.len) (rooms - 1) volume_memory held_memory'
  image_kept = subst (λ k. IsShelf geometry new volumes (put_before (is_held_above n) row' held) (total + k) (rooms - 1) volume_memory held_memory') len_same
      (added_held_kept geometry old new volumes held total rooms volume_memory held_memory held_memory' row' number of ex' pool counted (length-numbers_from 0 m.len) tt fits some memory kept
      filled (λ image. absurd (cc)) shares)

  pub image_own : (v k : ℕ) → v ≢ id → own_in (map (seen_pages old.store) volumes) v k ≡ true → own_in (map (seen_pages new.store) volumes) v k ≡ true
  image_own v k ne = own_others old.store new.store row.map.numbers ex volumes id v k row ne found refl (λ j. let all = counts_are j in omega arith)
