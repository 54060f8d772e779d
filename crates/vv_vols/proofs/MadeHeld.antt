-- A held list becomes the list of a new volume: what a shelf keeps, and what is seen of it.
use Rattle.std.proofs.Common.{ℕ, ◌≡◌, ◌+◌, ◌≤◌, ◌==◌, Bool, true, false, cond, List, [], ◌∷◌, ◌++◌, map, length, sum_by, Some, None, find, is_some, refl, sym, ap, ◌∙◌, subst, arith}
use Rattle.std.specs.Prelude.{nat_lt}
use Rattle.std.specs.List.{All}
use Rattle.std.proofs.lemmas.Bool.{eqb-true}
use Rattle.std.proofs.lemmas.List.Elements.{All-nil, All-cons, All-head, All-tail, All-append}
use Rattle.std.proofs.lemmas.List.Sums.{sum_by-cons}
use Rattle.vv_units.specs.declared.geometry.Geometry.{Geometry}
use Rattle.vv_map.specs.Rooms.{MapState}
use Rattle.vv_map.specs.Pages.{StoreState, list_of, IsMapOf}
use Rattle.vv_entries.specs.declared.entry.Entry.{Entry as PlacedEntry}
use Rattle.vv_entries.specs.Entries.{EntriesState}
use Rattle.vv_entries.specs.Changes.{times}
use Rattle.vv_entries.specs.Owners.{all_numbers, AreAllLists}
use Rattle.vv_entries.proofs.Owners.{All-front, All-back}
use Rattle.vv_entries.proofs.Times.{times-append}
use Rattle.vv_flat.specs.Lists.{put_before, first_removed}
use Rattle.vv_flat.specs.State.{Volume, indexed}
use Rattle.vv_flat.specs.Chunks.{Entry}
use Rattle.vv_flat.proofs.Positions.{length-put_before, length-removed}
use Rattle.vv_flat.proofs.MapLists.{map-put_before, map-first_removed}
use Rattle.vv_flat.proofs.Sums.{sum-put}
use Rattle.vv_flat.proofs.KeepLists.{rising-put, rising-removed, all-where_none}
use Rattle.vv_vols.specs.declared.row.VolumeRow.{VolumeRow}
use Rattle.vv_vols.specs.declared.row.HeldRow.{HeldRow}
use Rattle.vv_vols.specs.Shelf.{HeldList, ShelfState, is_held, pieces_in, shares_rightly, shelf_entries}
use Rattle.vv_vols.specs.Calls.{with_made, without_held, piece_chunks}
use Rattle.vv_vols.specs.Conditions.{HasEveryIndex}
use Rattle.vv_vols.specs.Rows.{OwnPages, is_row, is_row_above, is_held_row, seen_entries, seen_volume, seen_held, seen_pages, seen_shelf, own_in, volume_map, held_map, held_indexes, fresh_from, held_numbers, rises, allocated_in, IsFilled, IsCountedHeld, IsShelf}
use Rattle.vv_vols.proofs.AddedRow.{All-put, own_put, own_none}
use Rattle.vv_vols.proofs.HeldPieces.{chunks_with, whole_indexed}
use Rattle.vv_vols.proofs.HeldShares.{made_held_shares}
use Rattle.vv_vols.proofs.HeldSpliced.{IsIndexed, HasItsRoom}
use Rattle.vv_vols.proofs.AddedHeld.{pieces_len}
use Rattle.vv_vols.proofs.HeldRead.{held_of, held_indexed, held_counted, held_pieces, held_entries, held_seen_found}
use Rattle.vv_vols.proofs.HeldImage.{times_joined}

-- what holds of all items holds without one,
pub all_removed : {A : Type 0} (P : A → Type 0) (p : A → Bool) (xs : List A) → All P xs → All P (first_removed p xs)
all_removed P p [] all = all
all_removed P p (x ∷ xs) all = go (p x) (all_removed P p xs (All-tail P x xs all))
  where
    go : (b : Bool) → All P (first_removed p xs) → All P (cond b xs (x ∷ first_removed p xs))
    go true rest = All-tail P x xs all
    go false rest = All-cons P x (first_removed p xs) (All-head P x xs all) rest

-- and of what is made of them
pub all_mapped : {A B : Type 0} (P : B → Type 0) (f : A → B) (xs : List A) → All (λ x. P (f x)) xs → All P (map f xs)
all_mapped P f [] all = All-nil P
all_mapped P f (x ∷ xs) all = All-cons P (f x) (map f xs) (All-head (λ y. P (f y)) x xs all) (all_mapped P f xs (All-tail (λ y. P (f y)) x xs all))

pub mapped_all : {A B : Type 0} (P : B → Type 0) (f : A → B) (xs : List A) → All P (map f xs) → All (λ x. P (f x)) xs
mapped_all P f [] all = All-nil (λ x. P (f x))
mapped_all P f (x ∷ xs) all = All-cons (λ y. P (f y)) x xs (All-head P (f x) (map f xs) all) (mapped_all P f xs (All-tail P (f x) (map f xs) all))

-- how often a page is named by rows of which one is put between, or taken out
pub times_put : {R : Type 0} (map_of : R → MapState) (p : R → Bool) (k : ℕ) (r : R) (rows : List R)
    → times k (all_numbers (map map_of (put_before p r rows))) ≡ times k (map_of r).numbers + times k (all_numbers (map map_of rows))
times_put map_of p k r [] = times-append k (map_of r).numbers []
times_put map_of p k r (q ∷ rows) = go (p q) (times_put map_of p k r rows)
  where
    go : (b : Bool) → times k (all_numbers (map map_of (put_before p r rows))) ≡ times k (map_of r).numbers + times k (all_numbers (map map_of rows))
        → times k (all_numbers (map map_of (cond b (r ∷ q ∷ rows) (q ∷ put_before p r rows)))) ≡ times k (map_of r).numbers + times k (all_numbers (map map_of (q ∷ rows)))
    go true later = times-append k (map_of r).numbers (all_numbers (map map_of (q ∷ rows)))
    go false later =
        let now = times-append k (map_of q).numbers (all_numbers (map map_of (put_before p r rows))) in
        let was = times-append k (map_of q).numbers (all_numbers (map map_of rows)) in omega arith

pub times_removed : {R : Type 0} (map_of : R → MapState) (p : R → Bool) (k : ℕ) (rows : List R) (r : R) → find p rows ≡ Some r
    → times k (all_numbers (map map_of (first_removed p rows))) + times k (map_of r).numbers ≡ times k (all_numbers (map map_of rows))
times_removed map_of p k [] r e = absurd (cc)
times_removed map_of p k (q ∷ rows) r e = go (p q) (times_removed map_of p k rows r) e
  where
    go : (b : Bool) → (find p rows ≡ Some r → times k (all_numbers (map map_of (first_removed p rows))) + times k (map_of r).numbers ≡ times k (all_numbers (map map_of rows)))
        → cond b (Some q) (find p rows) ≡ Some r
        → times k (all_numbers (map map_of (cond b rows (q ∷ first_removed p rows)))) + times k (map_of r).numbers ≡ times k (all_numbers (map map_of (q ∷ rows)))
    go true later e =
        let same : q ≡ r = cc in
        let is = ap (λ (x : _). times k (map_of x).numbers) same in
        let both = times-append k (map_of q).numbers (all_numbers (map map_of rows)) in omega arith
    go false later e =
        let rest = later e in
        let now = times-append k (map_of q).numbers (all_numbers (map map_of (first_removed p rows))) in
        let was = times-append k (map_of q).numbers (all_numbers (map map_of rows)) in omega arith

pub sum_removed : {A : Type 0} (p : A → Bool) (f : A → ℕ) (xs : List A) (x : A) → find p xs ≡ Some x → sum_by f (first_removed p xs) + f x ≡ sum_by f xs
sum_removed p f [] x e = absurd (cc)
sum_removed p f (y ∷ ys) x e = go (p y) (sum_removed p f ys x) e
  where
    go : (b : Bool) → (find p ys ≡ Some x → sum_by f (first_removed p ys) + f x ≡ sum_by f ys) → cond b (Some y) (find p ys) ≡ Some x
        → sum_by f (cond b ys (y ∷ first_removed p ys)) + f x ≡ sum_by f (y ∷ ys)
    go true later e = let same : y ≡ x = cc in let is = ap f same in let sums = sum_by-cons f y ys in omega arith
    go false later e = let rest = later e in let now = sum_by-cons f y (first_removed p ys) in let was = sum_by-cons f y ys in omega arith

-- ---- the pages of the other volumes
own_as_before : (rows : List VolumeRow) (store : StoreState PlacedEntry) (row' : VolumeRow) (v k : ℕ) → find (is_row row'.id.0) rows ≡ None
    → own_in (map (seen_pages store) rows) v k ≡ true → own_in (map (seen_pages store) (put_before (is_row_above row'.id.0) row' rows)) v k ≡ true
own_as_before rows store row' v k unused own =
    let pages = map-put_before (seen_pages store) (is_row_above row'.id.0) (λ (q : OwnPages). nat_lt row'.id.0 q.number) (λ r. refl) row' (seen_pages store row') refl rows in
    ap (λ ps. own_in ps v k) pages
    ∙ own_put (map (seen_pages store) rows) (seen_pages store row') (λ (q : OwnPages). nat_lt row'.id.0 q.number) v k (other (row'.id.0 == v) refl) ∙ own
  where
    other : (b : Bool) → (row'.id.0 == v) ≡ b → b ≡ false
    other true e =
        let same = eqb-true row'.id.0 v e in
        let none = own_none rows (seen_pages store) v k (λ r. refl) (subst (λ m. find (is_row m) rows ≡ None) same unused) in
        sym own ∙ none
    other false e = refl

module _ (geometry : Geometry) (entries : EntriesState) (volumes : List VolumeRow) (held held' : List HeldRow) (total rooms volume_memory held_memory volume_memory' n : ℕ) (row : HeldRow) (row' : VolumeRow)
    (found : find (is_held_row n) held ≡ Some row) (is : held' ≡ first_removed (is_held_row n) held)
    (unused : find (is_row row'.id.0) volumes ≡ None) (map_same : row'.map ≡ row.map) (number_same : row'.allocated ≡ row.allocated) (whole : HasEveryIndex (seen_shelf geometry entries volumes held) n) (memory : volume_memory ≤ volume_memory')
    (kept : IsShelf geometry entries volumes held total rooms volume_memory held_memory) where
  abbrev now : List VolumeRow
  now = put_before (is_row_above row'.id.0) row' volumes

  of : IsMapOf entries.store row.map
  of = held_of geometry entries volumes held total rooms volume_memory held_memory n row found kept

  indexed_row : IsIndexed row
  indexed_row = held_indexed geometry entries volumes held total rooms volume_memory held_memory n row found kept

  known : AreAllLists entries.store (map volume_map now ++ map held_map held')
  known = record {
    counts = λ k.
        let was = kept.lists.lists.counts k in
        let parts = times_joined k (map volume_map volumes) (map held_map held) in
        let parts' = times_joined k (map volume_map now) (map held_map held') in
        let more = times_put volume_map (is_row_above row'.id.0) k row' volumes in
        let less = times_removed held_map (is_held_row n) k held row found in
        let same = ap (λ (m : MapState). times k m.numbers) map_same in
        let here = ap (λ (hs : List HeldRow). times k (all_numbers (map held_map hs))) is in
        omega arith;
    maps = All-append (λ (m : MapState). IsMapOf entries.store m) (map volume_map now) (map held_map held')
        (all_mapped (λ (m : MapState). IsMapOf entries.store m) volume_map now
        (All-put (λ (r : VolumeRow). IsMapOf entries.store r.map) (is_row_above row'.id.0) row' volumes (subst (IsMapOf entries.store) (sym map_same) of)
        (mapped_all (λ (m : MapState). IsMapOf entries.store m) volume_map volumes (All-front (λ (m : MapState). IsMapOf entries.store m) (map volume_map volumes) (map held_map held) kept.lists.lists.maps))))
        (all_mapped (λ (m : MapState). IsMapOf entries.store m) held_map held'
        (subst (All (λ (r : HeldRow). IsMapOf entries.store r.map)) (sym is)
        (all_removed (λ (r : HeldRow). IsMapOf entries.store r.map) (is_held_row n) held
        (mapped_all (λ (m : MapState). IsMapOf entries.store m) held_map held (All-back (λ (m : MapState). IsMapOf entries.store m) (map volume_map volumes) (map held_map held) kept.lists.lists.maps)))));
  }

  -- the chunks of the new volume are the entries of the held list
  pub chunks_held : seen_entries (list_of entries.store row'.map) ≡ piece_chunks (pieces_in (seen_shelf geometry entries volumes held) n)
  chunks_held =
      ap (λ (m : MapState). seen_entries (list_of entries.store m)) map_same
      ∙ sym (chunks_with (held_indexes row.indexes row.map.len) (seen_entries (list_of entries.store row.map)) (indexed_row ∙ sym (held_entries geometry entries volumes held total rooms volume_memory held_memory n row found kept)))
      ∙ ap piece_chunks (sym (held_pieces geometry entries volumes held total rooms volume_memory held_memory n row found kept))

  pub made_held_seen : seen_shelf geometry entries now held' ≡ with_made (without_held (seen_shelf geometry entries volumes held) n) (seen_volume entries.store row')
  made_held_seen =
      let vs = map-put_before (seen_volume entries.store) (is_row_above row'.id.0) (λ (w : Volume Entry). nat_lt row'.id.0 w.number) (λ r. refl) row' (seen_volume entries.store row') refl volumes in
      let hs = ap (map (seen_held entries.store)) is ∙ map-first_removed (seen_held entries.store) (is_held_row n) (is_held n) (λ r. refl) held in
      ap (λ (ws : List (Volume Entry)). let t : ShelfState = record { geometry = geometry; volumes = ws; held = map (seen_held entries.store) held'; fresh = fresh_from 0 entries.pool.places; reserved = entries.pool.reserved } in t) vs
      ∙ ap (λ (ks : List HeldList). let t : ShelfState = record { geometry = geometry; volumes = put_before (λ (w : Volume Entry). nat_lt row'.id.0 w.number) (seen_volume entries.store row') (map (seen_volume entries.store) volumes); held = ks; fresh = fresh_from 0 entries.pool.places; reserved = entries.pool.reserved } in t) hs

  is_whole : indexed (seen_volume entries.store row').chunks ≡ pieces_in (seen_shelf geometry entries volumes held) n
  is_whole = ap indexed chunks_held ∙ whole_indexed 0 (pieces_in (seen_shelf geometry entries volumes held) n) whole

  pub made_held_kept : IsShelf geometry entries now held' total rooms volume_memory' held_memory
  made_held_kept =
      let more = sum-put (λ (v : Volume Entry). length v.chunks) (λ (w : Volume Entry). nat_lt row'.id.0 w.number) (seen_volume entries.store row') (map (seen_volume entries.store) volumes) in
      let len : length (seen_volume entries.store row').chunks ≡ row.map.len = ap length (ap (λ (m : MapState). seen_entries (list_of entries.store m)) map_same) ∙ held_entries geometry entries volumes held total rooms volume_memory held_memory n row found kept in
      let less = sum_removed (is_held n) (λ (h : HeldList). length h.pieces) (map (seen_held entries.store) held) (seen_held entries.store row) (held_seen_found geometry entries volumes held total rooms volume_memory held_memory n row found kept) in
      let size = pieces_len entries.store row of indexed_row in
      let seen = ap shelf_entries made_held_seen in
      let rows = length-put_before (is_row_above row'.id.0) row' volumes in
      let held_size : length held' + 1 ≡ length held = ap (λ (hs : List HeldRow). length hs + 1) is ∙ length-removed (is_held_row n) held (ap (λ o. is_some o) found) in
      record {
        lists = record {
          lists = known;
          places = kept.lists.places;
          pages = kept.lists.pages;
          shares = ap shares_rightly made_held_seen ∙ made_held_shares (seen_shelf geometry entries volumes held) kept.lists.shares n (seen_volume entries.store row') is_whole;
          summed = let s = kept.lists.summed in omega arith;
          few = kept.lists.few;
          allocated = All-put (λ (r : VolumeRow). r.allocated ≡ allocated_in (list_of entries.store r.map)) (is_row_above row'.id.0) row' volumes
              (number_same ∙ held_counted geometry entries volumes held total rooms volume_memory held_memory n row found kept ∙ ap (λ (m : MapState). allocated_in (list_of entries.store m)) (sym map_same)) kept.lists.allocated;
        };
        rising = rising-put (λ (r : VolumeRow). r.id.0) row' volumes (all-where_none (is_row row'.id.0) volumes unused) kept.rising;
        held_rising = ap (λ hs. rises (held_numbers hs)) is ∙ rising-removed (λ (r : HeldRow). r.number) (is_held_row n) held kept.held_rising;
        indexed = subst (All IsIndexed) (sym is) (all_removed IsIndexed (is_held_row n) held kept.indexed);
        filled = subst (All (IsFilled entries.store)) (sym is) (all_removed (IsFilled entries.store) (is_held_row n) held kept.filled);
        volume_rows = let m = kept.volume_rows in omega arith;
        held_rows = let m = kept.held_rows in omega arith;
        held_counts = subst (All (IsCountedHeld entries.store)) (sym is) (all_removed (IsCountedHeld entries.store) (is_held_row n) held kept.held_counts);
        held_room = subst (All HasItsRoom) (sym is) (all_removed HasItsRoom (is_held_row n) held kept.held_room);
      }

  pub made_held_own : (v k : ℕ) → own_in (map (seen_pages entries.store) volumes) v k ≡ true → own_in (map (seen_pages entries.store) now) v k ≡ true
  made_held_own v k = own_as_before volumes entries.store row' v k unused
