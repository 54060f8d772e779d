-- A held list and that of a volume change places: what a shelf keeps, and what is seen of it.
use Rattle.std.proofs.Common.{ℕ, ◌≡◌, ◌≢◌, ◌+◌, ◌==◌, Bool, true, false, cond, List, [], ◌∷◌, ◌++◌, map, length, get_or, set, sum_by, Some, find, refl, sym, ap, ◌∙◌, subst, arith, length-append}
use Rattle.std.specs.List.{All, position_or_len}
use Rattle.std.proofs.lemmas.Bool.{eqb-true, ne_eqb}
use Rattle.std.proofs.lemmas.List.{map-append, length-map}
use Rattle.std.proofs.lemmas.List.Elements.{All-cons, All-append, All-tail}
use Rattle.std.proofs.lemmas.List.Sums.{sum_by-append, sum_by-cons}
use Rattle.vv_units.specs.declared.geometry.Geometry.{Geometry}
use Rattle.vv_map.specs.Rooms.{MapState}
use Rattle.vv_map.specs.Pages.{StoreState, list_of, IsMapOf}
use Rattle.vv_entries.specs.declared.entry.Entry.{Entry as PlacedEntry}
use Rattle.vv_entries.specs.Entries.{EntriesState}
use Rattle.vv_entries.specs.Changes.{times}
use Rattle.vv_entries.specs.Owners.{all_numbers, AreAllLists}
use Rattle.vv_entries.proofs.Owners.{All-front, All-back}
use Rattle.vv_entries.proofs.Times.{times-append}
use Rattle.vv_flat.specs.Lists.{if_found, first_changed, first_removed, numbers_from}
use Rattle.vv_flat.specs.State.{Volume, indexed}
use Rattle.vv_flat.specs.Chunks.{Entry}
use Rattle.vv_vols.specs.declared.row.VolumeRow.{VolumeRow}
use Rattle.vv_vols.specs.declared.row.HeldRow.{HeldRow}
use Rattle.vv_vols.specs.declared.row.HeldIndexes.TheVariants.{FromZero}
use Rattle.vv_vols.specs.Shelf.{HeldList, ShelfState, is_volume, is_held, chunks_in, pieces_in, shares_rightly}
use Rattle.vv_vols.specs.Calls.{with_chunks, piece_chunks}
use Rattle.vv_vols.specs.Conditions.{HasEveryIndex}
use Rattle.vv_vols.specs.Rows.{OwnPages, is_row, is_held_row, seen_entry, seen_entries, seen_volume, seen_held, seen_pages, seen_shelf, volume_with, own_in, volume_map, held_map, volume_numbers, held_numbers, held_indexes, with_indexes, rises, fresh_from, allocated_in, IsFilled, IsCountedHeld, IsShelf}
use Rattle.vv_vols.proofs.WrittenRow.{volume_found}
use Rattle.vv_vols.proofs.OwnKept.{list_len}
use Rattle.vv_vols.proofs.Numbers.{length-numbers_from}
use Rattle.vv_vols.proofs.HeldPieces.{with_all, chunks_with, whole_indexed}
use Rattle.vv_vols.proofs.HeldShares.{swapped_shares}
use Rattle.vv_vols.proofs.HeldSpliced.{IsIndexed, HasItsRoom, front_all, back_all}
use Rattle.vv_vols.proofs.FoundSplit.{Split, found_split, changed_around, all_found}
use Rattle.vv_vols.proofs.HeldRead.{held_of, held_indexed, held_counted, held_pieces, held_entries, sum_mapped}
use Rattle.vv_vols.proofs.HeldImage.{times_joined}
use Rattle.vv_vols.proofs.MadeHeld.{all_mapped, mapped_all}
use Rattle.vv_vols.proofs.AddedHeld.{pieces_len}

-- ---- lists around one item that became another
module _ {A : Type 0} (p : A → Bool) (xs : List A) (x : A) (s : Split p xs x) where
  pub all_put : (P : A → Type 0) (y : A) → All P xs → P y → All P (s.front ++ (y ∷ s.back))
  all_put P y all new =
      let parts = subst (All P) s.whole all in
      All-append P s.front (y ∷ s.back) (front_all P s.front (x ∷ s.back) parts)
      (All-cons P y s.back new (All-tail P x s.back (back_all P s.front (x ∷ s.back) parts)))

  pub sum_put : (f : A → ℕ) (y : A) → sum_by f (s.front ++ (y ∷ s.back)) + f x ≡ sum_by f xs + f y
  sum_put f y =
      let now = sum_by-append f s.front (y ∷ s.back) in
      let now' = sum_by-cons f y s.back in
      let was = ap (sum_by f) s.whole ∙ sum_by-append f s.front (x ∷ s.back) in
      let was' = sum_by-cons f x s.back in
      omega arith

  pub times_swapped : (map_of : A → MapState) (k : ℕ) (y : A) → times k (all_numbers (map map_of (s.front ++ (y ∷ s.back)))) + times k (map_of x).numbers ≡ times k (all_numbers (map map_of xs)) + times k (map_of y).numbers
  times_swapped map_of k y =
      let now = ap (λ ms. times k (all_numbers ms)) (map-append map_of s.front (y ∷ s.back)) ∙ times_joined k (map map_of s.front) (map_of y ∷ map map_of s.back) in
      let now' = times-append k (map_of y).numbers (all_numbers (map map_of s.back)) in
      let was = ap (λ zs. times k (all_numbers (map map_of zs))) s.whole ∙ ap (λ ms. times k (all_numbers ms)) (map-append map_of s.front (x ∷ s.back)) ∙ times_joined k (map map_of s.front) (map_of x ∷ map map_of s.back) in
      let was' = times-append k (map_of x).numbers (all_numbers (map map_of s.back)) in
      omega arith

  pub keys_put : (key : A → ℕ) (y : A) → key y ≡ key x → map key (s.front ++ (y ∷ s.back)) ≡ map key xs
  keys_put key y same =
      map-append key s.front (y ∷ s.back) ∙ ap (λ k. map key s.front ++ (k ∷ map key s.back)) same
      ∙ sym (map-append key s.front (x ∷ s.back)) ∙ ap (map key) (sym s.whole)

  pub length_put : (y : A) → length (s.front ++ (y ∷ s.back)) ≡ length xs
  length_put y = length-append s.front (y ∷ s.back) ∙ sym (length-append s.front (x ∷ s.back)) ∙ ap length (sym s.whole)

-- the first that passes, changed to one that passes too, is found, and taken out
module _ {A : Type 0} (p : A → Bool) (f : A → A) (same : (x : A) → p (f x) ≡ p x) where
  pub found_changed : (xs : List A) (x : A) → find p xs ≡ Some x → find p (first_changed p f xs) ≡ Some (f x)
  found_changed [] x e = absurd (cc)
  found_changed (y ∷ ys) x e = go (p y) refl (found_changed ys x) e
    where
      go : (b : Bool) → p y ≡ b → (find p ys ≡ Some x → find p (first_changed p f ys) ≡ Some (f x)) → cond b (Some y) (find p ys) ≡ Some x
          → find p (cond b (f y ∷ ys) (y ∷ first_changed p f ys)) ≡ Some (f x)
      go true is later e = let here : y ≡ x = cc in ap (λ b. cond b (Some (f y)) (find p ys)) (same y ∙ is) ∙ ap (λ z. Some (f z)) here
      go false is later e = ap (λ b. cond b (Some y) (find p (first_changed p f ys))) is ∙ later e

  pub removed_changed : (xs : List A) → first_removed p (first_changed p f xs) ≡ first_removed p xs
  removed_changed [] = refl
  removed_changed (y ∷ ys) = go (p y) refl (removed_changed ys)
    where
      go : (b : Bool) → p y ≡ b → first_removed p (first_changed p f ys) ≡ first_removed p ys
          → first_removed p (cond b (f y ∷ ys) (y ∷ first_changed p f ys)) ≡ cond b ys (y ∷ first_removed p ys)
      go true is later = ap (λ b. cond b ys (f y ∷ first_removed p ys)) (same y ∙ is)
      go false is later = ap (λ b. cond b (first_changed p f ys) (y ∷ first_removed p (first_changed p f ys))) is ∙ ap (λ zs. y ∷ zs) later

-- the pages of the other volumes
own_elsewhere : (store : StoreState PlacedEntry) (front : List VolumeRow) (x y : VolumeRow) (back : List VolumeRow) (v k : ℕ) → x.id.0 ≢ v → y.id.0 ≡ x.id.0
    → own_in (map (seen_pages store) (front ++ (y ∷ back))) v k ≡ own_in (map (seen_pages store) (front ++ (x ∷ back))) v k
own_elsewhere store [] x y back v k ne same =
    ap (λ b. if_found (cond b (Some (seen_pages store y)) (find (λ (q : OwnPages). q.number == v) (map (seen_pages store) back))) (λ q. get_or q.own k false) false) (ne_eqb y.id.0 v (λ e. ne (sym same ∙ e)))
    ∙ sym (ap (λ b. if_found (cond b (Some (seen_pages store x)) (find (λ (q : OwnPages). q.number == v) (map (seen_pages store) back))) (λ q. get_or q.own k false) false) (ne_eqb x.id.0 v ne))
own_elsewhere store (r ∷ front) x y back v k ne same = go (is_row v r) (own_elsewhere store front x y back v k ne same)
  where
    go : (b : Bool) → own_in (map (seen_pages store) (front ++ (y ∷ back))) v k ≡ own_in (map (seen_pages store) (front ++ (x ∷ back))) v k
        → if_found (cond b (Some (seen_pages store r)) (find (λ (q : OwnPages). q.number == v) (map (seen_pages store) (front ++ (y ∷ back))))) (λ q. get_or q.own k false) false
        ≡ if_found (cond b (Some (seen_pages store r)) (find (λ (q : OwnPages). q.number == v) (map (seen_pages store) (front ++ (x ∷ back))))) (λ q. get_or q.own k false) false
    go true later = refl
    go false later = later

module _ (geometry : Geometry) (entries : EntriesState) (volumes volumes' : List VolumeRow) (held held' : List HeldRow) (total rooms volume_memory held_memory id n : ℕ) (v v' : VolumeRow) (h h' : HeldRow)
    (v_found : find (is_row id) volumes ≡ Some v) (h_found : find (is_held_row n) held ≡ Some h)
    (v_is : volumes' ≡ set volumes (position_or_len (is_row id) volumes) v') (h_is : held' ≡ set held (position_or_len (is_held_row n) held) h')
    (v_new : v' ≡ record { id = v.id; head = v.head; map = h.map; allocated = h.allocated }) (h_new : h' ≡ record { number = h.number; map = v.map; indexes = FromZero; is_image = true; allocated = v.allocated })
    (whole : HasEveryIndex (seen_shelf geometry entries volumes held) n) (kept : IsShelf geometry entries volumes held total rooms volume_memory held_memory) where
  abbrev v2 : VolumeRow
  v2 = record { id = v.id; head = v.head; map = h.map; allocated = h.allocated }

  abbrev h2 : HeldRow
  h2 = record { number = h.number; map = v.map; indexes = FromZero; is_image = true; allocated = v.allocated }

  vs : Split (is_row id) volumes v
  vs = found_split (is_row id) volumes v v_found

  hs : Split (is_held_row n) held h
  hs = found_split (is_held_row n) held h h_found

  v_now : volumes' ≡ vs.front ++ (v2 ∷ vs.back)
  v_now = v_is ∙ vs.put v' ∙ ap (λ r. vs.front ++ (r ∷ vs.back)) v_new

  h_now : held' ≡ hs.front ++ (h2 ∷ hs.back)
  h_now = h_is ∙ hs.put h' ∙ ap (λ r. hs.front ++ (r ∷ hs.back)) h_new

  v_maps : All (λ (r : VolumeRow). IsMapOf entries.store r.map) volumes
  v_maps = mapped_all (λ (m : MapState). IsMapOf entries.store m) volume_map volumes (All-front (λ (m : MapState). IsMapOf entries.store m) (map volume_map volumes) (map held_map held) kept.lists.lists.maps)

  h_maps : All (λ (r : HeldRow). IsMapOf entries.store r.map) held
  h_maps = mapped_all (λ (m : MapState). IsMapOf entries.store m) held_map held (All-back (λ (m : MapState). IsMapOf entries.store m) (map volume_map volumes) (map held_map held) kept.lists.lists.maps)

  v_of : IsMapOf entries.store v.map
  v_of = all_found (is_row id) (λ (r : VolumeRow). IsMapOf entries.store r.map) volumes v v_maps v_found

  h_of : IsMapOf entries.store h.map
  h_of = held_of geometry entries volumes held total rooms volume_memory held_memory n h h_found kept

  indexed_h : IsIndexed h
  indexed_h = held_indexed geometry entries volumes held total rooms volume_memory held_memory n h h_found kept

  known : AreAllLists entries.store (map volume_map volumes' ++ map held_map held')
  known = record {
    counts = λ k.
        let was = kept.lists.lists.counts k in
        let parts = times_joined k (map volume_map volumes) (map held_map held) in
        let parts' = times_joined k (map volume_map volumes') (map held_map held') in
        let vt = times_swapped (is_row id) volumes v vs volume_map k v2 in
        let ht = times_swapped (is_held_row n) held h hs held_map k h2 in
        let v_here = ap (λ (rs : List VolumeRow). times k (all_numbers (map volume_map rs))) v_now in
        let h_here = ap (λ (rs : List HeldRow). times k (all_numbers (map held_map rs))) h_now in
        omega arith;
    maps = All-append (λ (m : MapState). IsMapOf entries.store m) (map volume_map volumes') (map held_map held')
        (all_mapped (λ (m : MapState). IsMapOf entries.store m) volume_map volumes'
        (subst (All (λ (r : VolumeRow). IsMapOf entries.store r.map)) (sym v_now) (all_put (is_row id) volumes v vs (λ (r : VolumeRow). IsMapOf entries.store r.map) v2 v_maps h_of)))
        (all_mapped (λ (m : MapState). IsMapOf entries.store m) held_map held'
        (subst (All (λ (r : HeldRow). IsMapOf entries.store r.map)) (sym h_now) (all_put (is_held_row n) held h hs (λ (r : HeldRow). IsMapOf entries.store r.map) h2 h_maps v_of)));
  }

  chunks_held : seen_entries (list_of entries.store h.map) ≡ piece_chunks (pieces_in (seen_shelf geometry entries volumes held) n)
  chunks_held =
      sym (chunks_with (held_indexes h.indexes h.map.len) (seen_entries (list_of entries.store h.map)) (indexed_h ∙ sym (held_entries geometry entries volumes held total rooms volume_memory held_memory n h h_found kept)))
      ∙ ap piece_chunks (sym (held_pieces geometry entries volumes held total rooms volume_memory held_memory n h h_found kept))

  chunks_volume : seen_entries (list_of entries.store v.map) ≡ chunks_in (seen_shelf geometry entries volumes held) id
  chunks_volume = sym (ap (λ o. if_found o (λ (w : Volume Entry). w.chunks) []) (volume_found entries.store id volumes v v_found))

  v_size : length (seen_entries (list_of entries.store v.map)) ≡ v.map.len
  v_size = length-map (list_of entries.store v.map) seen_entry ∙ list_len entries.store v.map v_of

  image_pieces : with_indexes (numbers_from 0 v.map.len) (seen_entries (list_of entries.store v.map)) ≡ indexed (chunks_in (seen_shelf geometry entries volumes held) id)
  image_pieces = with_all v.map.len (seen_entries (list_of entries.store v.map)) v_size ∙ ap indexed chunks_volume

  -- the volume's list as an image
  abbrev pub image : HeldList → HeldList
  image k = record { number = k.number; pieces = indexed (chunks_in (seen_shelf geometry entries volumes held) id); is_image = true; left = 0 }

  abbrev pub swapped_state : ShelfState
  swapped_state = record (with_chunks (seen_shelf geometry entries volumes held) id (λ _. piece_chunks (pieces_in (seen_shelf geometry entries volumes held) n))) { held = first_changed (is_held n) image (map (seen_held entries.store) held) }

  pub swapped_seen : seen_shelf geometry entries volumes' held' ≡ swapped_state
  swapped_seen =
      let vols : map (seen_volume entries.store) volumes' ≡ first_changed (is_volume id) (λ (w : Volume Entry). record w { chunks = piece_chunks (pieces_in (seen_shelf geometry entries volumes held) n) }) (map (seen_volume entries.store) volumes) =
      ap (map (seen_volume entries.store)) v_now ∙ map-append (seen_volume entries.store) vs.front (v2 ∷ vs.back)
      ∙ ap (λ es. map (seen_volume entries.store) vs.front ++ (volume_with v.id.0 v.head es ∷ map (seen_volume entries.store) vs.back)) chunks_held
      ∙ sym (changed_around (is_row id) (seen_volume entries.store) (is_volume id) (λ r. refl) (λ (w : Volume Entry). record w { chunks = piece_chunks (pieces_in (seen_shelf geometry entries volumes held) n) }) vs.front v vs.back vs.misses vs.hits)
      ∙ ap (λ rs. first_changed (is_volume id) (λ (w : Volume Entry). record w { chunks = piece_chunks (pieces_in (seen_shelf geometry entries volumes held) n) }) (map (seen_volume entries.store) rs)) (sym vs.whole) in
      let hels : map (seen_held entries.store) held' ≡ first_changed (is_held n) image (map (seen_held entries.store) held) =
      ap (map (seen_held entries.store)) h_now ∙ map-append (seen_held entries.store) hs.front (h2 ∷ hs.back)
      ∙ ap (λ ps. let k : HeldList = record { number = h.number; pieces = ps; is_image = true; left = 0 } in map (seen_held entries.store) hs.front ++ (k ∷ map (seen_held entries.store) hs.back)) image_pieces
      ∙ sym (changed_around (is_held_row n) (seen_held entries.store) (is_held n) (λ r. refl) image hs.front h hs.back hs.misses hs.hits)
      ∙ ap (λ rs. first_changed (is_held n) image (map (seen_held entries.store) rs)) (sym hs.whole) in
      ap (λ (ws : List (Volume Entry)). let t : ShelfState = record { geometry = geometry; volumes = ws; held = map (seen_held entries.store) held'; fresh = fresh_from 0 entries.pool.places; reserved = entries.pool.reserved } in t) vols
      ∙ ap (λ (ks : List HeldList). let t : ShelfState = record { geometry = geometry; volumes = (with_chunks (seen_shelf geometry entries volumes held) id (λ _. piece_chunks (pieces_in (seen_shelf geometry entries volumes held) n))).volumes; held = ks; fresh = fresh_from 0 entries.pool.places; reserved = entries.pool.reserved } in t) hels

  pub swapped_kept : IsShelf geometry entries volumes' held' total rooms volume_memory held_memory
  swapped_kept =
      let v_sum = sum_put (is_row id) volumes v vs (λ (r : VolumeRow). length (seen_volume entries.store r).chunks) v2 in
      let h_sum = sum_put (is_held_row n) held h hs (λ (r : HeldRow). length (seen_held entries.store r).pieces) h2 in
      let v_here = ap (λ (rs : List VolumeRow). sum_by (λ (r : VolumeRow). length (seen_volume entries.store r).chunks) rs) v_now in
      let h_here = ap (λ (rs : List HeldRow). sum_by (λ (r : HeldRow). length (seen_held entries.store r).pieces) rs) h_now in
      let v_all = sum_mapped (seen_volume entries.store) (λ (w : Volume Entry). length w.chunks) volumes in
      let v_all' = sum_mapped (seen_volume entries.store) (λ (w : Volume Entry). length w.chunks) volumes' in
      let h_all = sum_mapped (seen_held entries.store) (λ (k : HeldList). length k.pieces) held in
      let h_all' = sum_mapped (seen_held entries.store) (λ (k : HeldList). length k.pieces) held' in
      let h_len = pieces_len entries.store h h_of indexed_h in
      let h2_len = pieces_len entries.store h2 v_of (length-numbers_from 0 v.map.len) in
      let v2_len = held_entries geometry entries volumes held total rooms volume_memory held_memory n h h_found kept in
      let v_length : length volumes' ≡ length volumes = ap length v_now ∙ length_put (is_row id) volumes v vs v2 in
      let h_length : length held' ≡ length held = ap length h_now ∙ length_put (is_held_row n) held h hs h2 in
      record {
        lists = record {
          lists = known;
          places = kept.lists.places;
          pages = kept.lists.pages;
          shares = ap shares_rightly swapped_seen
              ∙ swapped_shares (seen_shelf geometry entries volumes held) kept.lists.shares n id (piece_chunks (pieces_in (seen_shelf geometry entries volumes held) n)) image (whole_indexed 0 (pieces_in (seen_shelf geometry entries volumes held) n) whole) (λ k. refl);
          summed = let s = kept.lists.summed in let size = v_size in omega arith;
          few = kept.lists.few;
          allocated = subst (All (λ (r : VolumeRow). r.allocated ≡ allocated_in (list_of entries.store r.map))) (sym v_now)
              (all_put (is_row id) volumes v vs (λ (r : VolumeRow). r.allocated ≡ allocated_in (list_of entries.store r.map)) v2 kept.lists.allocated
              (held_counted geometry entries volumes held total rooms volume_memory held_memory n h h_found kept));
        };
        rising = ap rises (ap volume_numbers v_now ∙ keys_put (is_row id) volumes v vs (λ (r : VolumeRow). r.id.0) v2 refl) ∙ kept.rising;
        held_rising = ap rises (ap held_numbers h_now ∙ keys_put (is_held_row n) held h hs (λ (r : HeldRow). r.number) h2 refl) ∙ kept.held_rising;
        indexed = subst (All IsIndexed) (sym h_now) (all_put (is_held_row n) held h hs IsIndexed h2 kept.indexed (length-numbers_from 0 v.map.len));
        filled = subst (All (IsFilled entries.store)) (sym h_now) (all_put (is_held_row n) held h hs (IsFilled entries.store) h2 kept.filled (λ filled. absurd (cc)));
        volume_rows = let m = kept.volume_rows in omega arith;
        held_rows = let m = kept.held_rows in omega arith;
        held_counts = subst (All (IsCountedHeld entries.store)) (sym h_now) (all_put (is_held_row n) held h hs (IsCountedHeld entries.store) h2 kept.held_counts
            (all_found (is_row id) (λ (r : VolumeRow). r.allocated ≡ allocated_in (list_of entries.store r.map)) volumes v kept.lists.allocated v_found));
        held_room = subst (All HasItsRoom) (sym h_now) (all_put (is_held_row n) held h hs HasItsRoom h2 kept.held_room tt);
      }

  pub swapped_own : (w k : ℕ) → w ≢ id → own_in (map (seen_pages entries.store) volumes) w k ≡ true → own_in (map (seen_pages entries.store) volumes') w k ≡ true
  swapped_own w k ne own =
      let number : v.id.0 ≡ id = eqb-true v.id.0 id vs.hits in
      ap (λ rs. own_in (map (seen_pages entries.store) rs) w k) v_now
      ∙ own_elsewhere entries.store vs.front v v2 vs.back w k (λ e. ne (sym e ∙ number)) refl
      ∙ ap (λ rs. own_in (map (seen_pages entries.store) rs) w k) (sym vs.whole) ∙ own
