-- One more volume, with a list that was made or shared: what a shelf keeps, and what is seen of it.
use Rattle.std.proofs.Common.{ℕ, ◌≡◌, ◌+◌, ◌-◌, ◌≤◌, ◌==◌, Bool, true, false, cond, List, [], ◌∷◌, ◌++◌, map, length, get_or, take, drop, Some, None, find, refl, sym, ap, ◌∙◌, subst, arith, take-append-drop}
use Rattle.std.specs.Prelude.{nat_lt}
use Rattle.std.specs.List.{All, position_or_len}
use Rattle.std.proofs.lemmas.Bool.{eqb-true}
use Rattle.std.proofs.lemmas.List.{append-nil, append_assoc, map-append, length-map}
use Rattle.std.proofs.lemmas.List.Elements.{All-nil, All-cons, All-append, All-take, All-drop, All-weaker}
use Rattle.vv_units.specs.declared.geometry.Geometry.{Geometry}
use Rattle.vv_map.specs.Rooms.{MapState}
use Rattle.vv_map.specs.Pages.{list_of, IsMapOf}
use Rattle.vv_entries.specs.Entries.{EntriesState}
use Rattle.vv_entries.specs.Changes.{Exchanges, TakesUnused}
use Rattle.vv_entries.specs.Owners.{AreAllLists, IsLeft}
use Rattle.vv_entries.proofs.Owners.{left_ahead, lists_known, All-front, All-back}
use Rattle.vv_flat.specs.State.{Volume}
use Rattle.vv_flat.specs.Chunks.{Entry}
use Rattle.vv_flat.specs.Lists.{if_found, put_before}
use Rattle.vv_flat.proofs.Positions.{put_at_first, length-put_before}
use Rattle.vv_flat.proofs.MapLists.{map-put_before}
use Rattle.vv_flat.proofs.Sums.{sum-put}
use Rattle.vv_flat.proofs.KeepLists.{rising-put, all-where_none}
use Rattle.vv_vols.specs.declared.row.VolumeRow.{VolumeRow}
use Rattle.vv_vols.specs.declared.row.HeldRow.{HeldRow}
use Rattle.vv_vols.specs.Shelf.{HeldList, ShelfState, shares_rightly, shelf_entries}
use Rattle.vv_vols.specs.Calls.{with_made}
use Rattle.vv_vols.specs.Rows.{OwnPages, is_row, is_row_above, seen_entry, seen_volume, seen_held, seen_pages, seen_shelf, own_in, volume_map, held_map, fresh_from, allocated_in, IsFilled, IsShelf}
use Rattle.vv_vols.proofs.OwnedRows.{seen_left}
use Rattle.vv_vols.proofs.ChangedRow.{volume_decided, held_decided, allocated_left, counts_left}
use Rattle.vv_vols.proofs.OwnKept.{own_rows, filled_stays, list_len}

pub All-put : {A : Type 0} (P : A → Type 0) (p : A → Bool) (x : A) (xs : List A) → P x → All P xs → All P (put_before p x xs)
All-put P p x xs new old = subst (All P) (sym (put_at_first p x xs))
    (All-append P (take (position_or_len p xs) xs) (x ∷ drop (position_or_len p xs) xs) (All-take P (position_or_len p xs) xs old)
    (All-cons P x (drop (position_or_len p xs) xs) new (All-drop P (position_or_len p xs) xs old)))

-- a row of another number isn't found
pub own_put : (ps : List OwnPages) (q : OwnPages) (p : OwnPages → Bool) (n k : ℕ) → (q.number == n) ≡ false → own_in (put_before p q ps) n k ≡ own_in ps n k
own_put [] q p n k other = ap (λ b. if_found (cond b (Some q) None) (λ (x : OwnPages). get_or x.own k false) false) other
own_put (o ∷ ps) q p n k other = go (p o) (inner (o.number == n) (own_put ps q p n k other))
  where
    inner : (b : Bool) → own_in (put_before p q ps) n k ≡ own_in ps n k
        → if_found (cond b (Some o) (find (λ (x : OwnPages). x.number == n) (put_before p q ps))) (λ (x : OwnPages). get_or x.own k false) false
        ≡ if_found (cond b (Some o) (find (λ (x : OwnPages). x.number == n) ps)) (λ (x : OwnPages). get_or x.own k false) false
    inner true rest = refl
    inner false rest = rest

    go : (b : Bool) → own_in (o ∷ put_before p q ps) n k ≡ own_in (o ∷ ps) n k → own_in (cond b (q ∷ o ∷ ps) (o ∷ put_before p q ps)) n k ≡ own_in (o ∷ ps) n k
    go true rest = ap (λ b. if_found (cond b (Some q) (find (λ (x : OwnPages). x.number == n) (o ∷ ps))) (λ (x : OwnPages). get_or x.own k false) false) other
    go false rest = rest

-- a volume that isn't found has no page
pub own_none : (rows : List VolumeRow) (f : VolumeRow → OwnPages) (n k : ℕ) → ((r : VolumeRow) → (f r).number ≡ r.id.0) → find (is_row n) rows ≡ None → own_in (map f rows) n k ≡ false
own_none [] f n k same none = refl
own_none (r ∷ rows) f n k same none =
    ap (λ m. if_found (cond (m == n) (Some (f r)) (find (λ (x : OwnPages). x.number == n) (map f rows))) (λ (x : OwnPages). get_or x.own k false) false) (same r)
    ∙ go (is_row n r) none (λ rest. own_none rows f n k same rest)
  where
    go : (b : Bool) → cond b (Some r) (find (is_row n) rows) ≡ None → (find (is_row n) rows ≡ None → own_in (map f rows) n k ≡ false)
        → if_found (cond b (Some (f r)) (find (λ (x : OwnPages). x.number == n) (map f rows))) (λ (x : OwnPages). get_or x.own k false) false ≡ false
    go true e later = absurd (cc)
    go false e later = later e

module _ (geometry : Geometry) (old new : EntriesState) (volumes : List VolumeRow) (held : List HeldRow) (total chunks rooms volume_memory held_memory volume_memory' : ℕ) (row' : VolumeRow)
    (unused : find (is_row row'.id.0) volumes ≡ None) (len : row'.map.len ≡ chunks) (of : IsMapOf new.store row'.map)
    (ex : Exchanges old.store new.store [] row'.map.numbers) (pool : new.pool ≡ old.pool)
    (allocated : row'.allocated ≡ allocated_in (list_of new.store row'.map)) (few : total + chunks ≤ geometry.map_chunks) (some : 1 ≤ rooms) (memory : volume_memory ≤ volume_memory')
    (kept : IsShelf geometry old volumes held total rooms volume_memory held_memory) where
  abbrev now : List VolumeRow
  now = put_before (is_row_above row'.id.0) row' volumes

  all_left : All (IsLeft old.store new.store) (map volume_map volumes ++ map held_map held)
  all_left = left_ahead old.store new.store [] row'.map.numbers ex (map volume_map volumes ++ map held_map held) [] [] (volume_map row' ∷ [])
      (subst (AreAllLists old.store) (sym (append-nil (map volume_map volumes ++ map held_map held))) kept.lists.lists) refl (append-nil row'.map.numbers)

  abbrev i : ℕ
  i = position_or_len (is_row_above row'.id.0) volumes

  parts : map volume_map volumes ++ map held_map held ≡ map volume_map (take i volumes) ++ ([] ++ (map volume_map (drop i volumes) ++ map held_map held))
  parts = ap (λ vs. map volume_map vs ++ map held_map held) (sym (take-append-drop i volumes))
      ∙ ap (λ ms. ms ++ map held_map held) (map-append volume_map (take i volumes) (drop i volumes))
      ∙ append_assoc (map volume_map (take i volumes)) (map volume_map (drop i volumes)) (map held_map held)

  parts_now : map volume_map now ++ map held_map held ≡ map volume_map (take i volumes) ++ ((volume_map row' ∷ []) ++ (map volume_map (drop i volumes) ++ map held_map held))
  parts_now = ap (λ vs. map volume_map vs ++ map held_map held) (put_at_first (is_row_above row'.id.0) row' volumes)
      ∙ ap (λ ms. ms ++ map held_map held) (map-append volume_map (take i volumes) (row' ∷ drop i volumes))
      ∙ append_assoc (map volume_map (take i volumes)) (volume_map row' ∷ map volume_map (drop i volumes)) (map held_map held)

  known : AreAllLists new.store (map volume_map now ++ map held_map held)
  known = subst (AreAllLists new.store) (sym parts_now)
      (lists_known old.store new.store [] row'.map.numbers ex (map volume_map (take i volumes)) (map volume_map (drop i volumes) ++ map held_map held) [] (volume_map row' ∷ [])
      (subst (AreAllLists old.store) parts kept.lists.lists) refl (append-nil row'.map.numbers)
      (All-cons (λ (m : MapState). IsMapOf new.store m) (volume_map row') [] of (All-nil (λ (m : MapState). IsMapOf new.store m))))

  left_volumes : All (IsLeft old.store new.store) (map volume_map volumes)
  left_volumes = All-front (IsLeft old.store new.store) (map volume_map volumes) (map held_map held) all_left

  volumes_same : map (seen_volume new.store) volumes ≡ map (seen_volume old.store) volumes
  volumes_same = seen_left volume_map seen_volume volume_decided old.store new.store volumes left_volumes

  held_same : map (seen_held new.store) held ≡ map (seen_held old.store) held
  held_same = seen_left held_map seen_held held_decided old.store new.store held (All-back (IsLeft old.store new.store) (map volume_map volumes) (map held_map held) all_left)

  pub added_seen : seen_shelf geometry new now held ≡ with_made (seen_shelf geometry old volumes held) (seen_volume new.store row')
  added_seen =
      let vs = map-put_before (seen_volume new.store) (is_row_above row'.id.0) (λ (w : Volume Entry). nat_lt row'.id.0 w.number) (λ r. refl) row' (seen_volume new.store row') refl volumes
      ∙ ap (put_before (λ (w : Volume Entry). nat_lt row'.id.0 w.number) (seen_volume new.store row')) volumes_same in
      let hs = held_same in
      ap (λ (ws : List (Volume Entry)). let s : ShelfState = record { geometry = geometry; volumes = ws; held = map (seen_held new.store) held; fresh = fresh_from 0 new.pool.places; reserved = new.pool.reserved } in s) vs
      ∙ ap (λ (ks : List HeldList). let s : ShelfState = record { geometry = geometry; volumes = put_before (λ (w : Volume Entry). nat_lt row'.id.0 w.number) (seen_volume new.store row') (map (seen_volume old.store) volumes); held = ks; fresh = fresh_from 0 new.pool.places; reserved = new.pool.reserved } in s) hs
      ∙ ap (λ p. let s : ShelfState = record { geometry = geometry; volumes = put_before (λ (w : Volume Entry). nat_lt row'.id.0 w.number) (seen_volume new.store row') (map (seen_volume old.store) volumes); held = map (seen_held old.store) held; fresh = fresh_from 0 p.places; reserved = p.reserved } in s) pool

  entries_now : shelf_entries (seen_shelf geometry new now held) ≡ chunks + shelf_entries (seen_shelf geometry old volumes held)
  entries_now =
      let made = sum-put (λ (v : Volume Entry). length v.chunks) (λ (w : Volume Entry). nat_lt row'.id.0 w.number) (seen_volume new.store row') (map (seen_volume old.store) volumes) in
      let size : length (seen_volume new.store row').chunks ≡ chunks = length-map (list_of new.store row'.map) seen_entry ∙ list_len new.store row'.map of ∙ len in
      let is = ap shelf_entries added_seen in
      omega arith

  pub added_kept : All (IsFilled new.store) held → shares_rightly (with_made (seen_shelf geometry old volumes held) (seen_volume new.store row')) ≡ true → IsShelf geometry new now held (total + chunks) (rooms - 1) volume_memory' held_memory
  added_kept filled shares = record {
    lists = record {
      lists = known;
      places = ap (λ p. length p.places) pool ∙ kept.lists.places;
      pages = ex.size ∙ kept.lists.pages;
      shares = ap shares_rightly added_seen ∙ shares;
      summed = let e = entries_now in let s = kept.lists.summed in omega arith;
      few = few;
      allocated = All-put (λ (r : VolumeRow). r.allocated ≡ allocated_in (list_of new.store r.map)) (is_row_above row'.id.0) row' volumes allocated (allocated_left old.store new.store volumes left_volumes kept.lists.allocated);
    };
    rising = rising-put (λ (r : VolumeRow). r.id.0) row' volumes (all-where_none (is_row row'.id.0) volumes unused) kept.rising;
    held_rising = kept.held_rising;
    indexed = kept.indexed;
    filled = filled;
    volume_rows = let l = length-put_before (is_row_above row'.id.0) row' volumes in let m = kept.volume_rows in omega arith;
    held_rows = let l = length-put_before (is_row_above row'.id.0) row' volumes in let m = kept.held_rows in omega arith;
    held_counts = counts_left old.store new.store held (All-back (IsLeft old.store new.store) (map volume_map volumes) (map held_map held) all_left) kept.held_counts;
    held_room = kept.held_room;
  }

  -- pages that are the own of volumes that stood, with the new volume among them
  pub added_own : (n k : ℕ) → own_in (map (seen_pages old.store) volumes) n k ≡ true → own_in (map (seen_pages new.store) volumes) n k ≡ true → own_in (map (seen_pages new.store) now) n k ≡ true
  added_own n k was own =
      let pages = map-put_before (seen_pages new.store) (is_row_above row'.id.0) (λ (q : OwnPages). nat_lt row'.id.0 q.number) (λ r. refl) row' (seen_pages new.store row') refl volumes in
      ap (λ ps. own_in ps n k) pages
      ∙ own_put (map (seen_pages new.store) volumes) (seen_pages new.store row') (λ (q : OwnPages). nat_lt row'.id.0 q.number) n k (other (row'.id.0 == n) refl)
      ∙ own
    where
      other : (b : Bool) → (row'.id.0 == n) ≡ b → b ≡ false
      other true e =
          let same = eqb-true row'.id.0 n e in
          let none = own_none volumes (seen_pages old.store) n k (λ r. refl) (subst (λ m. find (is_row m) volumes ≡ None) same unused) in
          sym was ∙ none
      other false e = refl

  -- a list that was made took unused pages
  module _ (taken : TakesUnused old.store [] row'.map.numbers) where
    pub made_filled : All (IsFilled new.store) held
    made_filled = filled_stays old.store new.store [] row'.map.numbers ex taken held
        (All-back (λ (m : MapState). IsMapOf new.store m) (map volume_map now) (map held_map held) known.maps) kept.filled

    pub made_own_kept : (n k : ℕ) → own_in (map (seen_pages old.store) volumes) n k ≡ true → own_in (map (seen_pages new.store) now) n k ≡ true
    made_own_kept n k own = added_own n k own (own_rows old.store new.store [] row'.map.numbers ex taken volumes maps_left n k own)
      where
        maps_left : All (λ (m : MapState). IsMapOf new.store m) (map volume_map volumes)
        maps_left = All-weaker (IsLeft old.store new.store) (λ (m : MapState). IsMapOf new.store m) (λ m h. h.of) (map volume_map volumes) left_volumes
