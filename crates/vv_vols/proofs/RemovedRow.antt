-- One volume less, whose list ended: what a shelf keeps, and what is seen of it.
use Rattle.std.proofs.Common.{ℕ, zero, suc, ◌≡◌, ◌≢◌, ◌+◌, ◌<◌, ◌==◌, Bool, true, false, cond, List, [], ◌∷◌, ◌++◌, map, length, get_or, take, drop, sum_by, Some, find, refl, sym, ap, ◌∙◌, subst, arith, length-append}
use Rattle.std.specs.List.{All, position, remove}
use Rattle.std.proofs.lemmas.Bool.{eqb-true, ne_eqb}
use Rattle.std.proofs.lemmas.List.{append-nil, append_assoc, map-append, length-map}
use Rattle.std.proofs.lemmas.List.Elements.{All-nil, All-append, All-take, All-drop}
use Rattle.std.proofs.lemmas.List.Sums.{sum_by-append, sum_by-cons}
use Rattle.vv_units.specs.declared.geometry.Geometry.{Geometry}
use Rattle.vv_map.specs.Rooms.{MapState}
use Rattle.vv_map.specs.Pages.{list_of, IsMapOf}
use Rattle.vv_entries.specs.Entries.{EntriesState}
use Rattle.vv_entries.specs.Changes.{Exchanges, TakesUnused}
use Rattle.vv_entries.specs.Owners.{AreAllLists, IsLeft}
use Rattle.vv_entries.proofs.Owners.{left_ahead, left_behind, lists_known, All-front, All-back}
use Rattle.vv_entries.proofs.Times.{times-nil}
use Rattle.vv_flat.specs.State.{Volume}
use Rattle.vv_flat.specs.Chunks.{Entry}
use Rattle.vv_flat.specs.Lists.{if_found, first_removed}
use Rattle.vv_flat.proofs.Positions.{position_some, removed_step}
use Rattle.vv_flat.proofs.MapLists.{map-first_removed}
use Rattle.vv_flat.proofs.KeepLists.{rising-removed}
use Rattle.vv_vols.specs.declared.row.VolumeRow.{VolumeRow}
use Rattle.vv_vols.specs.declared.row.HeldRow.{HeldRow}
use Rattle.vv_vols.specs.Shelf.{HeldList, is_volume, shares_rightly, shelf_entries}
use Rattle.vv_vols.specs.Calls.{with_deleted}
use Rattle.vv_vols.specs.Rows.{OwnPages, is_row, seen_entry, seen_volume, seen_held, seen_pages, seen_shelf, own_in, volume_map, held_map, volume_numbers, rises, fresh_from, allocated_in, IsShelf}
use Rattle.vv_vols.proofs.OwnedRows.{around, seen_left}
use Rattle.vv_vols.proofs.ChangedRow.{volume_decided, held_decided, allocated_left, counts_left}
use Rattle.vv_vols.proofs.OwnKept.{own_rows, filled_stays}

remove_around : {A : Type 0} (xs : List A) (i : ℕ) → remove xs i ≡ take i xs ++ drop (suc i) xs
remove_around [] zero = refl
remove_around [] (suc i) = refl
remove_around (x ∷ xs) zero = refl
remove_around (x ∷ xs) (suc i) = ap (λ ys. x ∷ ys) (remove_around xs i)

-- the pages of another volume
own_removed : (rows : List VolumeRow) (f : VolumeRow → OwnPages) (n m k : ℕ) → ((r : VolumeRow) → (f r).number ≡ r.id.0) → m ≢ n → own_in (map f (first_removed (is_row n) rows)) m k ≡ own_in (map f rows) m k
own_removed [] f n m k same ne = refl
own_removed (r ∷ rows) f n m k same ne = go (is_row n r) refl (own_removed rows f n m k same ne)
  where
    inner : (b : Bool) → own_in (map f (first_removed (is_row n) rows)) m k ≡ own_in (map f rows) m k
        → if_found (cond b (Some (f r)) (find (λ (x : OwnPages). x.number == m) (map f (first_removed (is_row n) rows)))) (λ (x : OwnPages). get_or x.own k false) false
        ≡ if_found (cond b (Some (f r)) (find (λ (x : OwnPages). x.number == m) (map f rows))) (λ (x : OwnPages). get_or x.own k false) false
    inner true rest = refl
    inner false rest = rest

    go : (b : Bool) → is_row n r ≡ b → own_in (map f (first_removed (is_row n) rows)) m k ≡ own_in (map f rows) m k
        → own_in (map f (cond b rows (r ∷ first_removed (is_row n) rows))) m k ≡ own_in (f r ∷ map f rows) m k
    go true is rest =
        let number : (f r).number ≡ n = same r ∙ eqb-true r.id.0 n is in
        sym (ap (λ b. if_found (cond b (Some (f r)) (find (λ (x : OwnPages). x.number == m) (map f rows))) (λ (x : OwnPages). get_or x.own k false) false)
        (ne_eqb (f r).number m (λ e. ne (sym e ∙ number))))
    go false is rest = inner ((f r).number == m) rest

module _ (geometry : Geometry) (old new : EntriesState) (volumes : List VolumeRow) (held : List HeldRow) (total total' rooms volume_memory held_memory i n : ℕ) (row : VolumeRow)
    (at : position (is_row n) volumes ≡ Some i) (here : row ≡ get_or volumes i row) (ex : Exchanges old.store new.store row.map.numbers [])
    (places : length new.pool.places ≡ length old.pool.places) (reserved : new.pool.reserved ≡ old.pool.reserved) (fresh : fresh_from 0 new.pool.places ≡ fresh_from 0 old.pool.places)
    (less : total' + length (list_of old.store row.map) ≡ total) (kept : IsShelf geometry old volumes held total rooms volume_memory held_memory) where
  lt : i < length volumes
  lt = let p = position_some (is_row n) volumes i at in let e = p.0 in omega (arith, p.1)

  was : volumes ≡ take i volumes ++ (row ∷ drop (suc i) volumes)
  was = around volumes i row lt ∙ ap (λ r. take i volumes ++ (r ∷ drop (suc i) volumes)) (sym here)

  is : remove volumes i ≡ take i volumes ++ drop (suc i) volumes
  is = remove_around volumes i

  parts : map volume_map volumes ++ map held_map held ≡ map volume_map (take i volumes) ++ ((volume_map row ∷ []) ++ (map volume_map (drop (suc i) volumes) ++ map held_map held))
  parts = ap (λ vs. map volume_map vs ++ map held_map held) was
      ∙ ap (λ ms. ms ++ map held_map held) (map-append volume_map (take i volumes) (row ∷ drop (suc i) volumes))
      ∙ append_assoc (map volume_map (take i volumes)) (volume_map row ∷ map volume_map (drop (suc i) volumes)) (map held_map held)

  parts_now : map volume_map (remove volumes i) ++ map held_map held ≡ map volume_map (take i volumes) ++ ([] ++ (map volume_map (drop (suc i) volumes) ++ map held_map held))
  parts_now = ap (λ vs. map volume_map vs ++ map held_map held) is
      ∙ ap (λ ms. ms ++ map held_map held) (map-append volume_map (take i volumes) (drop (suc i) volumes))
      ∙ append_assoc (map volume_map (take i volumes)) (map volume_map (drop (suc i) volumes)) (map held_map held)

  split : AreAllLists old.store (map volume_map (take i volumes) ++ ((volume_map row ∷ []) ++ (map volume_map (drop (suc i) volumes) ++ map held_map held)))
  split = subst (AreAllLists old.store) parts kept.lists.lists

  known : AreAllLists new.store (map volume_map (remove volumes i) ++ map held_map held)
  known = subst (AreAllLists new.store) (sym parts_now)
      (lists_known old.store new.store row.map.numbers [] ex (map volume_map (take i volumes)) (map volume_map (drop (suc i) volumes) ++ map held_map held) (volume_map row ∷ []) []
      split (append-nil row.map.numbers) refl (All-nil (λ (m : MapState). IsMapOf new.store m)))

  ahead : All (IsLeft old.store new.store) (map volume_map (take i volumes))
  ahead = left_ahead old.store new.store row.map.numbers [] ex (map volume_map (take i volumes)) (map volume_map (drop (suc i) volumes) ++ map held_map held) (volume_map row ∷ []) [] split (append-nil row.map.numbers) refl

  behind : All (IsLeft old.store new.store) (map volume_map (drop (suc i) volumes) ++ map held_map held)
  behind = left_behind old.store new.store row.map.numbers [] ex (map volume_map (take i volumes)) (map volume_map (drop (suc i) volumes) ++ map held_map held) (volume_map row ∷ []) [] split (append-nil row.map.numbers) refl

  left_now : All (IsLeft old.store new.store) (map volume_map (remove volumes i))
  left_now = subst (All (IsLeft old.store new.store)) (sym (ap (map volume_map) is ∙ map-append volume_map (take i volumes) (drop (suc i) volumes)))
      (All-append (IsLeft old.store new.store) (map volume_map (take i volumes)) (map volume_map (drop (suc i) volumes)) ahead
      (All-front (IsLeft old.store new.store) (map volume_map (drop (suc i) volumes)) (map held_map held) behind))

  volumes_same : map (seen_volume new.store) (remove volumes i) ≡ map (seen_volume old.store) (remove volumes i)
  volumes_same = seen_left volume_map seen_volume volume_decided old.store new.store (remove volumes i) left_now

  held_same : map (seen_held new.store) held ≡ map (seen_held old.store) held
  held_same = seen_left held_map seen_held held_decided old.store new.store held (All-back (IsLeft old.store new.store) (map volume_map (drop (suc i) volumes)) (map held_map held) behind)

  pub removed_seen : seen_shelf geometry new (remove volumes i) held ≡ with_deleted (seen_shelf geometry old volumes held) n
  removed_seen =
      let vs = volumes_same ∙ ap (map (seen_volume old.store)) (removed_step (is_row n) volumes i at)
      ∙ map-first_removed (seen_volume old.store) (is_row n) (is_volume n) (λ r. refl) volumes in
      let hs = held_same in
      cc

  entries_now : shelf_entries (seen_shelf geometry new (remove volumes i) held) + length (list_of old.store row.map) ≡ shelf_entries (seen_shelf geometry old volumes held)
  entries_now =
      let f = λ (v : Volume Entry). length v.chunks in
      let s = seen_volume old.store in
      let front = take i volumes in
      let back = drop (suc i) volumes in
      let all : sum_by f (map s volumes) ≡ sum_by f (map s front) + sum_by f (s row ∷ map s back) =
      ap (λ vs. sum_by f (map s vs)) was ∙ ap (sum_by f) (map-append s front (row ∷ back)) ∙ sum_by-append f (map s front) (s row ∷ map s back) in
      let one : sum_by f (s row ∷ map s back) ≡ f (s row) + sum_by f (map s back) = sum_by-cons f (s row) (map s back) in
      let rest : sum_by f (map (seen_volume new.store) (remove volumes i)) ≡ sum_by f (map s front) + sum_by f (map s back) =
      ap (sum_by f) volumes_same ∙ ap (λ vs. sum_by f (map s vs)) is ∙ ap (sum_by f) (map-append s front back) ∙ sum_by-append f (map s front) (map s back) in
      let size : f (s row) ≡ length (list_of old.store row.map) = length-map (list_of old.store row.map) seen_entry in
      let hs : sum_by (λ (h : HeldList). length h.pieces) (map (seen_held new.store) held) ≡ sum_by (λ (h : HeldList). length h.pieces) (map (seen_held old.store) held) =
      ap (sum_by (λ (h : HeldList). length h.pieces)) held_same in
      omega arith

  taken : TakesUnused old.store row.map.numbers []
  taken k some = let none = times-nil k in omega arith

  len_now : length (remove volumes i) + 1 ≡ length volumes
  len_now =
      let a = ap length is ∙ length-append (take i volumes) (drop (suc i) volumes) in
      let b = ap length was ∙ length-append (take i volumes) (row ∷ drop (suc i) volumes) in
      omega arith

  pub removed_kept : shares_rightly (with_deleted (seen_shelf geometry old volumes held) n) ≡ true → IsShelf geometry new (remove volumes i) held total' rooms volume_memory held_memory
  removed_kept shares = record {
    lists = record {
      lists = known;
      places = places ∙ kept.lists.places;
      pages = ex.size ∙ kept.lists.pages;
      shares = ap shares_rightly removed_seen ∙ shares;
      summed = let e = entries_now in let s = kept.lists.summed in omega arith;
      few = let f = kept.lists.few in omega arith;
      allocated = allocated_left old.store new.store (remove volumes i) left_now
          (subst (All (λ (r : VolumeRow). r.allocated ≡ allocated_in (list_of old.store r.map))) (sym is)
          (All-append (λ (r : VolumeRow). r.allocated ≡ allocated_in (list_of old.store r.map)) (take i volumes) (drop (suc i) volumes)
          (All-take (λ (r : VolumeRow). r.allocated ≡ allocated_in (list_of old.store r.map)) i volumes kept.lists.allocated)
          (All-drop (λ (r : VolumeRow). r.allocated ≡ allocated_in (list_of old.store r.map)) (suc i) volumes kept.lists.allocated)));
    };
    rising = ap (λ vs. rises (volume_numbers vs)) (removed_step (is_row n) volumes i at) ∙ rising-removed (λ (r : VolumeRow). r.id.0) (is_row n) volumes kept.rising;
    held_rising = kept.held_rising;
    indexed = kept.indexed;
    filled = filled_stays old.store new.store row.map.numbers [] ex taken held
        (All-back (λ (m : MapState). IsMapOf new.store m) (map volume_map (remove volumes i)) (map held_map held) known.maps) kept.filled;
    volume_rows = let l = len_now in let m = kept.volume_rows in omega arith;
    held_rows = let l = len_now in let m = kept.held_rows in omega arith;
    held_counts = counts_left old.store new.store held (All-back (IsLeft old.store new.store) (map volume_map (drop (suc i) volumes)) (map held_map held) behind) kept.held_counts;
    held_room = kept.held_room;
  }

  pub removed_own_kept : (m k : ℕ) → m ≢ n → own_in (map (seen_pages old.store) volumes) m k ≡ true → own_in (map (seen_pages new.store) (remove volumes i)) m k ≡ true
  removed_own_kept m k ne own = own_rows old.store new.store row.map.numbers [] ex taken (remove volumes i)
      (All-front (λ (m : MapState). IsMapOf new.store m) (map volume_map (remove volumes i)) (map held_map held) known.maps) m k
      (ap (λ vs. own_in (map (seen_pages old.store) vs) m k) (removed_step (is_row n) volumes i at)
      ∙ own_removed volumes (seen_pages old.store) n m k (λ r. refl) ne ∙ own)
