-- One volume's row changed, with its list, by one call on the store: what the shelf is seen as then, and what stays kept.
use Rattle.std.proofs.Common.{ℕ, zero, suc, ◌≡◌, ◌+◌, ◌<◌, cond, not, List, [], ◌∷◌, ◌++◌, map, length, get_or, set, take, drop, Some, refl, sym, ap, ◌∙◌, subst, arith}
use Rattle.std.specs.List.{All, position, position_or_len}
use Rattle.std.proofs.lemmas.List.Elements.{All-nil, All-cons, All-head, All-tail}
use Rattle.vv_map.specs.Pages.{StoreState, list_of, IsMapOf}
use Rattle.vv_entries.specs.declared.entry.Entry.{Entry as PlacedEntry}
use Rattle.vv_entries.specs.Changes.{Exchanges}
use Rattle.vv_entries.specs.Owners.{AreAllLists, IsLeft}
use Rattle.vv_flat.specs.State.{Volume}
use Rattle.vv_flat.specs.Chunks.{Entry}
use Rattle.vv_flat.specs.Lists.{first_changed}
use Rattle.vv_flat.proofs.Positions.{changed_at, position_some}
use Rattle.vv_vols.specs.declared.row.VolumeRow.{VolumeRow}
use Rattle.vv_vols.specs.declared.row.HeldRow.{HeldRow}
use Rattle.vv_vols.specs.Shelf.{HeldList, is_volume}
use Rattle.vv_vols.specs.Rows.{is_row, seen_entries, seen_volume, seen_held, allocated_in, volume_map, held_map, volume_with, with_indexes, held_indexes, further, IsCountedHeld}
use Rattle.vv_entries.proofs.Owners.{All-front}
use Rattle.vv_vols.proofs.OwnedRows.{around, set_around, seen_left, ahead_left, behind_left, changed_known, changed_seen, others_left}

pub volume_decided : (old new : StoreState PlacedEntry) (r : VolumeRow) → list_of new (volume_map r) ≡ list_of old (volume_map r) → seen_volume new r ≡ seen_volume old r
volume_decided old new r same = ap (λ es. volume_with r.id.0 r.head (seen_entries es)) same

pub held_decided : (old new : StoreState PlacedEntry) (r : HeldRow) → list_of new (held_map r) ≡ list_of old (held_map r) → seen_held new r ≡ seen_held old r
held_decided old new r same = ap (λ es. let seen : HeldList = record { number = r.number; pieces = with_indexes (held_indexes r.indexes r.map.len) (seen_entries es); is_image = r.is_image; left = further r.indexes } in seen) same

-- the volumes around one, put together again
back : (f : VolumeRow → Volume Entry) (x : Volume Entry) (vs : List VolumeRow) (k : ℕ) → k < length vs → map f (take k vs) ++ (x ∷ map f (drop (suc k) vs)) ≡ set (map f vs) k x
back f x [] k h = absurd (omega arith)
back f x (v ∷ vs) zero h = refl
back f x (v ∷ vs) (suc k) h = ap (λ ws. f v ∷ ws) (back f x vs k (omega arith))

module _ (old new : StoreState PlacedEntry) (volumes : List VolumeRow) (held : List HeldRow) (i : ℕ) (row' : VolumeRow) (within : i < length volumes)
    (ex : Exchanges old new (get_or volumes i row').map.numbers row'.map.numbers) (of : IsMapOf new row'.map)
    (lists : AreAllLists old (map volume_map volumes ++ map held_map held)) where
  row : VolumeRow
  row = get_or volumes i row'

  split : AreAllLists old (map volume_map (take i volumes ++ (get_or volumes i row' ∷ drop (suc i) volumes)) ++ map held_map held)
  split = subst (λ vs. AreAllLists old (map volume_map vs ++ map held_map held)) (around volumes i row' within) lists

  -- the rows own all lists still,
  pub row_known : AreAllLists new (map volume_map (set volumes i row') ++ map held_map held)
  row_known = subst (λ vs. AreAllLists new (map volume_map vs ++ map held_map held)) (sym (set_around volumes i row' within))
      (changed_known volume_map seen_volume volume_decided old new (take i volumes) (drop (suc i) volumes) (map held_map held) (get_or volumes i row') row' ex of split)

  -- one volume is seen as another one,
  pub row_seen : map (seen_volume new) (set volumes i row') ≡ set (map (seen_volume old) volumes) i (seen_volume new row')
  row_seen =
      ap (map (seen_volume new)) (set_around volumes i row' within)
      ∙ changed_seen volume_map seen_volume volume_decided old new (take i volumes) (drop (suc i) volumes) (map held_map held) (get_or volumes i row') row' ex of split
      ∙ back (seen_volume old) (seen_volume new row') volumes i within

  -- the lists of the other volumes are left
  pub rows_left_ahead : All (IsLeft old new) (map volume_map (take i volumes))
  rows_left_ahead = ahead_left volume_map seen_volume volume_decided old new (take i volumes) (drop (suc i) volumes) (map held_map held) (get_or volumes i row') row' ex of split

  pub rows_left_behind : All (IsLeft old new) (map volume_map (drop (suc i) volumes))
  rows_left_behind = All-front (IsLeft old new) (map volume_map (drop (suc i) volumes)) (map held_map held)
      (behind_left volume_map seen_volume volume_decided old new (take i volumes) (drop (suc i) volumes) (map held_map held) (get_or volumes i row') row' ex of split)

  pub held_left : All (IsLeft old new) (map held_map held)
  held_left = others_left volume_map seen_volume volume_decided old new (take i volumes) (drop (suc i) volumes) (map held_map held) (get_or volumes i row') row' ex of split

  -- and the held lists are seen as before
  pub held_seen : map (seen_held new) held ≡ map (seen_held old) held
  held_seen = seen_left held_map seen_held held_decided old new held
      (others_left volume_map seen_volume volume_decided old new (take i volumes) (drop (suc i) volumes) (map held_map held) (get_or volumes i row') row' ex of split)

-- the allocated numbers of held lists that are left
pub counts_left : (old new : StoreState PlacedEntry) (rows : List HeldRow) → All (IsLeft old new) (map held_map rows) → All (IsCountedHeld old) rows → All (IsCountedHeld new) rows
counts_left old new [] left was = All-nil (IsCountedHeld new)
counts_left old new (r ∷ rows) left was =
    let first = All-head (IsLeft old new) (held_map r) (map held_map rows) left in
    All-cons (IsCountedHeld new) r rows
    (All-head (IsCountedHeld old) r rows was ∙ ap allocated_in (sym first.same))
    (counts_left old new rows (All-tail (IsLeft old new) (held_map r) (map held_map rows) left) (All-tail (IsCountedHeld old) r rows was))

-- ---- the place of a row, and of the volume that it is seen as
pub place_seen : (store : StoreState PlacedEntry) (n : ℕ) (rows : List VolumeRow) → position_or_len (is_volume n) (map (seen_volume store) rows) ≡ position_or_len (is_row n) rows
place_seen store n [] = refl
place_seen store n (r ∷ rows) = ap (λ k. cond (not (is_row n r)) (1 + k) 0) (place_seen store n rows)

pub found_seen : (store : StoreState PlacedEntry) (rows : List VolumeRow) (i : ℕ) (d : VolumeRow) → get_or (map (seen_volume store) rows) i (seen_volume store d) ≡ seen_volume store (get_or rows i d)
found_seen store [] i d = refl
found_seen store (r ∷ rows) zero d = refl
found_seen store (r ∷ rows) (suc i) d = found_seen store rows i d

-- the volume at a row's place, changed
pub changed_volume : (store : StoreState PlacedEntry) (n i : ℕ) (rows : List VolumeRow) (d : VolumeRow) (f : Volume Entry → Volume Entry) → position (is_row n) rows ≡ Some i
    → first_changed (is_volume n) f (map (seen_volume store) rows) ≡ set (map (seen_volume store) rows) i (f (seen_volume store (get_or rows i d)))
changed_volume store n i rows d f at =
    let place : position_or_len (is_volume n) (map (seen_volume store) rows) ≡ i = place_seen store n rows ∙ (position_some (is_row n) rows i at).0 in
    changed_at (is_volume n) f (map (seen_volume store) rows) (seen_volume store d)
    ∙ ap (λ k. set (map (seen_volume store) rows) k (f (get_or (map (seen_volume store) rows) k (seen_volume store d)))) place
    ∙ ap (λ v. set (map (seen_volume store) rows) i (f v)) (found_seen store rows i d)

-- ---- the kept numbers of the other rows
pub allocated_left : (old new : StoreState PlacedEntry) (rows : List VolumeRow) → All (IsLeft old new) (map volume_map rows)
    → All (λ (r : VolumeRow). r.allocated ≡ allocated_in (list_of old r.map)) rows → All (λ (r : VolumeRow). r.allocated ≡ allocated_in (list_of new r.map)) rows
allocated_left old new [] left was = All-nil (λ (r : VolumeRow). r.allocated ≡ allocated_in (list_of new r.map))
allocated_left old new (r ∷ rows) left was =
    let first = All-head (IsLeft old new) (volume_map r) (map volume_map rows) left in
    All-cons (λ (r : VolumeRow). r.allocated ≡ allocated_in (list_of new r.map)) r rows
    (All-head (λ (r : VolumeRow). r.allocated ≡ allocated_in (list_of old r.map)) r rows was ∙ ap allocated_in (sym first.same))
    (allocated_left old new rows (All-tail (IsLeft old new) (volume_map r) (map volume_map rows) left) (All-tail (λ (r : VolumeRow). r.allocated ≡ allocated_in (list_of old r.map)) r rows was))
