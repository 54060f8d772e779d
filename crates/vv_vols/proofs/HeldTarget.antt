-- One more held list of unmapped entries: what a shelf keeps, and what is seen of it.
use Rattle.std.proofs.Common.{ℕ, ◌≡◌, ◌+◌, ◌-◌, ◌≤◌, true, false, List, [], ◌∷◌, map, replicate, refl, sym, ap, ◌∙◌, subst, arith, ◌==◌, ◌&&◌, Bool, not, cond, Some, None, find}
use Rattle.std.specs.List.{Contains, list_all}
use Rattle.std.proofs.Common.{inr}
use Rattle.std.proofs.lemmas.List.{length-replicate}
use Rattle.vv_units.specs.declared.geometry.Geometry.{Geometry}
use Rattle.vv_map.specs.Rooms.{MapState}
use Rattle.vv_map.specs.Pages.{StoreState, list_of, IsMapOf}
use Rattle.vv_entries.specs.declared.entry.Entry.{Entry as PlacedEntry}
use Rattle.vv_entries.specs.Entries.{EntriesState, unmapped}
use Rattle.vv_entries.specs.Changes.{Exchanges, TakesUnused}
use Rattle.vv_flat.specs.Lists.{numbers_from}
use Rattle.vv_flat.specs.State.{indexed}
use Rattle.vv_flat.specs.Chunks.{unmapped_entry}
use Rattle.vv_flat.proofs.MapLists.{map-replicate}
use Rattle.vv_vols.specs.declared.row.VolumeRow.{VolumeRow}
use Rattle.vv_vols.specs.declared.row.HeldRow.{HeldRow}
use Rattle.vv_vols.specs.declared.row.HeldIndexes.TheVariants.{FromZero}
use Rattle.vv_vols.specs.Shelf.{HeldList, shares_rightly, first_gap, next_held, is_held}
use Rattle.vv_vols.specs.Calls.{with_held, new_held}
use Rattle.vv_vols.specs.Rows.{is_held_above, seen_entry, seen_entries, seen_held, seen_pages, seen_shelf, own_in, held_numbers, with_indexes, allocated_in, IsShelf, rises}
use Rattle.vv_flat.specs.Lists.{put_before}
use Rattle.vv_vols.proofs.Members.{chunk_in}
use Rattle.vv_vols.proofs.Kept.{held_shares}
use Rattle.vv_vols.proofs.Numbers.{none_allocated, length-numbers_from}
use Rattle.vv_vols.proofs.EmptyShelf.{in_replicate}
use Rattle.vv_vols.proofs.HeldPieces.{with_all}
use Rattle.vv_vols.proofs.HeldOwn.{own_none, own_all}
use Rattle.vv_vols.proofs.HeldNumbers.{gap_new}
use Rattle.vv_vols.proofs.AddedHeld.{added_held_seen, added_held_kept, added_held_filled, added_held_own}

pub held_numbers_seen : (store : StoreState PlacedEntry) (rows : List HeldRow) → map (λ (h : HeldList). h.number) (map (seen_held store) rows) ≡ held_numbers rows
held_numbers_seen store [] = refl
held_numbers_seen store (r ∷ rows) = ap (λ ns. r.number ∷ ns) (held_numbers_seen store rows)

none_mapped : (store : StoreState PlacedEntry) (n : ℕ) (rows : List HeldRow) → list_all (λ (r : HeldRow). not (r.number == n)) rows ≡ true → find (is_held n) (map (seen_held store) rows) ≡ None
none_mapped store n [] all = refl
none_mapped store n (r ∷ rows) all = go (r.number == n) all (none_mapped store n rows)
  where
    go : (b : Bool) → (not b && list_all (λ (q : HeldRow). not (q.number == n)) rows) ≡ true → (list_all (λ (q : HeldRow). not (q.number == n)) rows ≡ true → find (is_held n) (map (seen_held store) rows) ≡ None)
        → cond b (Some (seen_held store r)) (find (is_held n) (map (seen_held store) rows)) ≡ None
    go true all later = absurd (cc)
    go false all later = later all

-- no held list has the number that a new one gets
pub held_unused : (store : StoreState PlacedEntry) (n : ℕ) (rows : List HeldRow) → n ≡ first_gap 0 (held_numbers rows) → rises (held_numbers rows) ≡ true → find (is_held n) (map (seen_held store) rows) ≡ None
held_unused store n rows number rising = none_mapped store n rows (subst (λ k. list_all (λ (r : HeldRow). not (r.number == k)) rows ≡ true) (sym number) (gap_new (λ (r : HeldRow). r.number) rows rising))

module _ (geometry : Geometry) (old new : EntriesState) (volumes : List VolumeRow) (held : List HeldRow) (total rooms volume_memory held_memory held_memory' n chunks : ℕ) (m : MapState)
    (number : n ≡ first_gap 0 (held_numbers held)) (of : IsMapOf new.store m) (ex : Exchanges old.store new.store [] m.numbers) (taken : TakesUnused old.store [] m.numbers) (pool : new.pool ≡ old.pool)
    (list : list_of new.store m ≡ replicate chunks unmapped) (len : m.len ≡ chunks)
    (few : total + chunks ≤ geometry.map_chunks) (some : 1 ≤ rooms) (memory : held_memory ≤ held_memory')
    (kept : IsShelf geometry old volumes held total rooms volume_memory held_memory) where
  abbrev row' : HeldRow
  row' = record { number = n; map = m; indexes = FromZero; is_image = false; allocated = 0 }

  counted : 0 ≡ allocated_in (list_of new.store m)
  counted = sym (ap allocated_in list ∙ none_allocated chunks)

  chunks_seen : seen_entries (list_of new.store m) ≡ replicate chunks unmapped_entry
  chunks_seen = ap seen_entries list ∙ map-replicate seen_entry chunks unmapped

  pieces_seen : with_indexes (numbers_from 0 m.len) (seen_entries (list_of new.store m)) ≡ indexed (replicate chunks unmapped_entry)
  pieces_seen = ap (λ es. with_indexes (numbers_from 0 m.len) es) chunks_seen ∙ with_all m.len (replicate chunks unmapped_entry) (length-replicate chunks unmapped_entry ∙ sym len)

  next : n ≡ next_held (seen_shelf geometry old volumes held)
  next = number ∙ ap (first_gap 0) (sym (held_numbers_seen old.store held))

  is_new : seen_held new.store row' ≡ new_held (seen_shelf geometry old volumes held) (indexed (replicate chunks unmapped_entry)) false 0
  is_new =
      ap (λ ps. let h : HeldList = record { number = n; pieces = ps; is_image = false; left = 0 } in h) pieces_seen
      ∙ ap (λ k. let h : HeldList = record { number = k; pieces = indexed (replicate chunks unmapped_entry); is_image = false; left = 0 } in h) next

  fits : total + m.len ≤ geometry.map_chunks
  fits = omega arith

  shares : shares_rightly (with_held (seen_shelf geometry old volumes held) (seen_held new.store row')) ≡ true
  shares = held_shares (seen_shelf geometry old volumes held) kept.lists.shares (seen_held new.store row')
      (λ a at. inr (in_replicate chunks unmapped_entry a.chunk (chunk_in 0 (replicate chunks unmapped_entry) a (subst (λ ps. Contains ps a) pieces_seen at))))

  pub target_seen : seen_shelf geometry new volumes (put_before (is_held_above n) row' held) ≡ with_held (seen_shelf geometry old volumes held) (new_held (seen_shelf geometry old volumes held) (indexed (replicate chunks unmapped_entry)) false 0)
  target_seen =
      added_held_seen geometry old new volumes held total rooms volume_memory held_memory held_memory' row' number of ex pool counted (length-numbers_from 0 m.len) tt fits some memory kept
      ∙ ap (with_held (seen_shelf geometry old volumes held)) is_new

  pub target_kept : IsShelf geometry new volumes (put_before (is_held_above n) row' held) (total + chunks) (rooms - 1) volume_memory held_memory'
  target_kept = subst (λ k. IsShelf geometry new volumes (put_before (is_held_above n) row' held) (total + k) (rooms - 1) volume_memory held_memory') len
      (added_held_kept geometry old new volumes held total rooms volume_memory held_memory held_memory' row' number of ex pool counted (length-numbers_from 0 m.len) tt fits some memory kept
      (added_held_filled geometry old new volumes held total rooms volume_memory held_memory held_memory' row' number of ex pool counted (length-numbers_from 0 m.len) tt fits some memory kept taken)
      (λ image. own_all old.store new.store [] m ex taken of (own_none old.store)) shares)

  pub target_own : (v k : ℕ) → own_in (map (seen_pages old.store) volumes) v k ≡ true → own_in (map (seen_pages new.store) volumes) v k ≡ true
  target_own = added_held_own geometry old new volumes held total rooms volume_memory held_memory held_memory' row' number of ex pool counted (length-numbers_from 0 m.len) tt fits some memory kept taken
