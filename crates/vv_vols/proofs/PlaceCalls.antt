-- Calls of places: what they leave a shelf, and what is seen of it.
use Rattle.std.proofs.Common.{ℕ, ◌≡◌, Bool, true, false, cond, fold, List, [], ◌∷◌, take, Result, Ok, Err, OnOk, OnErr, refl, sym, ap, ◌∙◌, subst}
use Rattle.std.specs.Prelude.{nat_le, nat_lt}
use Rattle.vv_units.specs.declared.geometry.Geometry.{Geometry}
use Rattle.vv_pool.specs.declared.full.Full.{Full}
use Rattle.vv_pool.specs.Uses.{made_fresh}
use Rattle.vv_pool.specs.Pool.{IsFree, lowest_places, room_for, with_fresh, with_reserved}
use Rattle.vv_pool.proofs.PoolLaws.{length-with_fresh}
use Rattle.vv_entries.specs.Entries.{EntriesState, with_pool, IsCounted}
use Rattle.vv_flat.specs.Lists.{put_before}
use Rattle.vv_vols.specs.Places.{lowest_of, place_room_for, with_taken}
use Rattle.vv_vols.specs.declared.row.VolumeRow.{VolumeRow}
use Rattle.vv_vols.specs.declared.row.HeldRow.{HeldRow}
use Rattle.vv_vols.specs.Rows.{ShelfView, fresh_from, seen_shelf, seen_view, IsShelf}
use Rattle.vv_vols.proofs.PoolKept.{pool_kept}
use Rattle.vv_vols.proofs.FreePlaces.{fresh_lowest, fresh_one, free_places_seen, free_number}

-- what follows on success follows from what was said of success
pub on_ok : {A E : Type 0} (r : Result A E) (P Q : Type 0) → (P → Q) → OnOk r P → OnOk r Q
on_ok (Ok x) P Q f h = f h
on_ok (Err e) P Q f h = h

pub on_true : (b : Bool) (P Q : Type 0) → (b ≡ true → P → Q) → cond b P (Unit {0}) → cond b Q (Unit {0})
on_true true P Q f h = f refl h
on_true false P Q f h = h

-- what holds after success and after failure holds
pub either : {A E : Type 0} (r : Result A E) (new ok err : EntriesState) (P : EntriesState → Type 0) → OnOk r (new ≡ ok) → OnErr r (new ≡ err) → P ok → P err → P new
either (Ok x) new ok err P is e p q = subst P (sym is) p
either (Err x) new ok err P e is p q = subst P (sym is) q

module _ (geometry : Geometry) (entries : EntriesState) (volumes : List VolumeRow) (held : List HeldRow) (total rooms volume_memory held_memory : ℕ)
    (kept : IsShelf geometry entries volumes held total rooms volume_memory held_memory) where
  pub taken_kept : (places : List ℕ) → IsShelf geometry (with_pool entries (with_fresh entries.pool places)) volumes held total rooms volume_memory held_memory
  taken_kept places = pool_kept geometry entries (with_fresh entries.pool places) volumes held total rooms volume_memory held_memory (length-with_fresh entries.pool places) kept

  pub reserved_kept : (n : ℕ) → IsShelf geometry (with_pool entries (with_reserved entries.pool n)) volumes held total rooms volume_memory held_memory
  reserved_kept n = pool_kept geometry entries (with_reserved entries.pool n) volumes held total rooms volume_memory held_memory refl kept

  taken_view : (places : List ℕ) → fresh_from 0 (made_fresh entries.pool.places places) ≡ fold (λ now p. put_before (λ q. nat_lt p q) p now) (fresh_from 0 entries.pool.places) places
      → seen_view geometry (with_pool entries (with_fresh entries.pool places)) volumes held rooms
      ≡ record (seen_view geometry entries volumes held rooms) { shelf = with_taken (seen_shelf geometry entries volumes held) places }
  taken_view places is =
      ap (λ fs. let v = seen_view geometry entries volumes held rooms in let w : ShelfView = record v { shelf = record (seen_shelf geometry entries volumes held) { fresh = fs } } in w) is

  -- one free place
  pub one_taken : (p : ℕ) → IsFree entries.pool p → seen_view geometry (with_pool entries (with_fresh entries.pool (p ∷ []))) volumes held rooms
      ≡ record (seen_view geometry entries volumes held rooms) { shelf = with_taken (seen_shelf geometry entries volumes held) (p ∷ []) }
  one_taken p free = taken_view (p ∷ []) (fresh_one entries.pool p free)

  module _ (counted : IsCounted entries.store entries.pool) where
    -- the lowest n free places
    pub lowest_seen : (n : ℕ) → lowest_places entries.pool n ≡ lowest_of (seen_shelf geometry entries volumes held) n
    lowest_seen n = ap (take n) (free_places_seen geometry entries volumes held total rooms volume_memory held_memory counted kept)

    pub lowest_taken : (n : ℕ) → seen_view geometry (with_pool entries (with_fresh entries.pool (lowest_places entries.pool n))) volumes held rooms
        ≡ record (seen_view geometry entries volumes held rooms) { shelf = with_taken (seen_shelf geometry entries volumes held) (lowest_of (seen_shelf geometry entries volumes held) n) }
    lowest_taken n =
        taken_view (lowest_places entries.pool n) (fresh_lowest entries.pool n)
        ∙ ap (λ ps. let v = seen_view geometry entries volumes held rooms in let w : ShelfView = record v { shelf = with_taken (seen_shelf geometry entries volumes held) ps } in w) (lowest_seen n)

    pub room_seen : (n : ℕ) → room_for entries.pool n ≡ place_room_for (seen_shelf geometry entries volumes held) n
    room_seen n =
        ap (λ (f : ℕ). let r : Result (Unit {0}) Full = cond (nat_le n f) (Ok tt) (Err (record { free = f; asked = n })) in r)
        (free_number geometry entries volumes held total rooms volume_memory held_memory counted kept)
