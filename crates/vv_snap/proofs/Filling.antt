-- Volume 1 of a shelf that is filled chunk by chunk, with the stamps 1, 2 and so on.
use Rattle.std.proofs.Common.{ℕ, ◌≡◌, ◌≢◌, ◌+◌, ◌≤◌, true, Option, Some, None, length, refl, sym, ap, ◌∙◌, subst, arith, length-set}
use Rattle.std.specs.Prelude.{IsSome, is_some}
use Rattle.std.specs.List.{Contains}
use Rattle.vv_flat.specs.Lists.{if_found}
use Rattle.vv_flat.specs.State.{Volume, Piece}
use Rattle.vv_flat.specs.Chunks.{Entry}
use Rattle.vv_vols.specs.Shelf.{ShelfState, volume_in, size_in, shelf_entries, shelf_pieces}
use Rattle.vv_vols.specs.Calls.{placed_at, with_put}
use Rattle.vv_vols.specs.Conditions.{is_new_stamp}
use Rattle.vv_snap.proofs.PutChunks.{stamp_new, put_stamps, put_other, put_found, put_entries}

pub record Fills (from s : ShelfState) (bound : ℕ) : Type 0 where
  pub standing : IsSome (volume_in s 1)
  pub size : size_in s 1 ≡ size_in from 1
  pub others : (m : ℕ) → m ≢ 1 → volume_in s m ≡ volume_in from m
  pub entries : shelf_entries s ≡ shelf_entries from
  pub geometry : s.geometry ≡ from.geometry
  pub stamps : (a : Piece Entry) → Contains (shelf_pieces s) a → a.chunk.stamp ≤ bound

pub volume_of : (o : Option (Volume Entry)) → IsSome o → (v : Volume Entry) × (o ≡ Some v)
volume_of None h = absurd (cc)
volume_of (Some v) h = (v, refl)

-- other fresh places change nothing of it,
pub fills_fresh : (from s t : ShelfState) (bound : ℕ) → t ≡ record s { fresh = t.fresh } → Fills from s bound → Fills from t bound
fills_fresh from s t bound e fills = subst (λ (u : ShelfState). Fills from u bound) (sym e) (record {
  standing = fills.standing;
  size = fills.size;
  others = fills.others;
  entries = fills.entries;
  geometry = fills.geometry;
  stamps = fills.stamps;
})

-- the next stamp is new,
pub fills_stamp : (from s : ShelfState) (bound index : ℕ) → Fills from s bound → is_new_stamp s index (bound + 1) ≡ true
fills_stamp from s bound index fills = stamp_new s 1 index 0 (bound + 1) (λ a at. let most = fills.stamps a at in omega arith) (omega arith)

-- and the next chunk goes on
pub fills_put : (from s : ShelfState) (bound index p : ℕ) → Fills from s bound → Fills from (with_put s 1 index p (bound + 1)) (bound + 1)
fills_put from s bound index p fills =
    let some = volume_of (volume_in s 1) fills.standing in
    let now = put_found s 1 index p (bound + 1) some.0 some.1 in
    record {
      standing = ap (λ (o : Option (Volume Entry)). is_some o) now;
      size = ap (λ (o : Option (Volume Entry)). if_found o (λ (v : Volume Entry). length v.chunks) 0) now
          ∙ length-set some.0.chunks index (placed_at p (bound + 1))
          ∙ sym (ap (λ (o : Option (Volume Entry)). if_found o (λ (v : Volume Entry). length v.chunks) 0) some.1) ∙ fills.size;
      others = λ m ne. put_other s 1 index p (bound + 1) m (λ e. ne (sym e)) ∙ fills.others m ne;
      entries = put_entries s 1 index p (bound + 1) some.0 some.1 ∙ fills.entries;
      geometry = fills.geometry;
      stamps = put_stamps s 1 index p (bound + 1) (λ a at. let most = fills.stamps a at in omega arith);
    }
