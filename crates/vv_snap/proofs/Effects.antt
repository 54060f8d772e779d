-- A copy and a revert of a shelf are those of the whole array.
use Rattle.std.proofs.Common.{ℕ, ◌≡◌, ◌+◌, List, Option, Some, None, sym, ap, ◌∙◌}
use Rattle.std.specs.Prelude.{nat_lt}
use Rattle.std.specs.List.{find}
use Rattle.vv_units.specs.declared.volume.VolumeKind.{VolumeKind}
use Rattle.vv_units.specs.declared.volume.VolumeKind.TheVariants.{SnapshotOf, FastCloneOf}
use Rattle.vv_flat.specs.Lists.{if_found, put_before, first_changed}
use Rattle.vv_flat.specs.State.{Volume, Durable, volume_of}
use Rattle.vv_flat.specs.Chunks.{Entry}
use Rattle.vv_flat.specs.Changes.{Snapshot, FastClone, Revert, effect, and_volume, with_volume}
use Rattle.vv_vols.specs.Shelf.{ShelfState, is_volume, volume_in}
use Rattle.vv_vols.specs.Calls.{with_made, with_changed}
use Rattle.vv_snap.specs.Copies.{with_copy, with_reverted}
use Rattle.vv_snap.proofs.Reverted.{reverted_noted}

module _ (stamp_of : Entry → ℕ) (values : List Entry) (unmapped : Entry) (d : Durable Entry) (s : ShelfState) (same : s.volumes ≡ d.volumes) where
  copied : (n : ℕ) (kind : VolumeKind) → (if_found (volume_of d n) (λ (v : Volume Entry). and_volume d (record v { number = d.lsn + 1; kind = kind })) d).volumes ≡ (with_copy s n (d.lsn + 1) kind).volumes
  copied n kind =
      go (volume_of d n)
      ∙ ap (λ (o : Option (Volume Entry)). (if_found o (λ (v : Volume Entry). with_made s (record v { number = d.lsn + 1; kind = kind })) s).volumes) (ap (find (is_volume n)) (sym same))
    where
      go : (o : Option (Volume Entry)) → (if_found o (λ (v : Volume Entry). and_volume d (record v { number = d.lsn + 1; kind = kind })) d).volumes
          ≡ (if_found o (λ (v : Volume Entry). with_made s (record v { number = d.lsn + 1; kind = kind })) s).volumes
      go None = sym same
      go (Some v) = ap (λ (vs : List (Volume Entry)). put_before (λ (w : Volume Entry). nat_lt (d.lsn + 1) w.number) (record v { number = d.lsn + 1; kind = kind }) vs) (sym same)

  pub a_snapshot_is_the_arrays : (n : ℕ) → (effect stamp_of values unmapped d (Snapshot n)).volumes ≡ (with_copy s n (d.lsn + 1) (SnapshotOf (record { 0 = n }))).volumes
  unfolding effect
  a_snapshot_is_the_arrays n = copied n (SnapshotOf (record { 0 = n }))

  pub a_fast_clone_is_the_arrays : (n : ℕ) → (effect stamp_of values unmapped d (FastClone n)).volumes ≡ (with_copy s n (d.lsn + 1) (FastCloneOf (record { 0 = n }))).volumes
  unfolding effect
  a_fast_clone_is_the_arrays n = copied n (FastCloneOf (record { 0 = n }))

  -- a revert with its log number
  pub a_revert_is_the_arrays : (n snapshot : ℕ) (w : Volume Entry) → volume_in s snapshot ≡ Some w
      → (effect stamp_of values unmapped d (Revert n snapshot)).volumes ≡ (with_changed (with_reverted s n snapshot) n (λ (v : Volume Entry). record v { reverted = d.lsn + 1 })).volumes
  unfolding effect
  a_revert_is_the_arrays n snapshot w source =
      let found : volume_of d snapshot ≡ Some w = ap (find (is_volume snapshot)) (sym same) ∙ source in
      ap (λ (o : Option (Volume Entry)). (if_found o (λ (u : Volume Entry). with_volume d n (λ (v : Volume Entry). record v { chunks = u.chunks; reverted = d.lsn + 1 })) d).volumes) found
      ∙ ap (λ (vs : List (Volume Entry)). first_changed (is_volume n) (λ (v : Volume Entry). record v { chunks = w.chunks; reverted = d.lsn + 1 }) vs) (sym same)
      ∙ sym (ap (λ (t : ShelfState). t.volumes) (reverted_noted s n snapshot w source (d.lsn + 1)))
