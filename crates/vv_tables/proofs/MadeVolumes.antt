-- A volume of unmapped chunks is made: the tables afterwards.
use Rattle.std.proofs.Common.{ℕ, ◌≡◌, ◌+◌, ◌≤◌, true, List, [], replicate, None, refl}
use Rattle.vv_units.specs.declared.volume.VvolType.{VvolType}
use Rattle.vv_units.specs.declared.volume.VolumeKind.TheVariants.{Plain}
use Rattle.vv_units.specs.declared.volume.Need.{Need}
use Rattle.vv_flat.specs.State.{Task}
use Rattle.vv_flat.specs.Chunks.{shape_of_tables, unmapped_entry}
use Rattle.vv_flat.specs.Changes.{MakeVolume, effect, apply, room_checks}
use Rattle.vv_flat.specs.Replay.{fits, replayed}
use Rattle.vv_flat.proofs.KeepRules.{fits_accepted}
use Rattle.vv_flat.proofs.Verdicts.{passed_room}
use Rattle.vv_container.specs.Table.{ChargedContainer}
use Rattle.vv_bind.specs.Table.{BindState}
use Rattle.vv_vols.specs.declared.head.Head.{Head}
use Rattle.vv_vols.specs.Shelf.{ShelfState, shelf_entries}
use Rattle.vv_vols.specs.Calls.{with_made}
use Rattle.vv_vols.specs.Rows.{volume_with}
use Rattle.vv_tables.specs.declared.rows.CloneRow.{CloneRow}
use Rattle.vv_tables.specs.declared.rows.CopyRow.{CopyRow}
use Rattle.vv_tables.specs.Seen.{seen_durable}
use Rattle.vv_tables.specs.Kept.{AreHeld}
use Rattle.vv_tables.proofs.ShapeEntries.{shelf_has_room}

module _ (lsn : ℕ) (s : ShelfState) (rows : List ChargedContainer) (bindings : BindState) (tasks : List Task) (clones : List CloneRow) (copies : List CopyRow) (chunks : ℕ) where
  pub made_has_room : (home : ℕ) (vtype : VvolType) (needs : List Need) → fits (seen_durable lsn s rows bindings tasks clones copies) (MakeVolume home vtype chunks needs) [] ≡ true
      → AreHeld s clones copies → shelf_entries s + chunks ≤ s.geometry.map_chunks
  unfolding room_checks
  made_has_room home vtype needs fit held =
      shelf_has_room lsn s rows bindings tasks clones copies held chunks
      (passed_room None (shape_of_tables (seen_durable lsn s rows bindings tasks clones copies)) (MakeVolume home vtype chunks needs)
      (fits_accepted (seen_durable lsn s rows bindings tasks clones copies) (MakeVolume home vtype chunks needs) [] fit) 3)

  pub made_seen : (head : Head) → head.kind ≡ Plain → head.reverted ≡ 0 → head.metadata ≡ []
      → seen_durable (lsn + 1) (with_made s (volume_with (lsn + 1) head (replicate chunks unmapped_entry))) rows bindings tasks clones copies
      ≡ replayed (seen_durable lsn s rows bindings tasks clones copies) (MakeVolume head.container.0 head.vtype chunks head.needs) []
  unfolding replayed apply effect
  made_seen head plain never bare = rw (plain, never, bare) refl
