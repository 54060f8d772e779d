-- A change of the volumes of a shelf alone keeps all that tables keep: the held lists, the fresh and the reserved places
-- stay. For the changes that make, delete and change volumes.
use Rattle.std.proofs.Common.{ℕ, ◌≡◌, ◌+◌, true, List, ap, sym, ◌∙◌}
use Rattle.vv_units.specs.declared.geometry.Geometry.{Geometry}
use Rattle.vv_flat.specs.State.{Volume, Task, Durable}
use Rattle.vv_flat.specs.Chunks.{Entry, shape_of_tables}
use Rattle.vv_flat.specs.Changes.{Change}
use Rattle.vv_flat.specs.Replay.{fits, replayed}
use Rattle.vv_flat.specs.Fields.{change_has_forms}
use Rattle.vv_laws.specs.Counts.{reserved_added, reserved_taken}
use Rattle.vv_container.specs.Table.{ChargedContainer}
use Rattle.vv_bind.specs.Table.{BindState}
use Rattle.vv_vols.specs.Shelf.{ShelfState}
use Rattle.vv_vols.specs.Rows.{ShelfView}
use Rattle.vv_tables.specs.declared.rows.CloneRow.{CloneRow}
use Rattle.vv_tables.specs.declared.rows.CopyRow.{CopyRow}
use Rattle.vv_tables.specs.Seen.{seen_durable}
use Rattle.vv_tables.specs.Kept.{AreCharged, IsTables}
use Rattle.vv_tables.proofs.HeldKept.{same_held}
use Rattle.vv_tables.proofs.Stepped.{stepped_well, same_reserved}

module _ (geometry : Geometry) (lsn : ℕ) (view : ShelfView) (containers : List ChargedContainer) (bindings : BindState) (tasks : List Task)
    (clones : List CloneRow) (copies : List CopyRow) (clone_memory copy_memory : ℕ)
    (kept : IsTables geometry lsn view containers bindings tasks clones copies clone_memory copy_memory) where
  pub volumes_stepped : (change : Change) (places : List ℕ) (view' : ShelfView) (rows : List ChargedContainer) (volumes : List (Volume Entry))
      → fits (seen_durable lsn view.shelf containers bindings tasks clones copies) change places ≡ true
      → change_has_forms change ≡ true
      → reserved_added (shape_of_tables (seen_durable lsn view.shelf containers bindings tasks clones copies)) change
      ≡ reserved_taken (shape_of_tables (seen_durable lsn view.shelf containers bindings tasks clones copies)) change
      → view'.shelf ≡ record view.shelf { volumes = volumes }
      → seen_durable (lsn + 1) view'.shelf rows bindings tasks clones copies ≡ replayed (seen_durable lsn view.shelf containers bindings tasks clones copies) change places
      → AreCharged (seen_durable (lsn + 1) view'.shelf rows bindings tasks clones copies) rows
      → IsTables geometry (lsn + 1) view' rows bindings tasks clones copies clone_memory copy_memory
  volumes_stepped change places view' rows volumes fit forms none shelf is charges =
      let d : Durable Entry = seen_durable lsn view.shelf containers bindings tasks clones copies in
      let d' : Durable Entry = seen_durable (lsn + 1) view'.shelf rows bindings tasks clones copies in
      record {
        geometry_is = kept.geometry_is ∙ sym (ap (λ (s : ShelfState). s.geometry) shelf);
        kept = stepped_well d d' change places kept.kept.well fit is view'.shelf rows forms charges
            (same_reserved d d' change places kept.kept.well fit is view'.shelf none (ap (λ (s : ShelfState). s.reserved) shelf ∙ kept.kept.reserved))
            (ap (λ (s : ShelfState). s.fresh) shelf ∙ kept.kept.fresh);
        held = same_held view.shelf view'.shelf clones copies (ap (λ (s : ShelfState). s.held) shelf) kept.held;
        clone_rows = kept.clone_rows;
        copy_rows = kept.copy_rows;
      }
