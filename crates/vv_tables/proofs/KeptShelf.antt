-- Changes that leave the shelf, the charges and the running tasks as they are: what callers know of the tables is known of
-- their fields, and the tables keep all that tables keep.
use Rattle.std.proofs.Common.{ℕ, ◌≡◌, ◌+◌, ◌<◌, ◌≤◌, true, List, sym, ap, subst, ◌∙◌, arith}
use Rattle.vv_units.specs.declared.geometry.Geometry.{Geometry}
use Rattle.vv_flat.specs.State.{Task, Durable}
use Rattle.vv_flat.specs.Chunks.{Entry, shape_of_tables}
use Rattle.vv_flat.specs.Refusals.{last_lsn}
use Rattle.vv_flat.specs.Changes.{Change}
use Rattle.vv_flat.specs.Replay.{fits, replayed}
use Rattle.vv_flat.specs.Fields.{change_has_forms}
use Rattle.vv_laws.specs.Counts.{charge_added, charge_taken, reserved_added, reserved_taken}
use Rattle.vv_container.specs.Table.{ChargedContainer}
use Rattle.vv_bind.specs.Table.{BindState}
use Rattle.vv_vols.specs.Rows.{ShelfView}
use Rattle.vv_tables.specs.declared.rows.CloneRow.{CloneRow}
use Rattle.vv_tables.specs.declared.rows.CopyRow.{CopyRow}
use Rattle.vv_tables.specs.Seen.{TablesView, seen_durable, seen_tables}
use Rattle.vv_tables.specs.Kept.{IsTables}
use Rattle.vv_tables.proofs.NextNumber.{more_to_come}
use Rattle.vv_tables.proofs.Stepped.{uncharged, same_reserved, stepped_well}

module _ (geometry : Geometry) (lsn : ℕ) (view : ShelfView) (containers : List ChargedContainer) (bindings : BindState) (tasks : List Task)
    (clones : List CloneRow) (copies : List CopyRow) (clone_memory copy_memory : ℕ)
    (before : IsTables geometry lsn view containers bindings tasks clones copies clone_memory copy_memory)
    (t : TablesView) (is : seen_tables lsn view containers bindings tasks clones copies ≡ t)
    (change : Change) (places : List ℕ) (forms : change_has_forms change ≡ true) (fit : fits t.durable change places ≡ true) where
  abbrev seen : Durable Entry
  seen = seen_durable lsn view.shelf containers bindings tasks clones copies

  -- the record fits the fields
  pub fits_seen : fits seen change places ≡ true
  fits_seen = subst (λ (u : TablesView). fits u.durable change places ≡ true) (sym is) fit

  pub log_goes_on : lsn + 1 ≤ last_lsn
  log_goes_on = let next : lsn < last_lsn = more_to_come seen change places fits_seen in omega (arith, next)

  -- other bindings
  module _ (next : BindState) (equal : seen_durable (lsn + 1) view.shelf containers next tasks clones copies ≡ replayed seen change places) where
    pub replayed_tables : seen_durable (lsn + 1) view.shelf containers next tasks clones copies ≡ replayed t.durable change places
    replayed_tables = equal ∙ ap (λ (u : TablesView). replayed u.durable change places) is

    pub shelf_stays : ((k : ℕ) → charge_added (shape_of_tables seen) change k ≡ charge_taken (shape_of_tables seen) change k)
        → reserved_added (shape_of_tables seen) change ≡ reserved_taken (shape_of_tables seen) change
        → IsTables geometry (lsn + 1) view containers next tasks clones copies clone_memory copy_memory
    shelf_stays charges reserve =
        let after : Durable Entry = seen_durable (lsn + 1) view.shelf containers next tasks clones copies in
        record {
          geometry_is = before.geometry_is;
          kept = stepped_well seen after change places before.kept.well fits_seen equal view.shelf containers forms
              (uncharged seen after change places before.kept.well fits_seen equal containers charges before.kept.charges)
              (same_reserved seen after change places before.kept.well fits_seen equal view.shelf reserve before.kept.reserved)
              before.kept.fresh;
          held = before.held;
          clone_rows = before.clone_rows;
          copy_rows = before.copy_rows;
        }
