-- What the fields of tables are after a copy of a volume, as the calls on the shelf and the containers leave them.
use Rattle.std.proofs.Common.{ℕ, ◌≡◌, ◌+◌, true, List, [], sym, ap, subst, ◌∙◌}
use Rattle.std.specs.Prelude.{vec_capacity}
use Rattle.vv_units.specs.declared.volume.VolumeKind.{VolumeKind}
use Rattle.vv_map.specs.Pages.{pages_for}
use Rattle.vv_flat.specs.State.{Durable}
use Rattle.vv_flat.specs.Chunks.{Entry}
use Rattle.vv_flat.specs.Changes.{Change}
use Rattle.vv_flat.specs.Replay.{fits, replayed}
use Rattle.vv_container.specs.Table.{ChargedContainer, with_charge}
use Rattle.vv_vols.specs.Shelf.{ShelfState, chunks_in, size_in, allocated_of}
use Rattle.vv_vols.specs.Rows.{ShelfView}
use Rattle.vv_snap.specs.Copies.{with_copy}
use Rattle.vv_tables.specs.declared.tables.Tables.TheInside.{Inside}
use Rattle.vv_tables.specs.CopyRooms.{size_in_tables}
use Rattle.vv_tables.specs.Homes.{home_in, charge_in}
use Rattle.vv_tables.specs.Kept.{AreWell, AreHeld, IsTables}
use Rattle.vv_tables.specs.Seen.{TablesView, seen_durable}
use Rattle.vv_tables.proofs.CopiedVolumes.{IsCopy, copied_durable, copied_well, copied_held, copied_geometry}
use Rattle.vv_tables.proofs.Inner.{durable_of, KeepsAll}
use Rattle.vv_tables.proofs.ShapeVolumes.{size_is}

module _ (i : Inside) (all : KeepsAll i) (n : ℕ) (kind : VolumeKind) (change : Change) (copies : IsCopy n kind change)
    (fit : fits (durable_of i) change [] ≡ true) (view : ShelfView) (rows : List ChargedContainer)
    (shelf : view.shelf ≡ with_copy i.shelf.shelf n (i.lsn + 1) kind)
    (charged : rows ≡ with_charge i.containers (home_in i.shelf.shelf n) (charge_in i.containers (home_in i.shelf.shelf n) + allocated_of (chunks_in i.shelf.shelf n))) where
  abbrev seen : ShelfState → List ChargedContainer → Durable Entry
  seen s ks = seen_durable (i.lsn + 1) s ks i.bindings i.tasks i.clones.items i.copies.items

  pub copy_durable : seen_durable (i.lsn + 1) view.shelf rows i.bindings i.tasks i.clones.items i.copies.items ≡ replayed (durable_of i) change []
  copy_durable =
      ap (λ (s : ShelfState). seen s rows) shelf
      ∙ ap (λ (ks : List ChargedContainer). seen (with_copy i.shelf.shelf n (i.lsn + 1) kind) ks) charged
      ∙ copied_durable i all.kept all.held n kind change copies fit

  well : AreWell view.shelf rows (seen view.shelf rows)
  well =
      subst (λ (s : ShelfState). AreWell s rows (seen s rows)) (sym shelf)
      (subst (λ (ks : List ChargedContainer). AreWell (with_copy i.shelf.shelf n (i.lsn + 1) kind) ks (seen (with_copy i.shelf.shelf n (i.lsn + 1) kind) ks)) (sym charged)
      (copied_well i all.kept all.held n kind change copies fit))

  pub copy_keeps : IsTables i.geometry (i.lsn + 1) view rows i.bindings i.tasks i.clones.items i.copies.items (vec_capacity i.clones) (vec_capacity i.copies)
  copy_keeps =
      record {
        geometry_is = all.geometry_is ∙ sym (ap (λ (s : ShelfState). s.geometry) shelf ∙ copied_geometry i all.kept all.held n kind change copies fit);
        kept = well;
        held = subst (λ (s : ShelfState). AreHeld s i.clones.items i.copies.items) (sym shelf) (copied_held i all.kept all.held n kind change copies fit);
        clone_rows = all.clone_rows;
        copy_rows = all.copy_rows;
      }

-- steps by the size of a volume of tables
pub copy_steps : (i : Inside) (t : TablesView) (n before after : ℕ) → durable_of i ≡ t.durable → after ≡ before + pages_for (size_in i.shelf.shelf n)
    → after ≡ before + pages_for (size_in_tables t.durable n)
copy_steps i t n before after same steps =
    steps ∙ ap (λ k. before + pages_for k) (size_is (durable_of i) n ∙ ap (λ (d : Durable Entry). size_in_tables d n) same)
