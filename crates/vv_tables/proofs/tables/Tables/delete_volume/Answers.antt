use Rattle.std.proofs.Common.{◌≡◌, ◌+◌, ◌-◌, ◌≤◌, [], List, true, refl, sym, ap, subst, ◌∙◌, arith}
use Rattle.std.specs.Prelude.{IsSome}
use Rattle.vv_flat.specs.Lists.{first_removed}
use Rattle.vv_flat.specs.State.{Durable, container_of}
use Rattle.vv_flat.specs.Chunks.{Entry, shape_of_tables}
use Rattle.vv_flat.specs.Space.{charge}
use Rattle.vv_flat.specs.Changes.{DeleteVolume, home_of, allocated_of}
use Rattle.vv_flat.specs.Replay.{fits, replayed}
use Rattle.vv_container.specs.Table.{ChargedContainer}
use Rattle.vv_vols.specs.Shelf.{ShelfState, is_volume}
use Rattle.vv_tables.specs.Seen.{TablesView, seen_durable}
use Rattle.vv_tables.specs.Kept.{AreCharged}
use Rattle.vv_tables.proofs.NextNumber.{more_to_come}
use Rattle.vv_tables.proofs.Containers.{row_stands}
use Rattle.vv_tables.proofs.StandingVolumes.{home_stands}
use Rattle.vv_tables.proofs.VolumesStepped.{volumes_stepped}
use Rattle.vv_tables.proofs.DeletedVolumes.{deleted_stands, deleted_within, deleted_charged, deleted_seen, forms}
use Rattle.vv_tables.proofs.tables.Tables.delete_volume.Goals as goal

pub charge-requires : goal.charge-requires
charge-requires c =
    let i = c.self.inside in
    let n = c.args.volume.0 in
    let d : Durable Entry = seen_durable i.lsn i.shelf.shelf i.containers i.bindings i.tasks i.clones.items i.copies.items in
    let fit : fits d (DeleteVolume n) [] ≡ true = ap (λ (t : TablesView). fits t.durable (DeleteVolume n) []) c.self.view_is ∙ c.requires.fits in
    let stands : IsSome (container_of d (home_of (shape_of_tables d) n)) = home_stands d n c.self.invariant.kept.well (deleted_stands d n fit) in
    rw c.home_of-home.ensures (subst (λ (t : TablesView). IsSome (container_of t.durable (home_of (shape_of_tables t.durable) n))) c.self.view_is stands)

pub overflow_sub-charged : goal.overflow_sub-charged
overflow_sub-charged c =
    let i = c.self.inside in
    let n = c.args.volume.0 in
    let d : Durable Entry = seen_durable i.lsn i.shelf.shelf i.containers i.bindings i.tasks i.clones.items i.copies.items in
    let fit : fits d (DeleteVolume n) [] ≡ true = ap (λ (t : TablesView). fits t.durable (DeleteVolume n) []) c.self.view_is ∙ c.requires.fits in
    let within : allocated_of (shape_of_tables c.args.self.now.durable) n ≤ charge (shape_of_tables c.args.self.now.durable) (home_of (shape_of_tables c.args.self.now.durable) n) =
    subst (λ (t : TablesView). allocated_of (shape_of_tables t.durable) n ≤ charge (shape_of_tables t.durable) (home_of (shape_of_tables t.durable) n)) c.self.view_is
    (deleted_within d n fit c.self.invariant.kept.well) in
    let charged : c.charge.result ≡ charge (shape_of_tables c.args.self.now.durable) (home_of (shape_of_tables c.args.self.now.durable) n) =
    c.charge.ensures ∙ ap (charge (shape_of_tables c.args.self.now.durable)) c.home_of-home.ensures in
    omega (arith, within, charged, c.allocated.ensures, c.from.ensures)

pub overflow_add-self : goal.overflow_add-self
overflow_add-self c =
    let i = c.self.inside in
    let n = c.args.volume.0 in
    let d : Durable Entry = seen_durable i.lsn i.shelf.shelf i.containers i.bindings i.tasks i.clones.items i.copies.items in
    let fit : fits d (DeleteVolume n) [] ≡ true = ap (λ (t : TablesView). fits t.durable (DeleteVolume n) []) c.self.view_is ∙ c.requires.fits in
    omega (arith, more_to_come d (DeleteVolume n) [] fit)

pub delete-requires : goal.delete-requires
delete-requires c =
    let i = c.self.inside in
    let n = c.args.volume.0 in
    let d : Durable Entry = seen_durable i.lsn i.shelf.shelf i.containers i.bindings i.tasks i.clones.items i.copies.items in
    let fit : fits d (DeleteVolume n) [] ≡ true = ap (λ (t : TablesView). fits t.durable (DeleteVolume n) []) c.self.view_is ∙ c.requires.fits in
    deleted_stands d n fit

pub set_charge-requires : goal.set_charge-requires
set_charge-requires c =
    let i = c.self.inside in
    let n = c.args.volume.0 in
    let d : Durable Entry = seen_durable i.lsn i.shelf.shelf i.containers i.bindings i.tasks i.clones.items i.copies.items in
    let fit : fits d (DeleteVolume n) [] ≡ true = ap (λ (t : TablesView). fits t.durable (DeleteVolume n) []) c.self.view_is ∙ c.requires.fits in
    let home : c.home_of-home.result.0 ≡ home_of (shape_of_tables d) n = c.home_of-home.ensures ∙ sym (ap (λ (t : TablesView). home_of (shape_of_tables t.durable) n) c.self.view_is) in
    row_stands i.containers c.home_of-home.result.0
    (rw home (home_stands d n c.self.invariant.kept.well (deleted_stands d n fit)))

pub invariant_of-self : goal.invariant_of-self
invariant_of-self c =
    let i = c.self.inside in
    let n = c.args.volume.0 in
    let d : Durable Entry = seen_durable i.lsn i.shelf.shelf i.containers i.bindings i.tasks i.clones.items i.copies.items in
    let fit : fits d (DeleteVolume n) [] ≡ true = ap (λ (t : TablesView). fits t.durable (DeleteVolume n) []) c.self.view_is ∙ c.requires.fits in
    let home : c.home_of-home.result.0 ≡ home_of (shape_of_tables d) n = c.home_of-home.ensures ∙ sym (ap (λ (t : TablesView). home_of (shape_of_tables t.durable) n) c.self.view_is) in
    let charge_is : c.charge.result ≡ charge (shape_of_tables d) c.home_of-home.result.0 = c.charge.ensures ∙ sym (ap (λ (t : TablesView). charge (shape_of_tables t.durable) c.home_of-home.result.0) c.self.view_is) in
    let allocated_is : c.from.result ≡ allocated_of (shape_of_tables d) n = c.from.ensures ∙ c.allocated.ensures ∙ sym (ap (λ (t : TablesView). allocated_of (shape_of_tables t.durable) n) c.self.view_is) in
    let falls : c.charge.result - c.from.result ≡ charge (shape_of_tables d) c.home_of-home.result.0 - allocated_of (shape_of_tables d) n =
    ap (λ m. m - c.from.result) charge_is ∙ ap (λ m. charge (shape_of_tables d) c.home_of-home.result.0 - m) allocated_is in
    let d' : Durable Entry = seen_durable (i.lsn + 1) c.delete.new.self.shelf c.set_charge.new.self i.bindings i.tasks i.clones.items i.copies.items in
    let is : d' ≡ replayed d (DeleteVolume n) [] =
    ap (λ (s : ShelfState). seen_durable (i.lsn + 1) s c.set_charge.new.self i.bindings i.tasks i.clones.items i.copies.items) c.delete.ensures.shelf
    ∙ ap (λ (rows : List ChargedContainer). seen_durable (i.lsn + 1) (record i.shelf.shelf { volumes = first_removed (is_volume n) i.shelf.shelf.volumes }) rows i.bindings i.tasks i.clones.items i.copies.items) c.set_charge.ensures
    ∙ deleted_seen i.lsn i.shelf.shelf i.containers i.bindings i.tasks i.clones.items i.copies.items n c.home_of-home.result.0 (c.charge.result - c.from.result) in
    volumes_stepped i.geometry i.lsn i.shelf i.containers i.bindings i.tasks i.clones.items i.copies.items _ _ c.self.invariant (DeleteVolume n) [] c.delete.new.self c.set_charge.new.self
    (first_removed (is_volume n) i.shelf.shelf.volumes) fit (forms n) refl c.delete.ensures.shelf is
    (subst (λ (rows : List ChargedContainer). AreCharged d' rows) (sym c.set_charge.ensures)
    (deleted_charged d n fit c.self.invariant.kept.well d' i.containers c.home_of-home.result.0 (c.charge.result - c.from.result) refl is home falls c.self.invariant.kept.charges))

pub returns-clause-durable : goal.returns-clause-durable
returns-clause-durable c =
    let i = c.self.inside in
    let n = c.args.volume.0 in
    ap (λ (s : ShelfState). seen_durable (i.lsn + 1) s c.set_charge.new.self i.bindings i.tasks i.clones.items i.copies.items) c.delete.ensures.shelf
    ∙ ap (λ (rows : List ChargedContainer). seen_durable (i.lsn + 1) (record i.shelf.shelf { volumes = first_removed (is_volume n) i.shelf.shelf.volumes }) rows i.bindings i.tasks i.clones.items i.copies.items) c.set_charge.ensures
    ∙ deleted_seen i.lsn i.shelf.shelf i.containers i.bindings i.tasks i.clones.items i.copies.items n c.home_of-home.result.0 (c.charge.result - c.from.result)
    ∙ ap (λ (t : TablesView). replayed t.durable (DeleteVolume n) []) c.self.view_is
