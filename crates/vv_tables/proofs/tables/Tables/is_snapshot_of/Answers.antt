use Rattle.std.proofs.Common.{ℕ, [], refl, ap, ◌∙◌, false}
use Rattle.vv_flat.specs.State.{Volume, Durable}
use Rattle.vv_flat.specs.Chunks.{Entry, shape_of_tables}
use Rattle.vv_vols.specs.Rows.{volume_with}
use Rattle.vv_tables.specs.Seen.{TablesView, seen_durable}
use Rattle.vv_tables.proofs.ShapeVolumes.{of_some, of_none}
use Rattle.vv_flat.specs.Changes.{is_snapshot_of, is_snapshot_of_kind}
use Rattle.vv_tables.proofs.tables.Tables.is_snapshot_of.Goals as goal

pub returns-in-Some : goal.returns-in-Some
returns-in-Some c =
    let i = c.self.inside in
    let d : Durable Entry = seen_durable i.lsn i.shelf.shelf i.containers i.bindings i.tasks i.clones.items i.copies.items in
    c.is_kind_of.ensures ∙ of_some d c.args.snapshot.0 (volume_with c.args.snapshot.0 c.in-Some.head.now []) (λ (v : Volume ℕ). is_snapshot_of_kind c.args.id.0 v.kind) false c.in-Some.ensures (λ v. refl)
    ∙ ap (λ (t : TablesView). is_snapshot_of (shape_of_tables t.durable) c.args.snapshot.0 c.args.id.0) c.self.view_is

pub returns-in-None : goal.returns-in-None
returns-in-None c =
    let i = c.self.inside in
    let d : Durable Entry = seen_durable i.lsn i.shelf.shelf i.containers i.bindings i.tasks i.clones.items i.copies.items in
    of_none d c.args.snapshot.0 (λ (v : Volume ℕ). is_snapshot_of_kind c.args.id.0 v.kind) false c.in-None.ensures
    ∙ ap (λ (t : TablesView). is_snapshot_of (shape_of_tables t.durable) c.args.snapshot.0 c.args.id.0) c.self.view_is
