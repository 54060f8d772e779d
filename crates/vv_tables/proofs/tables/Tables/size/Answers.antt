use Rattle.std.proofs.Common.{ap, ◌∙◌}
use Rattle.vv_flat.specs.State.{Durable}
use Rattle.vv_flat.specs.Chunks.{Entry, shape_of_tables}
use Rattle.vv_tables.specs.Seen.{TablesView, seen_durable}
use Rattle.vv_flat.specs.Changes.{size_of}
use Rattle.vv_tables.proofs.ShapeVolumes.{size_is, no_size}
use Rattle.vv_tables.proofs.tables.Tables.size.Goals as goal

pub returns-in-Some : goal.returns-in-Some
returns-in-Some c =
    let i = c.self.inside in
    let d : Durable Entry = seen_durable i.lsn i.shelf.shelf i.containers i.bindings i.tasks i.clones.items i.copies.items in
    c.entries.ensures ∙ size_is d c.args.id.0 ∙ ap (λ (t : TablesView). size_of (shape_of_tables t.durable) c.args.id.0) c.self.view_is

pub returns-in-None : goal.returns-in-None
returns-in-None c =
    let i = c.self.inside in
    let d : Durable Entry = seen_durable i.lsn i.shelf.shelf i.containers i.bindings i.tasks i.clones.items i.copies.items in
    no_size d c.args.id.0 c.in-None.ensures ∙ ap (λ (t : TablesView). size_of (shape_of_tables t.durable) c.args.id.0) c.self.view_is
