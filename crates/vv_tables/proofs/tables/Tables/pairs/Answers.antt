use Rattle.std.proofs.Common.{ap, ◌∙◌}
use Rattle.vv_flat.specs.State.{Durable}
use Rattle.vv_flat.specs.Chunks.{Entry, shape_of_tables}
use Rattle.vv_tables.specs.Seen.{TablesView, seen_durable}
use Rattle.std.proofs.Common.{length}
use Rattle.vv_flat.specs.Changes.{metadata_of}
use Rattle.vv_tables.proofs.ShapeVolumes.{pairs_is}
use Rattle.vv_tables.proofs.tables.Tables.pairs.Goals as goal

pub returns : goal.returns
returns c =
    let i = c.self.inside in
    let d : Durable Entry = seen_durable i.lsn i.shelf.shelf i.containers i.bindings i.tasks i.clones.items i.copies.items in
    c.pairs_in.ensures ∙ pairs_is d c.args.id.0 ∙ ap (λ (t : TablesView). length (metadata_of (shape_of_tables t.durable) c.args.id.0)) c.self.view_is
