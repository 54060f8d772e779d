use Rattle.std.proofs.Common.{ap, ◌∙◌}
use Rattle.vv_flat.specs.Chunks.{shape_of_tables}
use Rattle.vv_flat.specs.Space.{used}
use Rattle.vv_tables.specs.Seen.{TablesView}
use Rattle.vv_tables.proofs.ShelfCounts.{shelf_used_all}
use Rattle.vv_tables.proofs.tables.Tables.used.Goals as goal

pub returns : goal.returns
returns c =
    let i = c.self.inside in
    c.used.ensures
    ∙ shelf_used_all i.lsn i.shelf.shelf i.containers i.bindings i.tasks i.clones.items i.copies.items c.self.invariant.held c.self.invariant.kept.well c.self.invariant.kept.fresh
    ∙ ap (λ (t : TablesView). used (shape_of_tables t.durable)) c.self.view_is
