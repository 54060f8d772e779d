use Rattle.std.proofs.Common.{ap, ◌∙◌}
use Rattle.vv_flat.specs.Space.{entries}
use Rattle.vv_tables.specs.Seen.{TablesView}
use Rattle.vv_tables.proofs.ShelfCounts.{shelf_entries_are}
use Rattle.vv_tables.proofs.tables.Tables.entries.Goals as goal

pub returns : goal.returns
returns c =
    let i = c.self.inside in
    c.total_entries.ensures
    ∙ shelf_entries_are i.lsn i.shelf.shelf i.containers i.bindings i.tasks i.clones.items i.copies.items c.self.invariant.held
    ∙ ap (λ (t : TablesView). entries t.durable) c.self.view_is
