use Rattle.std.proofs.Common.{◌≡◌, ◌-◌, refl, ap, ◌∙◌}
use Rattle.vv_flat.specs.State.{Durable}
use Rattle.vv_flat.specs.Chunks.{Entry, shape_of_tables}
use Rattle.vv_flat.specs.Space.{used, reserved, free}
use Rattle.vv_tables.specs.Seen.{TablesView, seen_tables}
use Rattle.vv_tables.proofs.ShelfCounts.{shelf_used_all}
use Rattle.vv_tables.proofs.tables.Tables.free.Goals as goal

free_is : (d : Durable Entry) → d.geometry.pool_chunks - used (shape_of_tables d) - reserved (shape_of_tables d) ≡ free (shape_of_tables d)
unfolding used reserved free
free_is d = refl

pub returns : goal.returns
returns c =
    let i = c.self.inside in
    let t : TablesView = seen_tables i.lsn i.shelf i.containers i.bindings i.tasks i.clones.items i.copies.items in
    c.free.ensures
    ∙ ap (λ n. i.shelf.shelf.geometry.pool_chunks - n - i.shelf.shelf.reserved)
    (shelf_used_all i.lsn i.shelf.shelf i.containers i.bindings i.tasks i.clones.items i.copies.items c.self.invariant.held c.self.invariant.kept.well c.self.invariant.kept.fresh)
    ∙ ap (λ n. i.shelf.shelf.geometry.pool_chunks - used (shape_of_tables t.durable) - n) c.self.invariant.kept.reserved
    ∙ free_is t.durable
    ∙ ap (λ (u : TablesView). free (shape_of_tables u.durable)) c.self.view_is
