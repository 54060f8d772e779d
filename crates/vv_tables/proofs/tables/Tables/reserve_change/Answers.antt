use Rattle.std.proofs.Common.{◌≡◌, ◌+◌, ◌≤◌, ap, ◌∙◌, arith}
use Rattle.vv_flat.specs.State.{Durable}
use Rattle.vv_flat.specs.Chunks.{Entry, shape_of_tables}
use Rattle.vv_flat.specs.Changes.{size_of}
use Rattle.vv_vols.specs.Shelf.{size_in}
use Rattle.vv_tables.specs.Seen.{TablesView, seen_durable}
use Rattle.vv_tables.proofs.ShapeVolumes.{size_is}
use Rattle.vv_tables.proofs.tables.Tables.reserve_change.Goals as goal

pub reserve_change-requires-clause-within : goal.reserve_change-requires-clause-within
reserve_change-requires-clause-within c =
    let i = c.self.inside in
    let n = c.args.volume.0 in
    let d : Durable Entry = seen_durable i.lsn i.shelf.shelf i.containers i.bindings i.tasks i.clones.items i.copies.items in
    let same : size_in i.shelf.shelf n ≡ size_of (shape_of_tables c.args.self.now.durable) n =
    size_is d n ∙ ap (λ (t : TablesView). size_of (shape_of_tables t.durable) n) c.self.view_is in
    let within : c.args.first + c.args.count ≤ size_of (shape_of_tables c.args.self.now.durable) n = c.requires.within in
    omega (arith, same, within)
