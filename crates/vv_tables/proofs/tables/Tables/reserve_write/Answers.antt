use Rattle.std.proofs.Common.{◌≡◌, ◌+◌, ◌*◌, ◌≤◌, sym, ap, ◌∙◌, subst, arith}
use Rattle.vv_units.specs.declared.geometry.Geometry.{Geometry}
use Rattle.vv_flat.specs.State.{Durable}
use Rattle.vv_flat.specs.Chunks.{Entry, shape_of_tables, touched_first, touched_count}
use Rattle.vv_flat.specs.Changes.{size_of}
use Rattle.vv_flat.proofs.Kept.{kept}
use Rattle.vv_laws.proofs.ChunkBytes.{some_blocks}
use Rattle.vv_laws.proofs.WellFormed.{shape_rules}
use Rattle.vv_vols.specs.Shelf.{size_in}
use Rattle.vv_tables.specs.Seen.{TablesView, seen_durable}
use Rattle.vv_tables.proofs.ShapeVolumes.{size_is}
use Rattle.vv_tables.proofs.AcceptedWrites.{blocks_few, size_few, touched_end}
use Rattle.vv_tables.proofs.tables.Tables.reserve_write.Goals as goal

pub touched-first-requires-clause-within : goal.touched-first-requires-clause-within
touched-first-requires-clause-within c =
    let i = c.self.inside in
    let n = c.args.volume.0 in
    let d : Durable Entry = seen_durable i.lsn i.shelf.shelf i.containers i.bindings i.tasks i.clones.items i.copies.items in
    let inside : c.args.first_block + c.args.blocks ≤ size_of (shape_of_tables d) n * d.geometry.chunk_blocks =
    subst (λ (t : TablesView). c.args.first_block + c.args.blocks ≤ size_of (shape_of_tables t.durable) n * t.durable.geometry.chunk_blocks) (sym c.self.view_is) c.requires.within in
    let few : size_of (shape_of_tables d) n ≤ 1048576 = size_few (shape_of_tables d) (kept (shape_of_tables d) (shape_rules d c.self.invariant.kept.well)) n in
    let all : size_of (shape_of_tables d) n * d.geometry.chunk_blocks ≤ 2147483648 = blocks_few d.geometry.chunk_blocks (size_of (shape_of_tables d) n) d.geometry.chunk_size few in
    omega (arith, inside, all)

pub reserve_change-requires-clause-within : goal.reserve_change-requires-clause-within
reserve_change-requires-clause-within c =
    let i = c.self.inside in
    let n = c.args.volume.0 in
    let d : Durable Entry = seen_durable i.lsn i.shelf.shelf i.containers i.bindings i.tasks i.clones.items i.copies.items in
    let inside : c.args.first_block + c.args.blocks ≤ size_of (shape_of_tables d) n * d.geometry.chunk_blocks =
    subst (λ (t : TablesView). c.args.first_block + c.args.blocks ≤ size_of (shape_of_tables t.durable) n * t.durable.geometry.chunk_blocks) (sym c.self.view_is) c.requires.within in
    let ends : touched_first d.geometry.chunk_blocks c.args.first_block + touched_count d.geometry.chunk_blocks c.args.first_block c.args.blocks ≤ size_of (shape_of_tables d) n =
    touched_end d.geometry.chunk_blocks (size_of (shape_of_tables d) n) c.args.first_block c.args.blocks (some_blocks d.geometry.chunk_blocks d.geometry.chunk_size) c.requires.some inside in
    let size : size_in i.shelf.shelf n ≡ size_of (shape_of_tables d) n = size_is d n in
    let sized : i.geometry.chunk_blocks ≡ d.geometry.chunk_blocks = ap (λ (g : Geometry). g.chunk_blocks) c.self.invariant.geometry_is in
    let first : c.touched-first.result.0 ≡ touched_first d.geometry.chunk_blocks c.args.first_block =
    c.touched-first.ensures.first ∙ ap (λ b. touched_first b c.args.first_block) sized in
    let count : c.touched-first.result.1 ≡ touched_count d.geometry.chunk_blocks c.args.first_block c.args.blocks =
    c.touched-first.ensures.count ∙ ap (λ b. touched_count b c.args.first_block c.args.blocks) sized in
    omega (arith, ends, size, first, count)
