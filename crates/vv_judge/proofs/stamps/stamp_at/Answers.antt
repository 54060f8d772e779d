use Rattle.std.proofs.Common.{◌≡◌, arith}
use Rattle.vv_vols.specs.Shelf.{size_in}
use Rattle.vv_flat.specs.Chunks.{shape_of_tables}
use Rattle.vv_flat.specs.Changes.{size_of}
use Rattle.vv_judge.proofs.Shapes.{shelf_size, stands_with_chunks, shelf_stamp}
use Rattle.vv_judge.proofs.stamps.stamp_at.Goals as goal

pub entry-requires-clause-standing : goal.entry-requires-clause-standing
entry-requires-clause-standing c =
    let same : size_in c.shelf.result.now.shelf c.args.id.0 ≡ size_of (shape_of_tables c.args.tables.now.durable) c.args.id.0 =
    shelf_size c.shelf.result.now.shelf c.args.tables.now.durable c.args.id.0 c.shelf.ensures.volumes in
    stands_with_chunks c.shelf.result.now.shelf c.args.id.0 c.args.index (omega (arith, same, c.size.ensures, c.if-index-size.true))

pub entry-requires-clause-within : goal.entry-requires-clause-within
entry-requires-clause-within c =
    let same : size_in c.shelf.result.now.shelf c.args.id.0 ≡ size_of (shape_of_tables c.args.tables.now.durable) c.args.id.0 =
    shelf_size c.shelf.result.now.shelf c.args.tables.now.durable c.args.id.0 c.shelf.ensures.volumes in
    omega (arith, same, c.size.ensures, c.if-index-size.true)

pub returns-then-index-size : goal.returns-then-index-size
returns-then-index-size c =
    shelf_stamp c.shelf.result.now.shelf c.args.tables.now.durable c.args.id.0 c.args.index c.entry.result c.shelf.ensures.volumes c.entry.ensures
