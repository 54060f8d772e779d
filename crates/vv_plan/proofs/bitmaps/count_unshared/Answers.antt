use Rattle.std.proofs.Common.{ap, ◌∙◌}
use Rattle.vv_flat.specs.Chunks.{shape_of_tables}
use Rattle.vv_flat.specs.Bits.{unshared_count}
use Rattle.vv_flat.specs.Changes.{stamps_of}
use Rattle.vv_bitmap.specs.Stamps.{stamps_in}
use Rattle.vv_plan.proofs.AskedBits.{stands_in, stamps_seen}
use Rattle.vv_plan.proofs.bitmaps.count_unshared.Goals as goal

pub unshared_count-requires-clause-standing : goal.unshared_count-requires-clause-standing
unshared_count-requires-clause-standing c = stands_in c.args.tables.now c.shelf.result.now c.args.id.0 c.shelf.ensures c.requires.standing

pub unshared_count-requires-clause-base_standing : goal.unshared_count-requires-clause-base_standing
unshared_count-requires-clause-base_standing c = stands_in c.args.tables.now c.shelf.result.now c.args.base.0 c.shelf.ensures c.requires.base_standing

pub returns : goal.returns
returns c =
    c.unshared_count.ensures
    ∙ ap (λ stamps. unshared_count stamps (stamps_in c.shelf.result.now.shelf c.args.base.0)) (stamps_seen c.args.tables.now c.shelf.result.now c.args.id.0 c.shelf.ensures)
    ∙ ap (λ stamps. unshared_count (stamps_of (shape_of_tables c.args.tables.now.durable) c.args.id.0) stamps) (stamps_seen c.args.tables.now c.shelf.result.now c.args.base.0 c.shelf.ensures)
