use Rattle.std.proofs.Common.{ap, ◌∙◌}
use Rattle.vv_units.specs.declared.geometry.Geometry.{Geometry}
use Rattle.vv_flat.specs.Chunks.{touched_count}
use Rattle.vv_core.proofs.FittingEvents.{some_written, blocks_below, touched_long}
use Rattle.vv_core.proofs.fitting.touched_chunks.Goals as goal

pub touched-count-requires-clause-some : goal.touched-count-requires-clause-some
touched-count-requires-clause-some c = some_written c.args.tables.now.durable c.args.volume.0 c.args.first_block c.args.blocks c.requires

pub touched-count-requires-clause-within : goal.touched-count-requires-clause-within
touched-count-requires-clause-within c =
    blocks_below c.args.tables.now.durable c.args.volume.0 c.args.first_block c.args.blocks c.requires c.lsn-well_formed.ensures.well

pub returns : goal.returns
returns c =
    c.touched-count.ensures.count ∙ ap (λ (g : Geometry). touched_count g.chunk_blocks c.args.first_block c.args.blocks) c.geometry.ensures
    ∙ touched_long c.args.tables.now.durable c.args.volume.0 c.args.first_block c.args.blocks c.requires
