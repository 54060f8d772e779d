use Rattle.std.proofs.Common.{length, sym, ap, ◌∙◌}
use Rattle.vv_units.specs.Sizes.{first_touched, touched_count}
use Rattle.vv_judge.proofs.Ranges.{touched_some, length_numbers}
use Rattle.vv_judge.proofs.blocks.touched_chunks.Goals as goal

pub returns : goal.returns
returns c =
    c.touched_by-count.ensures.count
    ∙ sym (length_numbers (first_touched c.args.first_block c.args.tables.now.durable.geometry.chunk_blocks) (touched_count c.args.first_block c.args.blocks c.args.tables.now.durable.geometry.chunk_blocks))
    ∙ sym (ap length (touched_some c.args.tables.now.durable.geometry.chunk_blocks c.args.first_block c.args.blocks c.requires.some))
