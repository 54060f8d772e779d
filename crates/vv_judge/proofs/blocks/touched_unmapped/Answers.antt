use Rattle.std.proofs.Common.{sym, ap, ◌∙◌}
use Rattle.vv_units.specs.Sizes.{first_touched}
use Rattle.vv_flat.specs.Lists.{numbers_from}
use Rattle.vv_flat.specs.Chunks.{shape_of_tables}
use Rattle.vv_flat.specs.Changes.{stamps_of, unmapped_count}
use Rattle.vv_judge.proofs.Ranges.{touched_some}
use Rattle.vv_judge.proofs.blocks.touched_unmapped.Goals as goal

pub returns : goal.returns
returns c =
    c.unmapped_count.ensures
    ∙ ap (λ n. unmapped_count (stamps_of (shape_of_tables c.args.tables.now.durable) c.args.id.0) (numbers_from n c.touched_by-first.result.1)) c.touched_by-first.ensures.first
    ∙ ap (λ n. unmapped_count (stamps_of (shape_of_tables c.args.tables.now.durable) c.args.id.0) (numbers_from (first_touched c.args.first_block c.args.tables.now.durable.geometry.chunk_blocks) n)) c.touched_by-first.ensures.count
    ∙ sym (ap (unmapped_count (stamps_of (shape_of_tables c.args.tables.now.durable) c.args.id.0)) (touched_some c.args.tables.now.durable.geometry.chunk_blocks c.args.first_block c.args.blocks c.requires.some))
