use Rattle.std.proofs.Common.{sym, ◌∙◌}
use Rattle.vv_flat.specs.Chunks.{shape_of_tables}
use Rattle.vv_flat.specs.Changes.{stamps_of}
use Rattle.vv_judge.proofs.Ranges.{ranges_unmap}
use Rattle.vv_judge.proofs.blocks.would_unmap.Goals as goal

pub returns : goal.returns
returns c =
    c.unmaps_any.ensures ∙ sym (ranges_unmap (stamps_of (shape_of_tables c.args.tables.now.durable) c.args.id.0) c.args.ranges.now)
