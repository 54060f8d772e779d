use Rattle.std.proofs.Common.{◌≡◌, ◌+◌, ◌-◌}
use Rattle.std.specs.List.{list_any}
use Rattle.vv_flat.specs.Lists.{numbers_from}
use Rattle.vv_flat.specs.Chunks.{shape_of_tables}
use Rattle.vv_flat.specs.Changes.{stamps_of}
use Rattle.vv_judge.proofs.Ranges.{unmapping}
use Rattle.vv_judge.proofs.blocks.unmaps_some.Given as goal

abbrev pub invariant-loop-index : goal.invariant-loop-index
invariant-loop-index l =
    list_any (unmapping (stamps_of (shape_of_tables l.tables.durable) l.id.0)) (numbers_from l.index (l.range.first_chunk + l.range.chunks - l.index))
    ≡ list_any (unmapping (stamps_of (shape_of_tables l.tables.durable) l.id.0)) (numbers_from l.range.first_chunk l.range.chunks)

abbrev pub decreases-loop-index : goal.decreases-loop-index
decreases-loop-index l = l.end - l.index
