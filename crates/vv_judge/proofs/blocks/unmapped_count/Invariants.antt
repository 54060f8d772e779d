use Rattle.std.proofs.Common.{◌≡◌, ◌+◌, ◌-◌, ◌≤◌, count_by}
use Rattle.vv_flat.specs.Lists.{numbers_from}
use Rattle.vv_flat.specs.Chunks.{shape_of_tables}
use Rattle.vv_flat.specs.Changes.{stamps_of}
use Rattle.vv_judge.proofs.Ranges.{is_unmapped}
use Rattle.vv_judge.proofs.blocks.unmapped_count.Given as goal

abbrev pub invariant-loop-index : goal.invariant-loop-index
invariant-loop-index l = record {
  counted : l.unmapped + count_by (is_unmapped (stamps_of (shape_of_tables l.tables.durable) l.id.0)) (numbers_from l.index (l.first + l.count - l.index))
      ≡ count_by (is_unmapped (stamps_of (shape_of_tables l.tables.durable) l.id.0)) (numbers_from l.first l.count);
  few : l.unmapped + l.first ≤ l.index;
}
