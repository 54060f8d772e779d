use Rattle.std.proofs.Common.{◌≡◌, ◌+◌, ◌*◌, ◌≤◌, length}
use Rattle.vv_flat.specs.Chunks.{shape_of_tables}
use Rattle.vv_flat.specs.Space.{allocating_pieces}
use Rattle.vv_flat.specs.Tasks.{difference}
use Rattle.vv_flat.specs.Changes.{stamps_of}
use Rattle.vv_judge.specs.Differences.{pieces_from}
use Rattle.vv_judge.proofs.differences.differences.Given as goal

abbrev pub invariant-loop-k : goal.invariant-loop-k
invariant-loop-k l = record {
  pieces : l.counted.pieces + length (pieces_from (stamps_of (shape_of_tables l.tables.durable) l.source.0) (stamps_of (shape_of_tables l.tables.durable) l.base.0) (64 * l.k)) ≡ length (difference (λ s. s) (stamps_of (shape_of_tables l.tables.durable) l.source.0) (stamps_of (shape_of_tables l.tables.durable) l.base.0));
  allocating : l.counted.allocating + allocating_pieces (stamps_of (shape_of_tables l.tables.durable) l.target.0) (pieces_from (stamps_of (shape_of_tables l.tables.durable) l.source.0) (stamps_of (shape_of_tables l.tables.durable) l.base.0) (64 * l.k)) ≡ allocating_pieces (stamps_of (shape_of_tables l.tables.durable) l.target.0) (difference (λ s. s) (stamps_of (shape_of_tables l.tables.durable) l.source.0) (stamps_of (shape_of_tables l.tables.durable) l.base.0));
  fewer : l.counted.allocating ≤ l.counted.pieces;
  few : l.counted.pieces ≤ 64 * l.k;
}
