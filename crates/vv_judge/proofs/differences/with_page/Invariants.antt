use Rattle.std.proofs.Common.{◌≡◌, ◌+◌, ◌*◌, ◌≤◌, length}
use Rattle.vv_flat.specs.Chunks.{shape_of_tables}
use Rattle.vv_flat.specs.Space.{allocating_pieces}
use Rattle.vv_flat.specs.Changes.{stamps_of}
use Rattle.vv_judge.specs.Differences.{pieces_from}
use Rattle.vv_judge.proofs.differences.with_page.Given as goal

abbrev pub invariant-loop-i : goal.invariant-loop-i
invariant-loop-i l = record {
  pieces : l.more.pieces + length (pieces_from (stamps_of (shape_of_tables l.tables.durable) l.fn.source.0) (stamps_of (shape_of_tables l.tables.durable) l.fn.base.0) (64 * l.k + l.i)) ≡ l.fn.counted.pieces + length (pieces_from (stamps_of (shape_of_tables l.tables.durable) l.fn.source.0) (stamps_of (shape_of_tables l.tables.durable) l.fn.base.0) (64 * l.k));
  allocating : l.more.allocating + allocating_pieces (stamps_of (shape_of_tables l.tables.durable) l.fn.target.0) (pieces_from (stamps_of (shape_of_tables l.tables.durable) l.fn.source.0) (stamps_of (shape_of_tables l.tables.durable) l.fn.base.0) (64 * l.k + l.i)) ≡ l.fn.counted.allocating + allocating_pieces (stamps_of (shape_of_tables l.tables.durable) l.fn.target.0) (pieces_from (stamps_of (shape_of_tables l.tables.durable) l.fn.source.0) (stamps_of (shape_of_tables l.tables.durable) l.fn.base.0) (64 * l.k));
  fewer : l.more.allocating ≤ l.more.pieces;
  few : l.more.pieces ≤ 64 * l.k + l.i;
}
