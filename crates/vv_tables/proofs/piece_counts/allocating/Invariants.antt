use Rattle.std.proofs.Common.{◌≡◌, ◌≤◌, take, count_by}
use Rattle.vv_vols.specs.Shelf.{pieces_in}
use Rattle.vv_tables.specs.Copies.{stamps_in, shaped_pieces, is_allocating}
use Rattle.vv_tables.proofs.piece_counts.allocating.Given as goal

abbrev pub invariant-loop-at : goal.invariant-loop-at
invariant-loop-at l = record {
  counted : l.count ≡ count_by (is_allocating (stamps_in l.shelf.shelf l.target.0)) (take l.at (shaped_pieces (pieces_in l.shelf.shelf l.held.number)));
  few : l.count ≤ l.at;
}
