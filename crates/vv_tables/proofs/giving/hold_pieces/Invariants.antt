use Rattle.std.proofs.Common.{◌≡◌, ◌-◌, length, take}
use Rattle.vv_vols.specs.Shelf.{next_held}
use Rattle.vv_tables.specs.Giving.{seen_pieces, with_some}
use Rattle.vv_tables.proofs.giving.hold_pieces.Given as goal

abbrev pub invariant-loop-piece : goal.invariant-loop-piece
invariant-loop-piece g l = record {
  shelf : l.shelf.shelf ≡ with_some l.fn.shelf.shelf (seen_pieces (take l.piece-index l.fn.pieces)) (length l.fn.pieces - l.piece-index);
  number : l.held.number ≡ next_held l.fn.shelf.shelf;
  len : l.held.len ≡ l.piece-index;
  taken : l.taken ≡ l.fn.taken;
}
