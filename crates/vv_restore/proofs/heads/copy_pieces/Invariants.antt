use Rattle.std.proofs.Common.{◌≡◌, take}
use Rattle.vv_tables.specs.Giving.{seen_pieces}
use Rattle.vv_restore.proofs.heads.copy_pieces.Given as goal

abbrev pub invariant-loop-piece : goal.invariant-loop-piece
invariant-loop-piece l = seen_pieces l.copies.items ≡ take l.piece-index l.pieces
