use Rattle.std.proofs.Common.{◌≡◌, ◌++◌, take, None}
use Rattle.vv_flat.specs.Sharing.{standing}
use Rattle.vv_area.proofs.rules.standings.put_pieces.Given as goal

abbrev pub invariant-loop-piece : goal.invariant-loop-piece
invariant-loop-piece l = l.all.items ≡ l.initial.all.items ++ standing None (take l.piece-index l.pieces)
