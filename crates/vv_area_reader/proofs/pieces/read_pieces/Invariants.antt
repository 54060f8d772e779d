use Rattle.std.proofs.Common.{◌≡◌, drop}
use Rattle.std.specs.List.{concat}
use Rattle.vv_area.specs.Area.{tables_in}
use Rattle.vv_area_reader.specs.Told.{told}
use Rattle.vv_area_reader.proofs.pieces.read_pieces.Given as goal

abbrev pub invariant-loop-piece : goal.invariant-loop-piece
invariant-loop-piece l =
    told l.reader (concat (drop l.piece-index l.pieces)) ≡ tables_in l.fn.geometry l.spelling (concat l.pieces)
