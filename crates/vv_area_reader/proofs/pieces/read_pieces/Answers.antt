use Rattle.std.proofs.Common.{◌+◌, drop}
use Rattle.std.specs.List.{concat}
use Rattle.std.proofs.lemmas.Result.{err_from_is_err_and}
use Rattle.vv_area.specs.Area.{tables_in}
use Rattle.vv_area_reader.proofs.Fed.{fed_fails}
use Rattle.vv_area_reader.proofs.pieces.read_pieces.Goals as goal

pub returns-in_err-feed : goal.returns-in_err-feed
returns-in_err-feed c =
    let p = err_from_is_err_and c.from_residual-in_err-feed.result c.from_residual-in_err-feed.ensures.1 in
    rw (p.1, p.2) (fed_fails c.args.pieces.now c.loop-piece.piece-index c.piece-item.result c.items.result.now c.loop-piece.reader (tables_in c.args.geometry c.args.spelling (concat c.args.pieces.now)) c.in_err-feed.field-0.0
    c.loop-piece-test.true c.piece-item.is c.items.ensures c.loop-piece.invariant (c.in_err-feed.ensures.told (concat (drop (c.loop-piece.piece-index + 1) c.args.pieces.now))))
