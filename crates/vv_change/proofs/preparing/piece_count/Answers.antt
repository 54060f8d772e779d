use Rattle.std.proofs.Common.{◌∙◌}
use Rattle.vv_change.proofs.Pieces.{stands_there, pieces_are}
use Rattle.vv_change.proofs.preparing.piece_count.Goals as goal

pub unshared_count-requires-clause-standing : goal.unshared_count-requires-clause-standing
unshared_count-requires-clause-standing c = stands_there c.args.tables.now c.shelf.result.now c.shelf.ensures c.args.source.0 c.requires.source

pub unshared_count-requires-clause-base_standing : goal.unshared_count-requires-clause-base_standing
unshared_count-requires-clause-base_standing c = stands_there c.args.tables.now c.shelf.result.now c.shelf.ensures c.args.base.0 c.requires.base

pub returns : goal.returns
returns c = c.unshared_count.ensures ∙ pieces_are c.args.tables.now c.shelf.result.now c.shelf.ensures c.args.source.0 c.args.base.0
