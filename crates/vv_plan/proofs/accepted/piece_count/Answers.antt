use Rattle.std.proofs.Common.{sym, ◌∙◌}
use Rattle.vv_flat.specs.Chunks.{shape_of_tables}
use Rattle.vv_plan.proofs.PieceCounts.{no_piece, all_pieces, pieces_are}
use Rattle.vv_plan.proofs.accepted.piece_count.Goals as goal

pub returns-then-is_missing : goal.returns-then-is_missing
returns-then-is_missing c =
    no_piece (shape_of_tables c.args.tables.now.durable) c.args.source.0 c.args.base.0 (sym c.if-is_missing.true ∙ c.is_missing.ensures)

pub returns-then-is_missing-2 : goal.returns-then-is_missing-2
returns-then-is_missing-2 c =
    c.allocated.ensures ∙ all_pieces (shape_of_tables c.args.tables.now.durable) c.args.source.0 c.args.base.0 (sym c.if-is_missing-2.true ∙ c.is_missing-2.ensures)

pub returns : goal.returns
returns c = c.count_unshared.ensures ∙ pieces_are (shape_of_tables c.args.tables.now.durable) c.args.source.0 c.args.base.0
