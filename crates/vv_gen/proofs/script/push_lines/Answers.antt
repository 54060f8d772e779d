use Rattle.std.proofs.Common.{arith}
use Rattle.vv_gen.proofs.Drawing.{line_more}
use Rattle.vv_gen.proofs.script.push_lines.Goals as goal

pub loop-line-preserved : goal.loop-line-preserved
loop-line-preserved c =
    line_more _ _ _ c.args.lines c.loop-line._line c.loop-line.numbers.state c.draw.new.numbers.state c.draw.result (omega arith)
    c.in_ok-push.ensures c.draw.ensures.line c.draw.ensures.state c.loop-line.invariant
