use Rattle.std.proofs.Common.{◌≡◌, ◌-◌, ◌++◌}
use Rattle.vv_gen.specs.Script.{lines_text}
use Rattle.vv_gen.proofs.script.push_lines.Given as goal

-- what was written, and what is still to be drawn
abbrev pub invariant-loop-line : goal.invariant-loop-line
invariant-loop-line l = l.text.items ++ lines_text (l.lines - l._line) l.numbers.state ≡ l.fn.text.items ++ lines_text l.lines l.seed
