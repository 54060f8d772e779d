-- One line more of a script.
use Rattle.std.proofs.Common.{◌≡◌, ℕ, suc, ◌+◌, ◌-◌, ◌<◌, List, ◌++◌, sym, ap, ◌∙◌, append_assoc, arith}
use Rattle.vv_gen.specs.declared.line.Line.{Line}
use Rattle.vv_gen.specs.Lines.{drawn_line, line_text}
use Rattle.vv_gen.specs.Script.{lines_text}

lines_step : (n i state : ℕ) → i < n → lines_text (n - i) state ≡ line_text (drawn_line state).line ++ lines_text (n - (i + 1)) (drawn_line state).state
lines_step n i state lt =
    let one_more : n - i ≡ suc (n - (i + 1)) = omega arith in
    ap (λ (k : ℕ). lines_text k state) one_more

-- what was written and what is left make the same script after a line as before it
pub line_more : (before after all : List ℕ) (n i state next : ℕ) (line : Line) → i < n → after ≡ before ++ line_text line → line ≡ (drawn_line state).line → next ≡ (drawn_line state).state
    → before ++ lines_text (n - i) state ≡ all → after ++ lines_text (n - (i + 1)) next ≡ all
line_more before after all n i state next line lt written line_is next_is so_far =
    ap (λ (t : List ℕ). t ++ lines_text (n - (i + 1)) next) written
    ∙ append_assoc before (line_text line) (lines_text (n - (i + 1)) next)
    ∙ ap (λ (l : Line). before ++ (line_text l ++ lines_text (n - (i + 1)) next)) line_is
    ∙ ap (λ (s : ℕ). before ++ (line_text (drawn_line state).line ++ lines_text (n - (i + 1)) s)) next_is
    ∙ ap (λ (t : List ℕ). before ++ t) (sym (lines_step n i state lt))
    ∙ so_far
