use Rattle.std.proofs.Common.{ℕ, ap, ◌∙◌, drop}
use Rattle.vv_run.proofs.LoadingLemmas.{first_cut}
use Rattle.vv_run.proofs.walking.first_line.Goals as goal

pub returns-clause-lines : goal.returns-clause-lines
returns-clause-lines c = λ limit.
    first_cut limit c.line_length.result c.args.bytes.now c.split_at.result.0.now c.split_at.result.1.now c.split_at-2.result.1.now
    c.line_length.ensures.front c.split_at.ensures.front c.split_at.ensures.back (c.split_at-2.ensures.back ∙ ap (λ (n : ℕ). drop n c.split_at.result.1.now) c.min.ensures)
