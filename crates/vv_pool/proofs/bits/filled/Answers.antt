use Rattle.std.proofs.Common.{◌-◌, ◌*◌, ◌^◌, ◌%◌, ◌++◌, [], ◌∷◌, ap, ◌∙◌}
use Rattle.vv_pool.proofs.BitLemmas.{filled_full, filled_part}
use Rattle.vv_pool.proofs.bits.filled.Goals as goal
use Rattle.vv_pool.proofs.bits.filled.Goals.{then-rest-gt0+in_ok-push, else-rest-gt0}

pub returns : goal.returns
returns c = elim c.if-rest-gt0.branch [
  | then-rest-gt0+in_ok-push w ↦ filled_part _ c.args.n w.if-rest-gt0.true
      (ap (λ v. v.items) w.words-is ∙ w.in_ok-push.ensures.items ∙ ap (λ ws. ws ++ (1 * 2 ^ (c.args.n % 64) % 2 ^ 64 - 1) ∷ []) c.in_ok-words.ensures)
  | else-rest-gt0 w ↦ filled_full _ c.args.n w.if-rest-gt0.false (ap (λ v. v.items) w.words-is ∙ c.in_ok-words.ensures)
]
