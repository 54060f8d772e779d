use Rattle.std.proofs.Common.{List, ℕ, ap, ◌∙◌}
use Rattle.vv_units.specs.Pairs.{with_pair}
use Rattle.vv_flat.specs.Fields.{are_pairs}
use Rattle.vv_restore.proofs.PairsInOrder.{next_pair}
use Rattle.vv_restore.proofs.heads.copy_pairs.Goals as goal

pub loop-key-preserved : goal.loop-key-preserved
loop-key-preserved c =
    let at = c.loop-key in
    let p = c.loop-key-item.result in
    c.in_ok-set_pair.ensures
    ∙ ap (λ (ps : List (List ℕ × List ℕ)). with_pair ps p.0 p.1) at.invariant
    ∙ next_pair c.items-rows.result.now at.key-index p c.loop-key-test.true c.loop-key-item.is
    (ap (λ (ps : List (List ℕ × List ℕ)). are_pairs ps) c.items-rows.ensures ∙ c.requires)
