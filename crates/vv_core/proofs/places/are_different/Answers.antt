use Rattle.std.proofs.Common.{ap, ◌∙◌}
use Rattle.vv_flat.specs.Lists.{all_different}
use Rattle.vv_rules.proofs.Single.{different_permuted}
use Rattle.vv_core.proofs.places.are_different.Goals as goal

pub returns-in-Ok : goal.returns-in-Ok
returns-in-Ok c =
    c.are_different.ensures ∙ different_permuted c.in_ok-numbers.numbers.items c.in-Ok.sorted c.in-Ok.ensures
    ∙ ap all_different c.in_ok-numbers.ensures
