use Rattle.std.proofs.Common.{◌∙◌, ap}
use Rattle.vv_flat.specs.Lists.{all_different}
use Rattle.vv_rules.proofs.Single.{different_permuted}
use Rattle.vv_area.proofs.rules.numbers.numbers_differ.Goals as goal

pub returns : goal.returns
returns c =
    c.are_different.ensures ∙ different_permuted c.in_ok-numbers.numbers.items c.in_ok-sorted.sorted c.in_ok-sorted.ensures
    ∙ ap all_different c.in_ok-numbers.ensures
