use Rattle.std.proofs.Common.{◌∙◌, sym, ap}
use Rattle.vv_flat.specs.Lists.{all_different, all_rising}
use Rattle.vv_rules.proofs.Searches.{different_rise}
use Rattle.vv_rules.proofs.numbers.Numbers.are_different.Goals as goal

pub returns : goal.returns
returns c =
    c.all_rising.ensures ∙ ap all_rising c.as_slice.ensures.value ∙ sym (different_rise c.self.inside.sorted.items c.self.invariant)
    ∙ ap all_different c.self.view_is
