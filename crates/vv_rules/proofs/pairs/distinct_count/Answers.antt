use Rattle.std.proofs.Common.{◌∙◌}
use Rattle.vv_rules.proofs.Distinct.{distinct_counted}
use Rattle.vv_rules.proofs.pairs.distinct_count.Goals as goal

pub returns : goal.returns
returns c =
    c.len.ensures ∙ c.dedup.new.self.ok.0
    ∙ distinct_counted c.args.pairs.items c.sort.new.self.items c.dedup.new.self.items c.in_ok-sort.ensures.permutation
    c.in_ok-sort.ensures.sorted c.dedup.ensures.filtered
