use Rattle.std.proofs.Common.{◌∙◌, eqb, ap, sym}
use Rattle.vv_rules.proofs.Counts.{count}
use Rattle.vv_rules.proofs.Orders.{pair_eq}
use Rattle.vv_rules.proofs.Distinct.{distinct_is_count}
use Rattle.vv_rules.proofs.Single.{single_counted}
use Rattle.vv_rules.proofs.pairs.pairs_differ.Goals as goal

pub returns : goal.returns
returns c =
    ap (λ n. eqb n c.len-count.result) (c.in_ok-distinct.ensures ∙ distinct_is_count c.args.pairs.items)
    ∙ ap (λ n. eqb (count pair_eq c.args.pairs.items) n) (c.len-count.ensures ∙ c.args.pairs.ok.0)
    ∙ sym (single_counted c.args.pairs.items)
