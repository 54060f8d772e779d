use Rattle.std.proofs.Common.{List, ℕ, sym, ap, ◌∙◌}
use Rattle.std.specs.Prelude.{Option}
use Rattle.vv_units.specs.Pairs.{after_set, with_pair, without_pair}
use Rattle.vv_units.proofs.PairLemmas.{pair_set}
use Rattle.vv_units.proofs.pair_list.PairList.set.Goals as goal

pub returns-in_default-clause-ok : goal.returns-in_default-clause-ok
returns-in_default-clause-ok c =
    c.remove_pair.ensures.rest
    ∙ ap (λ (pairs : List (List ℕ × List ℕ)). without_pair pairs c.args.key) c.self.view_is
    ∙ sym (ap (λ (value : Option (List ℕ)). after_set c.args.self.now c.args.key value) c.in_default.is)

pub returns-in-Ok-clause-ok : goal.returns-in-Ok-clause-ok
returns-in-Ok-clause-ok c =
    c.in-Ok.ensures.entries ∙ pair_set c.self.inside.pairs.entries c.args.key c.in-Some.note
    ∙ ap (λ (pairs : List (List ℕ × List ℕ)). with_pair pairs c.args.key c.in-Some.note) c.self.view_is
    ∙ sym (ap (λ (value : Option (List ℕ)). after_set c.args.self.now c.args.key value) c.in-Some.is)
