use Rattle.std.proofs.Common.{ap, ◌∙◌}
use Rattle.vv_units.specs.Pairs.{note_of}
use Rattle.vv_units.proofs.PairLemmas.{note_found}
use Rattle.vv_units.proofs.pair_list.PairList.get.Goals as goal

pub returns : goal.returns
returns c =
    c.get.ensures.value ∙ note_found c.self.inside.pairs.entries c.args.key.now ∙ ap (λ pairs. note_of pairs c.args.key.now) c.self.view_is
