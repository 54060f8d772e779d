use Rattle.vv_flat.proofs.KeepRules.{shape_rules_stay}
use Rattle.vv_flat.proofs.laws.the_rules_of_the_shape_stay.Goals as goal

pub returns : goal.returns
returns c misfit d change rules fields accepted = shape_rules_stay misfit d change rules fields accepted
