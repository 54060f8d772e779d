use Rattle.vv_laws.proofs.Answering.{next_well}
use Rattle.vv_laws.proofs.answers.a_step_keeps_the_shape_well_formed.Goals as goal

pub returns : goal.returns
returns c capabilities a change bytes well forms has = next_well capabilities a change bytes well forms has
