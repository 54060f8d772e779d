use Rattle.vv_laws.proofs.Answering.{answered_alike}
use Rattle.vv_laws.proofs.answers.arrays_of_one_shape_get_one_answer.Goals as goal

pub returns : goal.returns
returns c capabilities a b change same = answered_alike capabilities a b change same
