use Rattle.vv_meaning.proofs.Deeds.{answered_by_shape}
use Rattle.vv_meaning.proofs.meaning.a_change_is_answered_by_the_shape.Goals as goal

pub returns : goal.returns
returns c capabilities a change = answered_by_shape capabilities a change
