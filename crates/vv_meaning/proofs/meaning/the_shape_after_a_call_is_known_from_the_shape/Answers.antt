use Rattle.vv_meaning.proofs.Deeds.{call_shape}
use Rattle.vv_meaning.proofs.meaning.the_shape_after_a_call_is_known_from_the_shape.Goals as goal

pub returns : goal.returns
returns c capabilities a call = call_shape capabilities a call
