use Rattle.vv_meaning.proofs.Deeds.{call_leaves}
use Rattle.vv_meaning.proofs.meaning.a_call_that_is_not_journaled_leaves_the_durable_part.Goals as goal

pub returns : goal.returns
returns c capabilities a call journaled = call_leaves capabilities a call journaled
