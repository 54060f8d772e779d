use Rattle.vv_meaning.proofs.Deeds.{call_keeps_form}
use Rattle.vv_meaning.proofs.meaning.a_call_keeps_the_volatile_form.Goals as goal

pub returns : goal.returns
returns c capabilities a call formed form = call_keeps_form capabilities a call formed form
