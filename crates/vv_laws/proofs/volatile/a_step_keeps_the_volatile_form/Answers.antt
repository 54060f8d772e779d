use Rattle.vv_laws.proofs.VolatileForms.{next_form}
use Rattle.vv_laws.proofs.volatile.a_step_keeps_the_volatile_form.Goals as goal

pub returns : goal.returns
returns c capabilities a change bytes form = next_form capabilities a change bytes form
