use Rattle.vv_laws.proofs.VolatileForms.{change_form}
use Rattle.vv_laws.proofs.volatile.a_change_keeps_the_volatile_form.Goals as goal

pub returns : goal.returns
returns c a change bytes form = change_form a change bytes form
