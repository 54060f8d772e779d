use Rattle.vv_laws.proofs.VolatileForms.{interrupted_form}
use Rattle.vv_laws.proofs.volatile.an_interruption_keeps_the_volatile_form.Goals as goal

pub returns : goal.returns
returns c a form = interrupted_form a form
