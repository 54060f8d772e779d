use Rattle.vv_laws.proofs.VolatileForms.{restarted_form}
use Rattle.vv_laws.proofs.volatile.a_restarted_array_has_the_volatile_form.Goals as goal

pub returns : goal.returns
returns c a = restarted_form a
