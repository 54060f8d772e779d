use Rattle.vv_laws.proofs.VolatileForms.{empty_form}
use Rattle.vv_laws.proofs.volatile.the_empty_array_has_the_volatile_form.Goals as goal

pub returns : goal.returns
returns c geometry = empty_form geometry
