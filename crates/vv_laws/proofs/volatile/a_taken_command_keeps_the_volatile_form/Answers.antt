use Rattle.vv_laws.proofs.VolatileForms.{taken_form}
use Rattle.vv_laws.proofs.volatile.a_taken_command_keeps_the_volatile_form.Goals as goal

pub returns : goal.returns
returns c a host least form = taken_form a host least form
