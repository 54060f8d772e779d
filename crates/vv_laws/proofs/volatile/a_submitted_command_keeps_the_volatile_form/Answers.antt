use Rattle.vv_laws.proofs.VolatileForms.{submitted_form}
use Rattle.vv_laws.proofs.volatile.a_submitted_command_keeps_the_volatile_form.Goals as goal

pub returns : goal.returns
returns c a command host room form = submitted_form a command host room form
