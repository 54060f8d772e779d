use Rattle.vv_laws.proofs.VolatileForms.{cleared_form}
use Rattle.vv_laws.proofs.volatile.a_cleared_attention_keeps_the_volatile_form.Goals as goal

pub returns : goal.returns
returns c a address form = cleared_form a address form
