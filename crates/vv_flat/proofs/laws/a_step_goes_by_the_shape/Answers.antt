use Rattle.vv_flat.proofs.Steps.{flat_step}
use Rattle.vv_flat.proofs.laws.a_step_goes_by_the_shape.Goals as goal

pub returns : goal.returns
returns c d change bytes e = flat_step d change bytes e
