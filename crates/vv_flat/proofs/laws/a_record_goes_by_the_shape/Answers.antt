use Rattle.vv_flat.proofs.Steps.{record_step}
use Rattle.vv_flat.proofs.laws.a_record_goes_by_the_shape.Goals as goal

pub returns : goal.returns
returns c tables change places e = record_step tables change places e
