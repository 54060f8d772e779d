use Rattle.vv_laws.proofs.WellFormed.{interruption_well_shape}
use Rattle.vv_laws.proofs.well_formed.an_interrupted_shape_is_well_formed.Goals as goal

pub returns : goal.returns
returns c d well = interruption_well_shape d well
