use Rattle.vv_laws.proofs.WellFormedArrays.{empty_array_well}
use Rattle.vv_laws.proofs.arrays.the_empty_array_is_well_formed.Goals as goal

pub returns : goal.returns
returns c geometry = empty_array_well geometry
