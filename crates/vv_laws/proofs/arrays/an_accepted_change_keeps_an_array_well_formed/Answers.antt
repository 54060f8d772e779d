use Rattle.vv_laws.proofs.WellFormedArrays.{array_stays}
use Rattle.vv_laws.proofs.arrays.an_accepted_change_keeps_an_array_well_formed.Goals as goal

pub returns : goal.returns
returns c misfit d change bytes well forms has accepted = array_stays misfit d change bytes well forms has accepted
