use Rattle.vv_laws.proofs.WellFormedArrays.{array_values, whole_volume}
use Rattle.vv_laws.proofs.arrays.the_chunks_of_a_volume_are_whole.Goals as goal

pub returns : goal.returns
returns c d n volume well found = whole_volume d n volume (array_values d well) found
