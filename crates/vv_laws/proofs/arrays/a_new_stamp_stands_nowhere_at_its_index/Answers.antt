use Rattle.vv_laws.proofs.WellFormedArrays.{new_stamp_new}
use Rattle.vv_laws.proofs.arrays.a_new_stamp_stands_nowhere_at_its_index.Goals as goal

pub returns : goal.returns
returns c d change well = new_stamp_new d change well
