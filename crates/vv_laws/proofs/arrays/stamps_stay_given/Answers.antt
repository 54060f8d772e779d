use Rattle.vv_laws.proofs.WellFormedArrays.{shape_stamps_stay}
use Rattle.vv_laws.proofs.arrays.stamps_stay_given.Goals as goal

pub returns : goal.returns
returns c d change well stamps = shape_stamps_stay d change well stamps
