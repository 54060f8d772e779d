use Rattle.vv_flat.proofs.Filled.{same_shape-apply}
use Rattle.vv_flat.proofs.laws.arrays_of_one_shape_keep_one_shape.Goals as goal

pub returns : goal.returns
returns c d e same these those stamps unmapped change = same_shape-apply d e same these those stamps unmapped change
