use Rattle.vv_image.proofs.Formed.{opened_well}
use Rattle.vv_image.proofs.arrays.the_tables_of_an_image_are_well_formed.Goals as goal

pub returns : goal.returns
returns c image tables are e = opened_well image tables are e
