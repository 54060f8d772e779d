use Rattle.vv_image.proofs.FoundArrays.{array_of_log}
use Rattle.vv_image.proofs.arrays.an_image_stands_for_the_tables_of_its_log.Goals as goal

pub returns : goal.returns
returns c log image tables is stands = array_of_log log image tables is stands
