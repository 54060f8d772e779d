use Rattle.vv_image.proofs.FoundArrays.{same_arrays}
use Rattle.vv_image.proofs.arrays.images_of_one_log_and_content_stand_for_one_array.Goals as goal

pub returns : goal.returns
returns c log image other tables is also stands same = same_arrays log image other tables is also stands same
