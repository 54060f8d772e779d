use Rattle.vv_image.proofs.FoundArrays.{array_of_call}
use Rattle.vv_image.proofs.arrays.a_record_more_does_what_its_change_does.Goals as goal

pub returns : goal.returns
returns c log payload image later bytes r tables stands holds spells mark fits kept new =
    array_of_call log payload image later bytes r tables stands holds spells mark fits kept new
