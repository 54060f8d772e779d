use Rattle.vv_image.proofs.Slots.{opened_by_log}
use Rattle.vv_image.proofs.images.an_image_is_opened_by_its_log.Goals as goal

pub returns : goal.returns
returns c log image e = opened_by_log log image e
