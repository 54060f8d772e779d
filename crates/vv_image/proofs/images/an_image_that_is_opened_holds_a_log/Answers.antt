use Rattle.vv_image.proofs.HeldLogs.{opened_holds}
use Rattle.vv_image.proofs.images.an_image_that_is_opened_holds_a_log.Goals as goal

pub returns : goal.returns
returns c image tables e = opened_holds image tables e
