use Rattle.vv_image.proofs.Records.{log_more}
use Rattle.vv_image.proofs.images.one_more_record_is_one_more_step.Goals as goal

pub returns : goal.returns
returns c log payload r tables is spells fits = log_more log payload r tables is spells fits
