use Rattle.std.proofs.Common.{refl}
use Rattle.vv_journal.specs.Log.{log_of}
use Rattle.vv_journal.proofs.Opened.{fault_means_no_log}
use Rattle.vv_journal.proofs.laws.a_faulty_image_holds_no_log.Goals as goal

pub returns : goal.returns
returns c = λ image fault e. fault_means_no_log image fault (log_of image) refl e
