use Rattle.vv_flat.proofs.KeepSharing.{sharing_stays}
use Rattle.vv_flat.proofs.laws.a_record_keeps_the_sharing.Goals as goal

pub returns : goal.returns
returns c tables change places rules shared fit = sharing_stays tables change places rules shared fit
