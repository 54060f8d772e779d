use Rattle.vv_vols.proofs.Kept.{copied_shares}
use Rattle.vv_vols.proofs.laws.a_copied_volume_shares.Goals as goal

pub returns : goal.returns
returns c s v w shares stands same = copied_shares s shares v w stands same
