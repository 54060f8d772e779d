use Rattle.vv_vols.proofs.Kept.{made_shares}
use Rattle.vv_vols.proofs.laws.a_made_volume_shares.Goals as goal

pub returns : goal.returns
returns c s v shares unmapped = made_shares s shares v unmapped
