use Rattle.vv_vols.proofs.Kept.{reverted_shares}
use Rattle.vv_vols.proofs.laws.a_reverted_volume_shares.Goals as goal

pub returns : goal.returns
returns c s n w shares stands = reverted_shares s shares n w stands
