use Rattle.vv_vols.proofs.Kept.{sized_shares}
use Rattle.vv_vols.proofs.laws.a_grown_volume_shares.Goals as goal

pub returns : goal.returns
returns c s n chunks shares = sized_shares s shares n chunks
