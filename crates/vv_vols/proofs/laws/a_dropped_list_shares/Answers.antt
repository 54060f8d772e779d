use Rattle.vv_vols.proofs.Kept.{dropped_shares}
use Rattle.vv_vols.proofs.laws.a_dropped_list_shares.Goals as goal

pub returns : goal.returns
returns c s n shares = dropped_shares s shares n
