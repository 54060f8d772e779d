use Rattle.vv_vols.proofs.Kept.{deleted_shares}
use Rattle.vv_vols.proofs.laws.a_deletion_shares.Goals as goal

pub returns : goal.returns
returns c s n shares = deleted_shares s shares n
