use Rattle.vv_vols.proofs.Kept.{put_shares}
use Rattle.vv_vols.proofs.laws.a_fresh_place_shares.Goals as goal

pub returns : goal.returns
returns c s n index p stamp shares place new = put_shares s shares n index p stamp place new
