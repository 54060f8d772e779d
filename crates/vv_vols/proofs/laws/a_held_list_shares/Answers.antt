use Rattle.vv_vols.proofs.Kept.{held_shares}
use Rattle.vv_vols.proofs.laws.a_held_list_shares.Goals as goal

pub returns : goal.returns
returns c s h shares comes = held_shares s shares h comes
