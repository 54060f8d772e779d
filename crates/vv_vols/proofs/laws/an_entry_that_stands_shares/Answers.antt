use Rattle.vv_vols.proofs.Kept.{replaced_shares}
use Rattle.vv_vols.proofs.laws.an_entry_that_stands_shares.Goals as goal

pub returns : goal.returns
returns c s n index e shares stands = replaced_shares s shares n index e stands
