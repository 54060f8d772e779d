use Rattle.vv_flat.proofs.Entries.{entries_stay}
use Rattle.vv_flat.proofs.laws.entries_stay_within_the_map.Goals as goal

pub returns : goal.returns
returns c misfit d change accepted fits = entries_stay misfit d change accepted fits
