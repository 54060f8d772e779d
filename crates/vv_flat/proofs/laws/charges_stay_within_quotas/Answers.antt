use Rattle.vv_flat.proofs.Charges.{charges_stay}
use Rattle.vv_flat.proofs.laws.charges_stay_within_quotas.Goals as goal

pub returns : goal.returns
returns c misfit d change form numbers names clones copies accepted fits =
    charges_stay misfit d change form numbers names clones copies accepted fits
