use Rattle.std.proofs.Common.{◌≡◌, drop}
use Rattle.vv_flat.specs.Profiles.{first_misfit_from}
use Rattle.vv_profile.specs.Known.{all_known}
use Rattle.vv_profile.proofs.profile.complies.Given as goal

abbrev pub invariant-loop-at : goal.invariant-loop-at
invariant-loop-at g l =
    first_misfit_from l.at (all_known l.capabilities) l.offered (drop l.at l.asked)
    ≡ first_misfit_from 0 (all_known l.capabilities) l.offered l.asked
