use Rattle.std.proofs.Common.{arith}
use Rattle.std.proofs.lemmas.Grind.{common_steps}
use Rattle.vv_flat.specs.Profiles.{first_misfit}
use Rattle.vv_profile.proofs.profile.complies.Goals as goal

pub returns-in-Some : goal.returns-in-Some
unfolding first_misfit
returns-in-Some g c = grind (arith, common_steps)

pub returns : goal.returns
unfolding first_misfit
returns g c = grind (arith, common_steps)
