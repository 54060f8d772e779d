use Rattle.std.proofs.Common.{refl}
use Rattle.vv_flat.specs.Changes.{apply}
use Rattle.vv_flat.proofs.laws.a_change_takes_the_next_number.Goals as goal

pub returns : goal.returns
unfolding apply
returns g c stamp values unmapped d change = refl
