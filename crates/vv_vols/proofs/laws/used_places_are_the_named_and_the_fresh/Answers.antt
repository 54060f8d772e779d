use Rattle.vv_vols.proofs.Kept.{used_are_named}
use Rattle.vv_vols.proofs.laws.used_places_are_the_named_and_the_fresh.Goals as goal

pub returns : goal.returns
returns c s shares = used_are_named s shares
