use Rattle.vv_flat.proofs.MapDurable.{map-apply}
use Rattle.vv_flat.proofs.laws.changes_go_with_the_chunks.Goals as goal

pub returns : goal.returns
returns g c f stamp stamp_of same values unmapped d change = map-apply f stamp stamp_of same values unmapped d change
