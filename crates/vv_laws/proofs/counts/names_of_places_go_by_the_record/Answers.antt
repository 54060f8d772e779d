use Rattle.vv_laws.proofs.PlaceCounts.{names_after}
use Rattle.vv_laws.proofs.counts.names_of_places_go_by_the_record.Goals as goal

pub returns : goal.returns
returns c tables change places well fit place = names_after tables change places well fit place
