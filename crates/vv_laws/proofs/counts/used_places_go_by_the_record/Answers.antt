use Rattle.vv_laws.proofs.UsedCounts.{used_after}
use Rattle.vv_laws.proofs.counts.used_places_go_by_the_record.Goals as goal

pub returns : goal.returns
returns c tables change places well fit = used_after tables change places well fit
