use Rattle.vv_event.proofs.EventLaws.{event_again}
use Rattle.vv_event.proofs.laws.an_event_is_told_by_its_change_and_places.Goals as goal

pub returns : goal.returns
returns c e = event_again e
