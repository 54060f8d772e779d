use Rattle.vv_flat.proofs.Steps.{record_is_call}
use Rattle.vv_flat.proofs.laws.a_record_does_what_its_call_does.Goals as goal

pub returns : goal.returns
returns c bytes_at tables change places bytes e = record_is_call bytes_at tables change places bytes e
