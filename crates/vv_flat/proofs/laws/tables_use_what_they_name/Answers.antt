use Rattle.vv_flat.proofs.NamedPlaces.{used_places}
use Rattle.vv_flat.proofs.laws.tables_use_what_they_name.Goals as goal

pub returns : goal.returns
returns c tables shared = used_places tables shared
