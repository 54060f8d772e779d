use Rattle.vv_flat.proofs.NamedPlaces.{used_named}
use Rattle.vv_flat.proofs.laws.shared_entries_use_what_they_name.Goals as goal

pub returns : goal.returns
returns c pool_chunks all shared = used_named pool_chunks all shared
