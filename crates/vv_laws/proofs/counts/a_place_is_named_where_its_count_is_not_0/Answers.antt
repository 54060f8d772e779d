use Rattle.vv_flat.proofs.NamedPlaces.{named-counted}
use Rattle.vv_laws.proofs.counts.a_place_is_named_where_its_count_is_not_0.Goals as goal

pub returns : goal.returns
returns c all place = named-counted all place
