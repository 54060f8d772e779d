use Rattle.vv_flat.proofs.Filled.{filled-apply}
use Rattle.vv_flat.proofs.laws.filled_tables_go_as_the_flat_array.Goals as goal

pub returns : goal.returns
returns c bytes_at entries tables change = filled-apply bytes_at entries tables change
