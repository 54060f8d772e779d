use Rattle.vv_meaning.proofs.Filled.{tables_asked}
use Rattle.vv_meaning.proofs.tables.tables_are_asked_as_their_flat_array.Goals as goal

pub returns : goal.returns
returns c bytes_at tables volatile call = tables_asked bytes_at tables volatile call
