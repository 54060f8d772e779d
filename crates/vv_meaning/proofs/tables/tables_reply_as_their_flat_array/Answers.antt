use Rattle.vv_meaning.proofs.Filled.{tables_reply}
use Rattle.vv_meaning.proofs.tables.tables_reply_as_their_flat_array.Goals as goal

pub returns : goal.returns
returns c capabilities bytes_at tables volatile call = tables_reply capabilities bytes_at tables volatile call
