use Rattle.vv_laws.proofs.Answering.{tables_answer}
use Rattle.vv_laws.proofs.answers.tables_are_answered_as_their_flat_array.Goals as goal

pub returns : goal.returns
returns c capabilities bytes_at tables volatile change = tables_answer capabilities bytes_at tables volatile change
