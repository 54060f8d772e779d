use Rattle.vv_laws.proofs.KeptNumbers.{turn_at_most}
use Rattle.vv_laws.proofs.counts.a_turn_copies_few_chunks.Goals as goal

pub returns : goal.returns
returns c d task = turn_at_most (λ s. s) d task
