use Rattle.vv_journal.proofs.Bytes.{zero_of_zeros}
use Rattle.vv_journal.proofs.half.shut_gates.Goals as goal

pub returns-clause-shut : goal.returns-clause-shut
returns-clause-shut c = λ i. zero_of_zeros 256 i
