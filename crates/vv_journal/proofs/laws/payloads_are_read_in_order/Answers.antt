use Rattle.vv_journal.proofs.Replayed.{read_none, read_more}
use Rattle.vv_journal.proofs.laws.payloads_are_read_in_order.Goals as goal

pub returns-clause-first : goal.returns-clause-first
returns-clause-first c = λ head image. read_none head image

pub returns-clause-next : goal.returns-clause-next
returns-clause-next c = λ head n len got image records read next. read_more head n len got image records read next
