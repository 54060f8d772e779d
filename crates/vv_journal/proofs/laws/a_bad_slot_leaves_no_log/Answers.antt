use Rattle.vv_journal.proofs.Replayed.{read_bad}
use Rattle.vv_journal.proofs.laws.a_bad_slot_leaves_no_log.Goals as goal

pub returns : goal.returns
returns c = λ head n image records lt has read bad. read_bad head n image records lt has read bad
