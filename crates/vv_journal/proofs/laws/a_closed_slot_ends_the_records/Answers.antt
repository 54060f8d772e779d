use Rattle.vv_journal.proofs.Replayed.{read_all}
use Rattle.vv_journal.proofs.laws.a_closed_slot_ends_the_records.Goals as goal

pub returns : goal.returns
returns c = λ head n image records le has read ends. read_all head n image records le has read ends
