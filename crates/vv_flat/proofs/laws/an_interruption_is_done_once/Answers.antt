use Rattle.vv_flat.proofs.Interrupts.{interrupt_twice}
use Rattle.vv_flat.proofs.laws.an_interruption_is_done_once.Goals as goal

pub returns : goal.returns
returns g c a = interrupt_twice a
