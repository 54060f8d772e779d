use Rattle.vv_pool.proofs.BitLemmas.{remove_puts}
use Rattle.vv_pool.proofs.bits.remove.Goals as goal

pub returns-clause-bits : goal.returns-clause-bits
returns-clause-bits c = remove_puts c.args.words.now c.args.at c.requires
