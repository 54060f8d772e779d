use Rattle.vv_pool.proofs.BitLemmas.{insert_puts}
use Rattle.vv_pool.proofs.bits.insert.Goals as goal

pub returns-clause-bits : goal.returns-clause-bits
returns-clause-bits c = insert_puts c.args.words.now c.args.at c.requires
