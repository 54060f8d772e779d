use Rattle.std.proofs.Common.{arith}
use Rattle.vv_pool.proofs.BitLemmas.{first_is, within_from_some}
use Rattle.vv_pool.proofs.bits.first_in_word.Goals as goal

pub overflow_add-result : goal.overflow_add-result
overflow_add-result c =
    let low = first_is c.args.words.now c.args.word c.requires.some (omega (arith, c.type_inv.words c.args.word)) in
    omega (arith, low.0, within_from_some c.args.words.now c.args.word c.requires.some)

pub returns : goal.returns
returns c = (first_is c.args.words.now c.args.word c.requires.some (omega (arith, c.type_inv.words c.args.word))).1
