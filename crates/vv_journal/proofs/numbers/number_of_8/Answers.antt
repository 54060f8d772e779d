use Rattle.std.proofs.Common.{◌∙◌, arith}
use Rattle.vv_journal.proofs.Opened.{eight_at}
use Rattle.vv_journal.proofs.numbers.number_of_8.Goals as goal

pub returns : goal.returns
returns c = c.from_be_bytes.ensures ∙ eight_at c.args.bytes.now c.split_at.result.1.now c.args.at c.split_at.ensures.back (omega (arith, c.split_at.ensures.back_len, c.requires))
