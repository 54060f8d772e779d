use Rattle.std.proofs.Common.{◌≡◌, ◌∙◌, decimal, length, ap, arith}
use Rattle.vv_reply.proofs.Joining.{decimal_short, below_or_above}
use Rattle.vv_reply.proofs.buffer.ReplyBuffer.count.Goals as goal

pub put-requires : goal.put-requires
put-requires c =
    let short = decimal_short c.args.count c.requires.some (omega arith) (below_or_above c.args.count) in
    let digits : length c.as_bytes.result.now ≡ length (decimal c.args.count) = ap length (c.as_bytes.ensures.value ∙ c.format.ensures.text) in
    omega (arith, short, digits)

pub returns-clause-size : goal.returns-clause-size
returns-clause-size c =
    let short = decimal_short c.args.count c.requires.some (omega arith) (below_or_above c.args.count) in
    let digits : length c.as_bytes.result.now ≡ length (decimal c.args.count) = ap length (c.as_bytes.ensures.value ∙ c.format.ensures.text) in
    omega (arith, short, digits)
