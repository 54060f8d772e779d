use Rattle.std.proofs.Common.{arith}
use Rattle.vv_rules.proofs.Neighbours.{rising_goes_on, rising_ends}
use Rattle.vv_rules.proofs.numbers.all_rising.Goals as goal

pub loop-i-preserved : goal.loop-i-preserved
loop-i-preserved c = rising_goes_on c.args.numbers.now c.loop-i.i c.loop-i.auto.i c.loop-i-test.true c.loop-i.invariant (omega arith)

pub returns : goal.returns
returns c = rising_ends c.args.numbers.now c.loop-i.i (omega arith) c.loop-i.invariant
