use Rattle.std.proofs.Common.{arith, ap, ◌∙◌}
use Rattle.vv_rules.specs.Least.{sooner}
use Rattle.vv_rules.specs.Rows.{is_mixed_key, least_wrong}
use Rattle.vv_rules.proofs.Neighbours.{wrong_goes_on, wrong_ends}
use Rattle.vv_rules.proofs.rows.least_mixed_key.Goals as goal

pub loop-i-preserved : goal.loop-i-preserved
loop-i-preserved c =
    wrong_goes_on is_mixed_key c.args.rows.now c.loop-i.i _ c.loop-i.least c.sooner-least.result (least_wrong is_mixed_key c.args.rows.now)
    c.loop-i.auto.i c.loop-i-test.true c.loop-i.invariant (c.sooner-least.ensures ∙ ap (sooner c.loop-i.least) c.mixed_key.ensures)

pub returns : goal.returns
returns c = wrong_ends is_mixed_key c.args.rows.now c.loop-i.i c.loop-i.least (least_wrong is_mixed_key c.args.rows.now) (omega arith) c.loop-i.invariant
