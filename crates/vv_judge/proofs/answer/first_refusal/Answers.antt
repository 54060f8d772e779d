use Rattle.std.proofs.Common.{◌<◌, ◌≤◌, length, sym, ◌∙◌, arith}
use Rattle.vv_judge.proofs.Orders.{ends_there, goes_on, all_pass}
use Rattle.vv_judge.proofs.answer.first_refusal.Goals as goal

pub returns-then-is_some : goal.returns-then-is_some
returns-then-is_some c =
    let h : c.loop-check.check-index < length c.args.checks.now = omega arith in
    sym (ends_there c.loop-check.check-index c.args.checks.now h (sym c.is_some.ensures ∙ c.if-is_some.true)) ∙ c.loop-check.invariant

pub loop-check-preserved : goal.loop-check-preserved
loop-check-preserved c =
    let h : c.loop-check.check-index < length c.args.checks.now = omega arith in
    sym (goes_on c.loop-check.check-index c.args.checks.now h (sym c.is_some.ensures ∙ c.if-is_some.false)) ∙ c.loop-check.invariant

pub returns : goal.returns
returns c =
    let h : length c.args.checks.now ≤ c.loop-check.check-index = omega arith in
    sym (all_pass c.loop-check.check-index c.args.checks.now h) ∙ c.loop-check.invariant
