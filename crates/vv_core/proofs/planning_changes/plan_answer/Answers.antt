use Rattle.std.proofs.Common.{sym, ◌∙◌}
use Rattle.vv_flat.specs.State.{empty_volatile}
use Rattle.vv_flat.specs.Chunks.{shape_of_tables}
use Rattle.vv_plan.specs.Plans.{with_volatile}
use Rattle.vv_profile.specs.Known.{all_known}
use Rattle.vv_core.proofs.DeedPlans.{settled_call, settled_fault}
use Rattle.vv_core.proofs.PlainPlans.{answer_settled}
use Rattle.vv_core.proofs.PlainRows.{one_is_told}
use Rattle.vv_core.proofs.planning_changes.plan_answer.Goals as goal

pub unreachable-requires : goal.unreachable-requires
unreachable-requires g c =
    one_is_told (with_volatile (shape_of_tables c.args.tables.now.durable) empty_volatile) c.args.call.now c.requires.plain (c.requires.answered empty_volatile)
    (sym c.in-None.is ∙ c.in-Ok.ensures empty_volatile)

pub returns-clause-planned : goal.returns-clause-planned
returns-clause-planned g c v =
    settled_call (all_known c.args.capabilities.now) (record { durable = c.args.tables.now.durable; volatile = v }) c.args.call.now c.in-Some.answer
    (answer_settled (all_known c.args.capabilities.now) c.args.tables.now.durable v c.args.call.now c.in-Some.answer (sym c.in-Some.is ∙ c.in-Ok.ensures v)) c.settle.result c.settle.ensures.planned

pub returns-clause-refused : goal.returns-clause-refused
returns-clause-refused g c v =
    settled_fault (all_known c.args.capabilities.now) (record { durable = c.args.tables.now.durable; volatile = v }) c.args.call.now c.in-Some.answer
    (answer_settled (all_known c.args.capabilities.now) c.args.tables.now.durable v c.args.call.now c.in-Some.answer (sym c.in-Some.is ∙ c.in-Ok.ensures v)) c.settle.result c.settle.ensures.refused
