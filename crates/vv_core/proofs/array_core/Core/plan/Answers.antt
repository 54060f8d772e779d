use Rattle.vv_profile.specs.Known.{all_known}
use Rattle.vv_flat.specs.State.{Array}
use Rattle.vv_flat.specs.Chunks.{Entry}
use Rattle.vv_core.specs.Plans.{IsPlannedFor}
use Rattle.vv_core.proofs.PlanTexts.{ok_texts}
use Rattle.vv_core.proofs.array_core.Core.plan.Goals as goal

pub returns-clause-texts : goal.returns-clause-texts
returns-clause-texts g c =
    let a : Array Entry = record { durable = c.self.inside.tables.durable; volatile = c.self.inside.waiting } in
    ok_texts c.plan_call.result (IsPlannedFor (all_known c.args.capabilities.now) a c.args.call.now) c.plan_call.ensures.planned
    (c.have_texts.ensures (all_known c.args.capabilities.now) c.self.inside.waiting c.args.call.now)
