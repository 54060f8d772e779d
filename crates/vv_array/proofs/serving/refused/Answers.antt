-- A call that is refused: where there was memory, what it is answered is settled.
use Rattle.vv_array.proofs.ServedCalls.{refusal_plain}
use Rattle.vv_array.proofs.serving.refused.Goals as goal

pub returns-in_default-clause-told : goal.returns-in_default-clause-told
returns-in_default-clause-told c = λ capabilities plan.
    c.answered.ensures.told (refusal_plain capabilities c.args.core.now.array c.args.call.now c.args.refusal c.in_default.not-NoMemory plan)
