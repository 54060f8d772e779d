use Rattle.vv_array.proofs.OpenedSlots.{bad_payload}
use Rattle.vv_array.proofs.slots.payload_fault.Goals as goal

pub returns-else-at-gt-PAYLOAD_LIMIT-clause-fault : goal.returns-else-at-gt-PAYLOAD_LIMIT-clause-fault
returns-else-at-gt-PAYLOAD_LIMIT-clause-fault c = λ payload tables spells.
    bad_payload c.args.slot c.in-Bad.at payload tables c.args.fault c.damaged.result c.in-Bad.is c.damaged.ensures.fault spells
