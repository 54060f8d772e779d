use Rattle.std.proofs.Common.{◌≡◌, Ok, OnOk, IfErr, sym, subst, arith}
use Rattle.vv_image.specs.Opening.{Found}
use Rattle.vv_array.specs.OpeningSteps.{IsFaultIn}
use Rattle.vv_array.proofs.OpenedSlots.{forms_read, payload_decoded}
use Rattle.vv_array.proofs.slots.replay_payload.Goals as goal

pub replay_record-requires : goal.replay_record-requires
replay_record-requires c = record { forms = forms_read c.args.payload.now c.in-Ok.read (λ i. omega (arith, c.type_inv.payload i)) c.in-Ok.ensures }

pub returns-in-Ok-clause-applied : goal.returns-in-Ok-clause-applied
returns-in-Ok-clause-applied c =
    subst (λ (x : Found). OnOk c.replay_record.result (x ≡ Ok c.replay_record.new.core.array.durable)) (sym (payload_decoded c.args.slot c.args.payload.now c.args.core.now.array.durable c.in-Ok.read c.in-Ok.ensures))
    c.replay_record.ensures.applied

pub returns-in-Ok-clause-fault : goal.returns-in-Ok-clause-fault
returns-in-Ok-clause-fault c =
    subst (λ (x : Found). IfErr c.replay_record.result (IsFaultIn x)) (sym (payload_decoded c.args.slot c.args.payload.now c.args.core.now.array.durable c.in-Ok.read c.in-Ok.ensures))
    c.replay_record.ensures.fault

pub returns-in-Err-clause-fault : goal.returns-in-Err-clause-fault
returns-in-Err-clause-fault c = c.payload_fault.ensures.fault c.args.payload.now c.args.core.now.array.durable c.in-Err.ensures
