use Rattle.std.proofs.Common.{◌≡◌, ℕ, List, IfSome}
use Rattle.vv_array.specs.OpeningSteps.{IsFaultIn, slots_found}
use Rattle.vv_array.proofs.OnlyReading.{err_then}
use Rattle.vv_array.proofs.OpenedArea.{fault_told_as}
use Rattle.vv_array.proofs.OpenedSlots.{passed_shut, slot_wrong, passed_open, payload_fails}
use Rattle.vv_array.proofs.slots.replay_next.Goals as goal

pub returns-in-Closed-clause-passed : goal.returns-in-Closed-clause-passed
returns-in-Closed-clause-passed g c =
    passed_shut c.args.journal.now c.read_slot.new.into c.args.core.now.array.durable (g.D.Disk.content c.args.disk.now) c.in_ok-read.read c.in-Closed.is c.requires.room c.in_ok-read.ensures.slot

pub returns-in-Bad-clause-fault : goal.returns-in-Bad-clause-fault
returns-in-Bad-clause-fault g c =
    slot_wrong c.args.journal.now c.read_slot.new.into c.args.core.now.array.durable (g.D.Disk.content c.args.disk.now) c.args.slot c.damaged.result c.in_ok-read.read c.in-Bad.is c.requires.room c.requires.slot c.damaged.ensures.fault c.in_ok-read.ensures.slot

pub returns-in_ok-replay_payload-in-Payload-clause-passed : goal.returns-in_ok-replay_payload-in-Payload-clause-passed
returns-in_ok-replay_payload-in-Payload-clause-passed g c =
    passed_open c.args.journal.now c.in-Payload.len c.read_slot.new.into c.args.core.now.array.durable c.replay_payload.new.core.array.durable (g.D.Disk.content c.args.disk.now) c.args.slot c.in_ok-read.read c.in-Payload.is
    c.requires.room c.requires.slot c.in_ok-read.ensures.slot c.in_ok-replay_payload-in-Payload.ensures.applied

pub returns-in_err-replay_payload-in-Payload-clause-fault : goal.returns-in_err-replay_payload-in-Payload-clause-fault
returns-in_err-replay_payload-in-Payload-clause-fault g c =
    let told = g.D.Disk.content c.args.disk.now in
    err_then c.from_residual-in_err-replay_payload-in-Payload.result (λ e. e ≡ c.in_err-replay_payload-in-Payload.field-0.0) (λ e. IfSome told (λ (d : List ℕ). IsFaultIn (slots_found c.args.journal.now d c.args.core.now.array.durable) e))
    (λ e is. fault_told_as told (λ (d : List ℕ). slots_found c.args.journal.now d c.args.core.now.array.durable) c.in_err-replay_payload-in-Payload.field-0.0 e is
    (payload_fails c.args.journal.now c.in-Payload.len c.read_slot.new.into c.args.core.now.array.durable told c.args.slot c.in_err-replay_payload-in-Payload.field-0.0 c.in_ok-read.read c.in-Payload.is
    c.requires.room c.requires.slot c.in_ok-read.ensures.slot c.in_err-replay_payload-in-Payload.ensures.fault)) c.from_residual-in_err-replay_payload-in-Payload.ensures.1
