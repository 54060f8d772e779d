use Rattle.std.proofs.Common.{◌≡◌, ap, ◌∙◌}
use Rattle.vv_flat.specs.State.{Durable, Volatile}
use Rattle.vv_flat.specs.Chunks.{Entry}
use Rattle.vv_laws.specs.VolatileForm.{has_volatile_form}
use Rattle.vv_tables.specs.Seen.{TablesView}
use Rattle.vv_core.specs.Core.{CoreState}
use Rattle.vv_core.specs.Rooms.{RoomState}
use Rattle.vv_core.specs.declared.step.WaitingStep.{WaitingStep}
use Rattle.vv_core.proofs.WaitingSteps.{stepped_form, can_seen}
use Rattle.vv_core.proofs.array_core.Core.pass.Goals as goal

pub invariant_of-self : goal.invariant_of-self
invariant_of-self c =
    let d : Durable Entry = c.self.inside.tables.durable in
    let v : Volatile = c.self.inside.waiting in
    let s : WaitingStep = c.room.inside.step in
    let same : v ≡ c.args.self.now.array.volatile = ap (λ (k : CoreState). k.array.volatile) c.self.view_is in
    let is : s ≡ c.args.room.step = ap (λ (r : RoomState). r.step) c.room.view_is in
    ap (λ (t : TablesView). has_volatile_form (record { durable = t.durable; volatile = c.do_step.new.waiting })) c.give_up.ensures
    ∙ ap (λ (w : Volatile). has_volatile_form (record { durable = d; volatile = w })) c.do_step.ensures
    ∙ stepped_form d v s (can_seen v c.args.self.now.array.volatile s c.args.room.step same is c.requires.room.can) c.self.invariant
