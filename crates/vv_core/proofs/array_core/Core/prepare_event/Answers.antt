use Rattle.std.proofs.Common.{false, ap, ◌∙◌}
use Rattle.vv_flat.specs.Logs.{record_fits}
use Rattle.vv_event.specs.Events.{log_record}
use Rattle.vv_core.specs.Core.{CoreState}
use Rattle.vv_core.proofs.EventRooms.{event_fits, event_room, memory_back}
use Rattle.vv_core.proofs.array_core.Core.prepare_event.Goals as goal

pub prepare-requires-clause-fits : goal.prepare-requires-clause-fits
prepare-requires-clause-fits c =
    event_fits c.self.inside.tables.durable c.args.event.now
    (ap (λ (k : CoreState). record_fits k.array.durable (log_record (record { first_after_open = false; event = c.args.event.now }))) c.self.view_is ∙ c.requires.fits)

pub returns-clause-room : goal.returns-clause-room
returns-clause-room c =
    event_room c.self.inside.tables c.prepare.new.tables c.self.inside.waiting c.args.call.now c.args.event.now c.in_ok-step.step c.in_ok-change.change
    c.in_ok-change.ensures.same c.in_ok-step.ensures.can c.in_ok-step.ensures.step
    (ap (λ (k : CoreState). record_fits k.array.durable (log_record (record { first_after_open = false; event = c.args.event.now }))) c.self.view_is ∙ c.requires.fits)
    c.requires.forms c.in_ok-change.ensures.room

pub returns-clause-memory : goal.returns-clause-memory
returns-clause-memory c =
    memory_back c.self.inside.tables c.prepare.new.tables c.in_ok-change.change c.in_ok-change.ensures.ok ∙ ap (λ (k : CoreState). k.memory) c.self.view_is
