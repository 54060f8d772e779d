use Rattle.std.proofs.Common.{false, sym, ap, ◌∙◌}
use Rattle.vv_flat.specs.Logs.{record_fits}
use Rattle.vv_event.specs.Events.{log_record}
use Rattle.vv_core.specs.Core.{CoreState}
use Rattle.vv_core.proofs.ReplayedRecords.{event_applied}
use Rattle.vv_core.proofs.array_core.Core.replay_event.Goals as goal

pub returns-in_ok-do_event-clause-replayed : goal.returns-in_ok-do_event-clause-replayed
returns-in_ok-do_event-clause-replayed c =
    let e = c.args.event.now in
    event_applied c.args.self.now.array.durable c.do_event.new.self.array.durable e
    (sym (ap (λ (k : CoreState). record_fits k.array.durable (log_record (record { first_after_open = false; event = e }))) c.self.view_is)
    ∙ sym c.in_ok-event_fits.ensures ∙ c.if-branch.true)
    c.in_ok-do_event.ensures.durable
