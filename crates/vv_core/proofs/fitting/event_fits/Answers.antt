use Rattle.std.proofs.Common.{false, sym, ◌∙◌}
use Rattle.vv_flat.specs.Logs.{record_fits}
use Rattle.vv_event.specs.Events.{log_record}
use Rattle.vv_core.specs.Replays.{has_its_places}
use Rattle.vv_core.proofs.FittingEvents.{accepted_fits, refused_fits, told_by}
use Rattle.vv_core.proofs.fitting.event_fits.Goals as goal

pub returns-then-is_accepted : goal.returns-then-is_accepted
returns-then-is_accepted c =
    let d = c.args.tables.now.durable in
    let e = c.args.event.now in
    told_by c.has_its_places.result (has_its_places d e) (record_fits d (log_record (record { first_after_open = false; event = e })))
    (accepted_fits d e (sym c.is_accepted.ensures ∙ c.if-is_accepted.true)) c.has_its_places.ensures

pub returns-else-is_accepted : goal.returns-else-is_accepted
returns-else-is_accepted c = refused_fits c.args.tables.now.durable c.args.event.now (sym c.is_accepted.ensures ∙ c.if-is_accepted.false)
