use Rattle.std.proofs.Common.{◌≡◌, false, ap, ◌∙◌}
use Rattle.vv_flat.specs.State.{Durable, empty_volatile}
use Rattle.vv_flat.specs.Chunks.{Entry}
use Rattle.vv_flat.specs.Logs.{record_fits, has_turn_indexes}
use Rattle.vv_flat.specs.Replay.{fits}
use Rattle.vv_event.specs.Events.{log_record, change_of, places_of, indexes_of}
use Rattle.vv_core.specs.Core.{CoreState}
use Rattle.vv_core.proofs.EventRooms.{event_fits, turn_fits}
use Rattle.vv_core.proofs.ReplayedRecords.{form_of_nothing}
use Rattle.vv_core.proofs.array_core.Core.do_event.Goals as goal

pub prepare-requires-clause-fits : goal.prepare-requires-clause-fits
prepare-requires-clause-fits c =
    event_fits c.self.inside.tables.durable c.args.event.now
    (ap (λ (k : CoreState). record_fits k.array.durable (log_record (record { first_after_open = false; event = c.args.event.now }))) c.self.view_is ∙ c.requires.fits)

pub apply_uncounted-requires-clause-fits : goal.apply_uncounted-requires-clause-fits
apply_uncounted-requires-clause-fits c =
    let e = c.args.event.now in
    ap (λ (d : Durable Entry). fits d (change_of e) (places_of e)) c.in_ok-room.ensures.same
    ∙ event_fits c.self.inside.tables.durable e
    (ap (λ (k : CoreState). record_fits k.array.durable (log_record (record { first_after_open = false; event = e }))) c.self.view_is ∙ c.requires.fits)

pub apply_uncounted-requires-clause-indexes : goal.apply_uncounted-requires-clause-indexes
apply_uncounted-requires-clause-indexes c =
    let e = c.args.event.now in
    ap (λ (d : Durable Entry). has_turn_indexes d (change_of e) (indexes_of e)) c.in_ok-room.ensures.same
    ∙ turn_fits c.self.inside.tables.durable e
    (ap (λ (k : CoreState). record_fits k.array.durable (log_record (record { first_after_open = false; event = e }))) c.self.view_is ∙ c.requires.fits)

pub invariant_of-self-2 : goal.invariant_of-self-2
invariant_of-self-2 c =
    let none : c.self.inside.waiting ≡ empty_volatile = ap (λ (k : CoreState). k.array.volatile) c.self.view_is ∙ c.requires.waiting in
    form_of_nothing c.apply_uncounted.new.tables.durable c.self.inside.waiting none
