use Rattle.std.proofs.Common.{sym, ◌∙◌}
use Rattle.vv_flat.specs.Chunks.{shape_of_tables}
use Rattle.vv_flat.specs.Changes.{misfit_in}
use Rattle.vv_event.specs.Events.{change_of}
use Rattle.vv_profile.specs.Known.{all_known}
use Rattle.vv_judge.specs.Seen.{seen_check, seen_refusal}
use Rattle.vv_judge.proofs.Verdicts.{refuses_first, nothing_changes, limits_answer}
use Rattle.vv_judge.proofs.events.judge.Goals as goal

pub returns-in-Some : goal.returns-in-Some
returns-in-Some g c = refuses_first (misfit_in (all_known c.args.capabilities.now) (shape_of_tables c.args.tables.now.durable) (change_of c.args.event.now)) (shape_of_tables c.args.tables.now.durable) (change_of c.args.event.now) (seen_refusal c.in-Some.refusal) c.in-Some.ensures

pub returns-in-None : goal.returns-in-None
returns-in-None g c =
    nothing_changes (misfit_in (all_known c.args.capabilities.now) (shape_of_tables c.args.tables.now.durable) (change_of c.args.event.now)) (shape_of_tables c.args.tables.now.durable) (change_of c.args.event.now) c.in-None.ensures (sym c.if-would_change_nothing.true ∙ c.would_change_nothing.ensures)

pub returns-in-None-2 : goal.returns-in-None-2
returns-in-None-2 g c =
    c.verdict_on_room.ensures
    ∙ limits_answer (misfit_in (all_known c.args.capabilities.now) (shape_of_tables c.args.tables.now.durable) (change_of c.args.event.now)) (shape_of_tables c.args.tables.now.durable) (change_of c.args.event.now) (seen_check c.room_check.result) c.in-None-2.ensures (sym c.if-would_change_nothing.false ∙ c.would_change_nothing.ensures)
    (c.room_check.ensures (misfit_in (all_known c.args.capabilities.now) (shape_of_tables c.args.tables.now.durable) (change_of c.args.event.now)) c.misfit-lacks.ensures)
