use Rattle.std.proofs.Common.{sym, ap, ◌∙◌}
use Rattle.std.specs.Option.{option_map}
use Rattle.vv_event.specs.Events.{change_of}
use Rattle.vv_core.proofs.planning_changes.plan_plain.Goals as goal

pub plan_event-requires-clause-asked : goal.plan_event-requires-clause-asked
plan_event-requires-clause-asked g c v = ap (option_map change_of) (sym c.in-Some.is) ∙ c.in-Ok.ensures v

pub plan_answer-requires-clause-answered : goal.plan_answer-requires-clause-answered
plan_answer-requires-clause-answered g c v = ap (option_map change_of) (sym c.in-None.is) ∙ c.in-Ok.ensures v
