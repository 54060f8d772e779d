use Rattle.std.proofs.Common.{ap, sym, ◌∙◌}
use Rattle.std.specs.Prelude.{is_none}
use Rattle.vv_plan.proofs.AskedBits.{missing_is}
use Rattle.vv_plan.proofs.bitmaps.is_missing.Goals as goal

pub returns-in-Some : goal.returns-in-Some
returns-in-Some c = sym (ap (λ o. is_none o) c.in-Some.is) ∙ missing_is c.args.tables.now.durable c.args.id.0 _ c.volume.result c.volume.ensures

pub returns-in-None : goal.returns-in-None
returns-in-None c = sym (ap (λ o. is_none o) c.in-None.is) ∙ missing_is c.args.tables.now.durable c.args.id.0 _ c.volume.result c.volume.ensures
