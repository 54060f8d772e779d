use Rattle.std.proofs.Common.{◌∙◌}
use Rattle.vv_area.specs.Area.{tables_of}
use Rattle.vv_area.proofs.SpaceParts.{space_told}
use Rattle.vv_area.proofs.rules.space.space_holds.Goals as goal

pub returns : goal.returns
returns c = c.all_hold.ensures ∙ space_told (tables_of c.args.tables.now) _ _ c.in_ok-pool.ensures c.in_ok-charges.ensures
