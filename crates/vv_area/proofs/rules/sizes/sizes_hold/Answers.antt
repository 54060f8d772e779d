use Rattle.std.proofs.Common.{◌∙◌}
use Rattle.vv_area.specs.Area.{tables_of}
use Rattle.vv_area.proofs.RuleParts.{sizes_told}
use Rattle.vv_area.proofs.rules.sizes.sizes_hold.Goals as goal

pub returns : goal.returns
returns c = c.all_hold.ensures ∙ sizes_told (tables_of c.args.tables.now) _ _ c.volumes_have_sizes.ensures c.images_have_sizes.ensures
