use Rattle.std.proofs.Common.{◌∙◌}
use Rattle.vv_area.specs.Area.{tables_of}
use Rattle.vv_area.proofs.RunParts.{bindings_told}
use Rattle.vv_area.proofs.rules.bindings.bindings_hold.Goals as goal

pub returns : goal.returns
returns c = c.all_hold.ensures ∙ bindings_told (tables_of c.args.tables.now) _ _ _ c.are_bindings_placed.ensures c.in_ok-single.ensures c.are_targets_unbound.ensures
