use Rattle.std.proofs.Common.{◌∙◌}
use Rattle.vv_area.specs.Area.{tables_of}
use Rattle.vv_area.proofs.RunParts.{copies_told}
use Rattle.vv_area.proofs.rules.copies.copies_hold.Goals as goal

pub returns : goal.returns
returns c = c.all_hold.ensures ∙ copies_told (tables_of c.args.tables.now) _ _ _ c.in_ok-kept.ensures c.in_ok-differ.ensures c.are_tasks_done.ensures
