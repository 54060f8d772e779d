use Rattle.vv_area.specs.Area.{tables_of}
use Rattle.vv_area.proofs.RunParts.{clones_told}
use Rattle.vv_area.proofs.rules.clones.clones_hold.Goals as goal

pub returns : goal.returns
returns c = rw (← (clones_told (tables_of c.args.tables.now))) c.are_clones_kept.ensures
