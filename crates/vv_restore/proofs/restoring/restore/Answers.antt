use Rattle.vv_area.specs.Area.{tables_of}
use Rattle.vv_restore.proofs.RuledTables.{ruled_well}
use Rattle.vv_restore.proofs.restoring.restore.Goals as goal

pub restore_well_formed-requires : goal.restore_well_formed-requires
restore_well_formed-requires c = ruled_well (tables_of c.args.raw.now) c.requires.formed c.requires.forms c.in_ok-rules.ensures
