use Rattle.vv_area.specs.Area.{tables_of}
use Rattle.vv_restore.proofs.ReadTables.{read_formed, read_forms}
use Rattle.vv_restore.proofs.reading.restore_read.Goals as goal

pub restore-requires-clause-formed : goal.restore-requires-clause-formed
restore-requires-clause-formed c =
    let read = c.requires.read in
    read_formed read.0 read.1 read.2 (tables_of c.args.raw.now) read.3 read.4

pub restore-requires-clause-forms : goal.restore-requires-clause-forms
restore-requires-clause-forms c =
    let read = c.requires.read in
    read_forms read.0 read.1 read.2 (tables_of c.args.raw.now) read.3 read.4
