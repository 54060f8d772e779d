use Rattle.std.proofs.Common.{◌∙◌, arith}
use Rattle.vv_core.proofs.AreaFits.{area_spelled, area_fits}
use Rattle.vv_core.proofs.area.tables_len.Goals as goal

pub returns-clause-all : goal.returns-clause-all
returns-clause-all c = c.area_len.ensures ∙ area_spelled c.args.tables.now.durable c.lsn-well_formed.ensures.well

pub returns-clause-fits : goal.returns-clause-fits
returns-clause-fits c = omega (arith, c.area_len.ensures, area_fits c.args.tables.now.durable c.lsn-well_formed.ensures.well)
