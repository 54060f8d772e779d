use Rattle.std.proofs.Common.{◌<◌, ◌^◌, arith}
use Rattle.vv_spell.proofs.Pieces.{spellable, length_fits}
use Rattle.vv_spell.proofs.area.has_length.Goals as goal

pub returns-clause-spellable : goal.returns-clause-spellable
returns-clause-spellable c = spellable c.args.tables.now.durable c.lsn-well_formed.ensures.well

pub returns-clause-fits : goal.returns-clause-fits
returns-clause-fits c =
    let few : c.args.tables.now.durable.geometry.map_chunks < 2 ^ 32 = omega (arith, c.args.tables.now.durable.geometry.map_to) in
    length_fits c.args.tables.now.durable c.lsn-well_formed.ensures.well few
