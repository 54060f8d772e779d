use Rattle.vv_core.proofs.PlacedEvents.{plain_placed}
use Rattle.vv_core.proofs.placing.is_placed.Goals as goal

pub returns : goal.returns
returns c =
    plain_placed c.args.tables.now.durable c.args.event.now c.lsn-well_formed.ensures.well c.requires.accepted c.requires.none c.requires.places c.requires.indexes c.requires.forms
    c.requires.spellable
