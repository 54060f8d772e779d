use Rattle.vv_core.proofs.EventForms.{event_forms}
use Rattle.vv_core.proofs.event_forms.has_forms.Goals as goal

pub returns-clause-forms : goal.returns-clause-forms
returns-clause-forms c = (event_forms c.args.tables.now.durable c.args.event.now c.lsn-well_formed.ensures.well c.is_typed.ensures c.requires.formed c.requires.accepted).forms

pub returns-clause-spellable : goal.returns-clause-spellable
returns-clause-spellable c = (event_forms c.args.tables.now.durable c.args.event.now c.lsn-well_formed.ensures.well c.is_typed.ensures c.requires.formed c.requires.accepted).spellable
