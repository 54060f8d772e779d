use Rattle.std.proofs.Common.{◌∙◌, sym}
use Rattle.vv_core.proofs.Placed.{image_within, place_within, by_image, no_image}
use Rattle.vv_core.proofs.entries.image_place.Goals as goal

pub returns-in-Some-clause-place : goal.returns-in-Some-clause-place
returns-in-Some-clause-place c = by_image c.args.tables.now.durable c.args.task.0 c.args.index c.in-Some.entry c.in-Some.ensures

pub returns-in-Some-clause-within : goal.returns-in-Some-clause-within
returns-in-Some-clause-within c =
    let d = c.args.tables.now.durable in
    place_within d.geometry.pool_chunks c.in-Some.entry.place
    (λ p at. image_within d c.lsn-well_formed.ensures.well c.args.task.0 c.args.index p (sym (by_image d c.args.task.0 c.args.index c.in-Some.entry c.in-Some.ensures) ∙ at))

pub returns-in-None-clause-place : goal.returns-in-None-clause-place
returns-in-None-clause-place c = no_image c.args.tables.now.durable c.args.task.0 c.args.index c.in-None.ensures
