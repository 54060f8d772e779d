use Rattle.std.proofs.Common.{◌∙◌, sym}
use Rattle.vv_core.proofs.Placed.{volume_within, place_within, by_volume, no_volume}
use Rattle.vv_core.proofs.entries.volume_place.Goals as goal

pub returns-in-Some-clause-place : goal.returns-in-Some-clause-place
returns-in-Some-clause-place c = by_volume c.args.tables.now.durable c.args.volume.0 c.args.index c.in-Some.entry c.in-Some.ensures

pub returns-in-Some-clause-within : goal.returns-in-Some-clause-within
returns-in-Some-clause-within c =
    let d = c.args.tables.now.durable in
    place_within d.geometry.pool_chunks c.in-Some.entry.place
    (λ p at. volume_within d c.lsn-well_formed.ensures.well c.args.volume.0 c.args.index p (sym (by_volume d c.args.volume.0 c.args.index c.in-Some.entry c.in-Some.ensures) ∙ at))

pub returns-in-None-clause-place : goal.returns-in-None-clause-place
returns-in-None-clause-place c = no_volume c.args.tables.now.durable c.args.volume.0 c.args.index c.in-None.ensures
