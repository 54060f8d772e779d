use Rattle.std.proofs.Common.{ap, ◌∙◌}
use Rattle.vv_vols.specs.Places.{place_room_for}
use Rattle.vv_vols.specs.Rows.{ShelfView}
use Rattle.vv_vols.proofs.PlaceCalls.{room_seen}
use Rattle.vv_vols.proofs.shelf.Shelf.reserve.Goals as goal

pub returns-clause-room : goal.returns-clause-room
returns-clause-room c =
    let inside = c.self.inside in
    c.reserve.ensures.room
    ∙ room_seen inside.geometry inside.entries inside.volumes.items inside.held.items inside.total inside.promised inside.volumes.cap inside.held.cap c.self.invariant c.pool-counts.ensures.counted c.args.n
    ∙ ap (λ (v : ShelfView). place_room_for v.shelf c.args.n) c.self.view_is
