use Rattle.std.proofs.Common.{sym, subst}
use Rattle.vv_vols.specs.Places.{IsPoolOf}
use Rattle.vv_vols.specs.Rows.{ShelfView, seen_shelf}
use Rattle.vv_vols.proofs.FreePlaces.{pool_of}
use Rattle.vv_vols.proofs.shelf.Shelf.pool.Goals as goal

pub returns : goal.returns
returns c =
    let inside = c.self.inside in
    subst (λ (v : ShelfView). IsPoolOf v.shelf c.pool.result.now) c.self.view_is
    (subst (IsPoolOf (seen_shelf inside.geometry inside.entries inside.volumes.items inside.held.items)) (sym c.pool.ensures.pool)
    (pool_of inside.geometry inside.entries inside.volumes.items inside.held.items inside.total inside.promised inside.volumes.cap inside.held.cap c.pool.ensures.counted c.self.invariant))
