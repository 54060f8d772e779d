use Rattle.std.proofs.Common.{◌-◌, refl, sym, subst, ap, ◌∙◌}
use Rattle.vv_pool.specs.Pool.{with_reserved}
use Rattle.vv_entries.specs.Entries.{EntriesState}
use Rattle.vv_vols.specs.Calls.{with_reserve}
use Rattle.vv_vols.specs.Rows.{ShelfView, seen_view, IsShelf}
use Rattle.vv_vols.proofs.PoolKept.{pool_kept}
use Rattle.vv_vols.proofs.shelf.Shelf.unreserve.Goals as goal

pub invariant_of-self : goal.invariant_of-self
invariant_of-self c =
    let inside = c.self.inside in
    subst (λ (e : EntriesState). IsShelf inside.geometry e inside.volumes.items inside.held.items inside.total inside.promised inside.volumes.cap inside.held.cap) (sym c.unreserve.ensures.reserved)
    (pool_kept inside.geometry inside.entries (with_reserved inside.entries.pool (inside.entries.pool.reserved - c.args.n)) inside.volumes.items inside.held.items inside.total inside.promised inside.volumes.cap inside.held.cap refl c.self.invariant)

pub returns : goal.returns
returns c =
    let inside = c.self.inside in
    ap (λ (e : EntriesState). seen_view inside.geometry e inside.volumes.items inside.held.items inside.promised) c.unreserve.ensures.reserved
    ∙ ap (λ (v : ShelfView). record v { shelf = with_reserve v.shelf (v.shelf.reserved - c.args.n) }) c.self.view_is
