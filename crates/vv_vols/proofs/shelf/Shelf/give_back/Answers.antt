use Rattle.std.proofs.Common.{ℕ, List, sym, subst, ap, ◌∙◌, length-set}
use Rattle.std.specs.List.{Contains}
use Rattle.vv_pool.specs.declared.place_use.PlaceUse.TheVariants.{Counted}
use Rattle.vv_pool.specs.Pool.{with_count}
use Rattle.vv_entries.specs.Entries.{EntriesState}
use Rattle.vv_vols.specs.Calls.{without_fresh}
use Rattle.vv_vols.specs.Rows.{ShelfView, seen_shelf, seen_view, IsShelf}
use Rattle.vv_vols.proofs.SeenPlaces.{is_fresh}
use Rattle.vv_vols.proofs.Numbers.{fresh_out}
use Rattle.vv_vols.proofs.PoolKept.{pool_kept}
use Rattle.vv_vols.proofs.shelf.Shelf.give_back.Goals as goal

pub give_back-requires : goal.give_back-requires
give_back-requires c = is_fresh c.self.inside.entries.pool c.args.fresh (subst (λ (v : ShelfView). Contains v.shelf.fresh c.args.fresh) (sym c.self.view_is) c.requires)

pub invariant_of-self : goal.invariant_of-self
invariant_of-self c =
    let inside = c.self.inside in
    subst (λ (e : EntriesState). IsShelf inside.geometry e inside.volumes.items inside.held.items inside.total inside.promised inside.volumes.cap inside.held.cap) (sym c.give_back.ensures)
    (pool_kept inside.geometry inside.entries (with_count inside.entries.pool c.args.fresh 0) inside.volumes.items inside.held.items inside.total inside.promised inside.volumes.cap inside.held.cap
    (length-set inside.entries.pool.places c.args.fresh (Counted 0)) c.self.invariant)

pub returns : goal.returns
returns c =
    let inside = c.self.inside in
    ap (λ (e : EntriesState). seen_view inside.geometry e inside.volumes.items inside.held.items inside.promised) c.give_back.ensures
    ∙ ap (λ (fs : List ℕ). let v = seen_view inside.geometry inside.entries inside.volumes.items inside.held.items inside.promised in let w : ShelfView = record v { shelf = record (seen_shelf inside.geometry inside.entries inside.volumes.items inside.held.items) { fresh = fs } } in w) (fresh_out inside.entries.pool.places c.args.fresh 0)
    ∙ ap (λ (v : ShelfView). record v { shelf = without_fresh v.shelf c.args.fresh }) c.self.view_is
