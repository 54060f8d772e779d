use Rattle.std.proofs.Common.{◌≡◌, ◌≤◌, [], ◌∷◌, true, sym, subst, ap, ◌∙◌}
use Rattle.vv_pool.specs.Pool.{with_fresh}
use Rattle.vv_entries.specs.Entries.{EntriesState, with_pool}
use Rattle.vv_vols.specs.Shelf.{is_shelf_free}
use Rattle.vv_vols.specs.Places.{shelf_free, with_taken}
use Rattle.vv_vols.specs.Rows.{ShelfView, seen_view}
use Rattle.vv_vols.proofs.FreePlaces.{free_number, free_told}
use Rattle.vv_vols.proofs.PlaceCalls.{on_true, one_taken}
use Rattle.vv_vols.proofs.shelf.Shelf.take_at.Goals as goal

pub take_at-requires-clause-some : goal.take_at-requires-clause-some
take_at-requires-clause-some c =
    let inside = c.self.inside in
    let same = free_number inside.geometry inside.entries inside.volumes.items inside.held.items inside.total inside.promised inside.volumes.cap inside.held.cap c.pool-counts.ensures.counted c.self.invariant
    ∙ ap (λ (v : ShelfView). shelf_free v.shelf) c.self.view_is in
    subst (λ n. 1 ≤ n) (sym same) c.requires.some

pub returns-clause-free : goal.returns-clause-free
returns-clause-free c =
    let inside = c.self.inside in
    free_told inside.geometry inside.entries inside.volumes.items inside.held.items inside.total inside.promised inside.volumes.cap inside.held.cap c.pool-counts.ensures.counted c.self.invariant c.take_at.result c.args.place.0 c.take_at.ensures.free
    ∙ ap (λ (v : ShelfView). is_shelf_free v.shelf c.args.place.0) c.self.view_is

pub returns-clause-taken : goal.returns-clause-taken
returns-clause-taken c =
    let inside = c.self.inside in
    on_true c.take_at.result _ _
    (λ (yes : c.take_at.result ≡ true) (is : c.take_at.new.self ≡ with_pool inside.entries (with_fresh inside.entries.pool (c.args.place.0 ∷ []))).
    ap (λ (e : EntriesState). seen_view inside.geometry e inside.volumes.items inside.held.items inside.promised) is
    ∙ one_taken inside.geometry inside.entries inside.volumes.items inside.held.items inside.total inside.promised inside.volumes.cap inside.held.cap c.self.invariant c.args.place.0 (c.take_at.ensures.free.0 yes)
    ∙ ap (λ (v : ShelfView). record v { shelf = with_taken v.shelf (c.args.place.0 ∷ []) }) c.self.view_is)
    c.take_at.ensures.taken
