use Rattle.std.proofs.Common.{◌-◌, length, sym, subst, ap, ◌∙◌}
use Rattle.vv_pool.specs.Pool.{lowest_places, with_fresh}
use Rattle.vv_pool.specs.FreshPlaces.{appended}
use Rattle.vv_entries.specs.Entries.{EntriesState, with_pool}
use Rattle.vv_vols.specs.Calls.{with_reserve}
use Rattle.vv_vols.specs.Places.{lowest_of, with_taken}
use Rattle.vv_vols.specs.Rows.{ShelfView, seen_view, IsShelf}
use Rattle.vv_vols.proofs.PlaceCalls.{taken_kept, reserved_kept, lowest_seen, lowest_taken}
use Rattle.vv_vols.proofs.shelf.Shelf.take_reserved.Goals as goal

pub invariant_of-self : goal.invariant_of-self
invariant_of-self c =
    let inside = c.self.inside in
    let pool = with_fresh inside.entries.pool (lowest_places inside.entries.pool c.args.n) in
    subst (λ (e : EntriesState). IsShelf inside.geometry e inside.volumes.items inside.held.items inside.total inside.promised inside.volumes.cap inside.held.cap) (sym c.take_reserved.ensures.taken)
    (reserved_kept inside.geometry (with_pool inside.entries pool) inside.volumes.items inside.held.items inside.total inside.promised inside.volumes.cap inside.held.cap
    (taken_kept inside.geometry inside.entries inside.volumes.items inside.held.items inside.total inside.promised inside.volumes.cap inside.held.cap c.self.invariant (lowest_places inside.entries.pool c.args.n)) (inside.entries.pool.reserved - c.args.n))

pub returns-clause-taken : goal.returns-clause-taken
returns-clause-taken c =
    let inside = c.self.inside in
    ap (λ (e : EntriesState). seen_view inside.geometry e inside.volumes.items inside.held.items inside.promised) c.take_reserved.ensures.taken
    ∙ ap (λ (v : ShelfView). record v { shelf = with_reserve v.shelf (inside.entries.pool.reserved - c.args.n) })
    (lowest_taken inside.geometry inside.entries inside.volumes.items inside.held.items inside.total inside.promised inside.volumes.cap inside.held.cap c.self.invariant c.pool-counts.ensures.counted c.args.n)
    ∙ ap (λ (v : ShelfView). record v { shelf = with_reserve (with_taken v.shelf (lowest_of v.shelf c.args.n)) (v.shelf.reserved - c.args.n) }) c.self.view_is

pub returns-clause-count : goal.returns-clause-count
returns-clause-count c =
    let inside = c.self.inside in
    let lowest = lowest_seen inside.geometry inside.entries inside.volumes.items inside.held.items inside.total inside.promised inside.volumes.cap inside.held.cap c.self.invariant c.pool-counts.ensures.counted c.args.n
    ∙ ap (λ (v : ShelfView). lowest_of v.shelf c.args.n) c.self.view_is in
    ap length (sym lowest) ∙ c.take_reserved.ensures.count

pub returns-clause-out : goal.returns-clause-out
returns-clause-out c =
    let inside = c.self.inside in
    let lowest = lowest_seen inside.geometry inside.entries inside.volumes.items inside.held.items inside.total inside.promised inside.volumes.cap inside.held.cap c.self.invariant c.pool-counts.ensures.counted c.args.n
    ∙ ap (λ (v : ShelfView). lowest_of v.shelf c.args.n) c.self.view_is in
    c.take_reserved.ensures.out ∙ ap (appended c.args.out.now) lowest
