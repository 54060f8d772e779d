use Rattle.std.proofs.Common.{◌≡◌, length, sym, ap, ◌∙◌}
use Rattle.vv_pool.specs.Pool.{lowest_places, with_fresh}
use Rattle.vv_pool.specs.FreshPlaces.{appended}
use Rattle.vv_entries.specs.Entries.{EntriesState, with_pool}
use Rattle.vv_vols.specs.Places.{lowest_of, place_room_for, with_taken}
use Rattle.vv_vols.specs.Rows.{ShelfView, seen_view, IsShelf}
use Rattle.vv_vols.proofs.PlaceCalls.{on_ok, either, taken_kept, lowest_seen, lowest_taken, room_seen}
use Rattle.vv_vols.proofs.shelf.Shelf.take.Goals as goal

pub invariant_of-self : goal.invariant_of-self
invariant_of-self c =
    let inside = c.self.inside in
    either c.take.result c.take.new.self (with_pool inside.entries (with_fresh inside.entries.pool (lowest_places inside.entries.pool c.args.n))) inside.entries
    (λ (e : EntriesState). IsShelf inside.geometry e inside.volumes.items inside.held.items inside.total inside.promised inside.volumes.cap inside.held.cap)
    c.take.ensures.taken c.take.ensures.err
    (taken_kept inside.geometry inside.entries inside.volumes.items inside.held.items inside.total inside.promised inside.volumes.cap inside.held.cap c.self.invariant (lowest_places inside.entries.pool c.args.n)) c.self.invariant

pub returns-clause-room : goal.returns-clause-room
returns-clause-room c =
    let inside = c.self.inside in
    c.take.ensures.room
    ∙ room_seen inside.geometry inside.entries inside.volumes.items inside.held.items inside.total inside.promised inside.volumes.cap inside.held.cap c.self.invariant c.pool-counts.ensures.counted c.args.n
    ∙ ap (λ (v : ShelfView). place_room_for v.shelf c.args.n) c.self.view_is

pub returns-clause-taken : goal.returns-clause-taken
returns-clause-taken c =
    let inside = c.self.inside in
    on_ok c.take.result _ _
    (λ (is : c.take.new.self ≡ with_pool inside.entries (with_fresh inside.entries.pool (lowest_places inside.entries.pool c.args.n))).
    ap (λ (e : EntriesState). seen_view inside.geometry e inside.volumes.items inside.held.items inside.promised) is
    ∙ lowest_taken inside.geometry inside.entries inside.volumes.items inside.held.items inside.total inside.promised inside.volumes.cap inside.held.cap c.self.invariant c.pool-counts.ensures.counted c.args.n
    ∙ ap (λ (v : ShelfView). record v { shelf = with_taken v.shelf (lowest_of v.shelf c.args.n) }) c.self.view_is)
    c.take.ensures.taken

pub returns-clause-count : goal.returns-clause-count
returns-clause-count c =
    let inside = c.self.inside in
    let lowest = lowest_seen inside.geometry inside.entries inside.volumes.items inside.held.items inside.total inside.promised inside.volumes.cap inside.held.cap c.self.invariant c.pool-counts.ensures.counted c.args.n
    ∙ ap (λ (v : ShelfView). lowest_of v.shelf c.args.n) c.self.view_is in
    on_ok c.take.result _ _ (λ (is : length (lowest_places inside.entries.pool c.args.n) ≡ c.args.n). ap length (sym lowest) ∙ is) c.take.ensures.count

pub returns-clause-out : goal.returns-clause-out
returns-clause-out c =
    let inside = c.self.inside in
    let lowest = lowest_seen inside.geometry inside.entries inside.volumes.items inside.held.items inside.total inside.promised inside.volumes.cap inside.held.cap c.self.invariant c.pool-counts.ensures.counted c.args.n
    ∙ ap (λ (v : ShelfView). lowest_of v.shelf c.args.n) c.self.view_is in
    on_ok c.take.result _ _ (λ (is : c.take.new.out ≡ appended c.args.out.now (lowest_places inside.entries.pool c.args.n)). is ∙ ap (appended c.args.out.now) lowest) c.take.ensures.out
