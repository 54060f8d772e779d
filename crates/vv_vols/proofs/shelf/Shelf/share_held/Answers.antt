use Rattle.std.proofs.Common.{◌≡◌, ◌+◌, false, List, [], ◌∷◌, set, find, Some, refl, sym, subst, ap, ◌∙◌, arith}
use Rattle.std.specs.Prelude.{IsSome}
use Rattle.std.specs.List.{position, position_or_len}
use Rattle.vv_map.specs.Pages.{list_of}
use Rattle.vv_entries.specs.declared.entry.Entry.{Entry as PlacedEntry}
use Rattle.vv_entries.specs.Entries.{placed}
use Rattle.vv_entries.specs.Changes.{AreCounted}
use Rattle.vv_flat.specs.Chunks.{unmapped_entry}
use Rattle.vv_flat.proofs.Positions.{found_is, position_some}
use Rattle.vv_vols.specs.declared.row.HeldRow.{HeldRow}
use Rattle.vv_vols.specs.Shelf.{held_in, entry_at, index_at, is_image_in}
use Rattle.vv_vols.specs.Calls.{with_piece, placed_at}
use Rattle.vv_vols.specs.Conditions.{Stands}
use Rattle.vv_vols.specs.Rows.{ShelfView, is_own, is_held_row, seen_shelf, fresh_from}
use Rattle.vv_vols.proofs.SeenPlaces.{fresh_kept}
use Rattle.vv_vols.proofs.StandsCounted.{entry_counted, stands_stamped}
use Rattle.vv_vols.proofs.HeldRead.{held_row_found, held_of}
use Rattle.vv_vols.proofs.HeldShares.{held_stands_shares}
use Rattle.vv_vols.proofs.HeldFilled.{filled_within, filled_alone, few_filled, filled_seen, filled_kept, filled_own}
use Rattle.vv_vols.proofs.GoodRooms.{good_kept}
use Rattle.vv_vols.proofs.shelf.Shelf.share_held.Goals as goal

pub held_place-position-requires : goal.held_place-position-requires
held_place-position-requires g c =
    let n = c.args.held.now.number in
    subst (λ (rows : List HeldRow). IsSome (find (is_held_row n) rows)) (sym c.deref.ensures.value)
    (held_row_found c.self.inside.entries.store n c.self.inside.held.items (subst (λ (v : ShelfView). IsSome (held_in v.shelf n)) (sym c.self.view_is) c.requires.standing))

pub fill_shared-requires-clause-of : goal.fill_shared-requires-clause-of
fill_shared-requires-clause-of g c =
    let n = c.args.held.now.number in
    let inside = c.self.inside in
    let row = c.index_mut-row.result.now in
    let at = ap (position (is_held_row n)) (sym c.deref.ensures.value) ∙ c.held_place-position.ensures in
    let found = found_is (is_held_row n) inside.held.items c.held_place-position.result row at c.index_mut-row.ensures.value in
    held_of inside.geometry inside.entries inside.volumes.items inside.held.items inside.total inside.promised inside.volumes.cap inside.held.cap n row found c.self.invariant

pub fill_shared-requires-clause-within : goal.fill_shared-requires-clause-within
fill_shared-requires-clause-within g c =
    let n = c.args.held.now.number in
    let inside = c.self.inside in
    let row = c.index_mut-row.result.now in
    let at = ap (position (is_held_row n)) (sym c.deref.ensures.value) ∙ c.held_place-position.ensures in
    let found = found_is (is_held_row n) inside.held.items c.held_place-position.result row at c.index_mut-row.ensures.value in
    let unmapped : entry_at (seen_shelf inside.geometry inside.entries inside.volumes.items inside.held.items) n c.args.at ≡ Some unmapped_entry = subst (λ (v : ShelfView). entry_at v.shelf n c.args.at ≡ Some unmapped_entry) (sym c.self.view_is) c.requires.unmapped in
    filled_within inside.geometry inside.entries inside.volumes.items inside.held.items inside.total inside.promised inside.volumes.cap inside.held.cap n row found c.self.invariant c.args.at unmapped_entry unmapped

pub fill_shared-requires-clause-alone : goal.fill_shared-requires-clause-alone
fill_shared-requires-clause-alone g c =
    let n = c.args.held.now.number in
    let inside = c.self.inside in
    let row = c.index_mut-row.result.now in
    let at = ap (position (is_held_row n)) (sym c.deref.ensures.value) ∙ c.held_place-position.ensures in
    let found = found_is (is_held_row n) inside.held.items c.held_place-position.result row at c.index_mut-row.ensures.value in
    let unmapped : entry_at (seen_shelf inside.geometry inside.entries inside.volumes.items inside.held.items) n c.args.at ≡ Some unmapped_entry = subst (λ (v : ShelfView). entry_at v.shelf n c.args.at ≡ Some unmapped_entry) (sym c.self.view_is) c.requires.unmapped in
    filled_alone inside.geometry inside.entries inside.volumes.items inside.held.items inside.total inside.promised inside.volumes.cap inside.held.cap n row found c.self.invariant c.args.at (subst (λ (v : ShelfView). is_image_in v.shelf n ≡ false) (sym c.self.view_is) c.requires.target) (filled_within inside.geometry inside.entries inside.volumes.items inside.held.items inside.total inside.promised inside.volumes.cap inside.held.cap n row found c.self.invariant c.args.at unmapped_entry unmapped)

pub fill_shared-requires-clause-counted : goal.fill_shared-requires-clause-counted
fill_shared-requires-clause-counted g c =
    let n = c.args.held.now.number in
    let inside = c.self.inside in
    let row = c.index_mut-row.result.now in
    let at = ap (position (is_held_row n)) (sym c.deref.ensures.value) ∙ c.held_place-position.ensures in
    let found = found_is (is_held_row n) inside.held.items c.held_place-position.result row at c.index_mut-row.ensures.value in
    let p = c.args.place.0 in
    let e = placed p c.args.stamp in
    let stands : Stands (seen_shelf inside.geometry inside.entries inside.volumes.items inside.held.items) (record { index = index_at (seen_shelf inside.geometry inside.entries inside.volumes.items inside.held.items) n c.args.at; chunk = placed_at p c.args.stamp }) = subst (λ (v : ShelfView). Stands v.shelf (record { index = index_at v.shelf n c.args.at; chunk = placed_at p c.args.stamp })) (sym c.self.view_is) c.requires.stands in
    subst (λ (x : PlacedEntry). AreCounted inside.entries.pool (x ∷ [])) (sym c.placed-entry.ensures)
    (entry_counted inside.geometry inside.entries inside.volumes.items inside.held.items inside.total inside.promised inside.volumes.cap inside.held.cap c.self.invariant (index_at (seen_shelf inside.geometry inside.entries inside.volumes.items inside.held.items) n c.args.at) e c.pool-counts.ensures.counted stands)

pub overflow_add-row : goal.overflow_add-row
overflow_add-row g c =
    let n = c.args.held.now.number in
    let inside = c.self.inside in
    let row = c.index_mut-row.result.now in
    let at = ap (position (is_held_row n)) (sym c.deref.ensures.value) ∙ c.held_place-position.ensures in
    let found = found_is (is_held_row n) inside.held.items c.held_place-position.result row at c.index_mut-row.ensures.value in
    let few = few_filled inside.geometry inside.entries inside.volumes.items inside.held.items inside.total inside.promised inside.volumes.cap inside.held.cap n row found c.self.invariant in omega arith

pub invariant_of-self : goal.invariant_of-self
invariant_of-self g c =
    let n = c.args.held.now.number in
    let inside = c.self.inside in
    let row = c.index_mut-row.result.now in
    let at = ap (position (is_held_row n)) (sym c.deref.ensures.value) ∙ c.held_place-position.ensures in
    let found = found_is (is_held_row n) inside.held.items c.held_place-position.result row at c.index_mut-row.ensures.value in
    let unmapped : entry_at (seen_shelf inside.geometry inside.entries inside.volumes.items inside.held.items) n c.args.at ≡ Some unmapped_entry = subst (λ (v : ShelfView). entry_at v.shelf n c.args.at ≡ Some unmapped_entry) (sym c.self.view_is) c.requires.unmapped in
    let p = c.args.place.0 in
    let e = placed p c.args.stamp in
    let stands : Stands (seen_shelf inside.geometry inside.entries inside.volumes.items inside.held.items) (record { index = index_at (seen_shelf inside.geometry inside.entries inside.volumes.items inside.held.items) n c.args.at; chunk = placed_at p c.args.stamp }) = subst (λ (v : ShelfView). Stands v.shelf (record { index = index_at v.shelf n c.args.at; chunk = placed_at p c.args.stamp })) (sym c.self.view_is) c.requires.stands in
    let ens = c.fill_shared.ensures in
    let list : list_of c.fill_shared.new.self.store c.fill_shared.new.map ≡ set (list_of inside.entries.store row.map) c.args.at e = ens.list ∙ ap (λ (x : PlacedEntry). set (list_of inside.entries.store row.map) c.args.at x) c.placed-entry.ensures in
    let fresh_is = fresh_kept inside.entries.pool c.fill_shared.new.self.pool ens.pool in
    let row' : HeldRow = record { number = row.number; map = c.fill_shared.new.map; indexes = row.indexes; is_image = row.is_image; allocated = row.allocated + 1 } in
    let rows' : List HeldRow = set inside.held.items c.held_place-position.result row' in
    let place = position_some (is_held_row n) inside.held.items c.held_place-position.result at in
    let is : rows' ≡ set inside.held.items (position_or_len (is_held_row n) inside.held.items) row' = ap (λ k. set inside.held.items k row') (sym place.0) in
    filled_kept inside.geometry inside.entries inside.volumes.items inside.held.items inside.total inside.promised inside.volumes.cap inside.held.cap n row found c.self.invariant c.fill_shared.new.self rows' c.fill_shared.new.map (row.allocated + 1) c.args.at e is unmapped (stands_stamped (seen_shelf inside.geometry inside.entries inside.volumes.items inside.held.items) (index_at (seen_shelf inside.geometry inside.entries inside.volumes.items inside.held.items) n c.args.at) p c.args.stamp c.self.invariant.lists.shares stands) list ens.same ens.of ens.others ens.pool.size ens.pool.reserved (fresh_from 0 inside.entries.pool.places) fresh_is refl
    (held_stands_shares (seen_shelf inside.geometry inside.entries inside.volumes.items inside.held.items) c.self.invariant.lists.shares n c.args.at (placed_at p c.args.stamp) stands)

pub returns-clause-shelf : goal.returns-clause-shelf
returns-clause-shelf g c =
    let n = c.args.held.now.number in
    let inside = c.self.inside in
    let row = c.index_mut-row.result.now in
    let at = ap (position (is_held_row n)) (sym c.deref.ensures.value) ∙ c.held_place-position.ensures in
    let found = found_is (is_held_row n) inside.held.items c.held_place-position.result row at c.index_mut-row.ensures.value in
    let unmapped : entry_at (seen_shelf inside.geometry inside.entries inside.volumes.items inside.held.items) n c.args.at ≡ Some unmapped_entry = subst (λ (v : ShelfView). entry_at v.shelf n c.args.at ≡ Some unmapped_entry) (sym c.self.view_is) c.requires.unmapped in
    let p = c.args.place.0 in
    let e = placed p c.args.stamp in
    let stands : Stands (seen_shelf inside.geometry inside.entries inside.volumes.items inside.held.items) (record { index = index_at (seen_shelf inside.geometry inside.entries inside.volumes.items inside.held.items) n c.args.at; chunk = placed_at p c.args.stamp }) = subst (λ (v : ShelfView). Stands v.shelf (record { index = index_at v.shelf n c.args.at; chunk = placed_at p c.args.stamp })) (sym c.self.view_is) c.requires.stands in
    let ens = c.fill_shared.ensures in
    let list : list_of c.fill_shared.new.self.store c.fill_shared.new.map ≡ set (list_of inside.entries.store row.map) c.args.at e = ens.list ∙ ap (λ (x : PlacedEntry). set (list_of inside.entries.store row.map) c.args.at x) c.placed-entry.ensures in
    let fresh_is = fresh_kept inside.entries.pool c.fill_shared.new.self.pool ens.pool in
    let row' : HeldRow = record { number = row.number; map = c.fill_shared.new.map; indexes = row.indexes; is_image = row.is_image; allocated = row.allocated + 1 } in
    let rows' : List HeldRow = set inside.held.items c.held_place-position.result row' in
    let place = position_some (is_held_row n) inside.held.items c.held_place-position.result at in
    let is : rows' ≡ set inside.held.items (position_or_len (is_held_row n) inside.held.items) row' = ap (λ k. set inside.held.items k row') (sym place.0) in
    filled_seen inside.geometry inside.entries inside.volumes.items inside.held.items inside.total inside.promised inside.volumes.cap inside.held.cap n row found c.self.invariant c.fill_shared.new.self rows' c.fill_shared.new.map (row.allocated + 1) c.args.at e is unmapped (stands_stamped (seen_shelf inside.geometry inside.entries inside.volumes.items inside.held.items) (index_at (seen_shelf inside.geometry inside.entries inside.volumes.items inside.held.items) n c.args.at) p c.args.stamp c.self.invariant.lists.shares stands) list ens.same ens.of ens.others ens.pool.size ens.pool.reserved (fresh_from 0 inside.entries.pool.places) fresh_is refl
    ∙ ap (λ (v : ShelfView). with_piece v.shelf n c.args.at (placed_at p c.args.stamp)) c.self.view_is

pub returns-clause-kept : goal.returns-clause-kept
returns-clause-kept g c = λ v k own.
    let n = c.args.held.now.number in
    let inside = c.self.inside in
    let row = c.index_mut-row.result.now in
    let at = ap (position (is_held_row n)) (sym c.deref.ensures.value) ∙ c.held_place-position.ensures in
    let found = found_is (is_held_row n) inside.held.items c.held_place-position.result row at c.index_mut-row.ensures.value in
    let unmapped : entry_at (seen_shelf inside.geometry inside.entries inside.volumes.items inside.held.items) n c.args.at ≡ Some unmapped_entry = subst (λ (v : ShelfView). entry_at v.shelf n c.args.at ≡ Some unmapped_entry) (sym c.self.view_is) c.requires.unmapped in
    let p = c.args.place.0 in
    let e = placed p c.args.stamp in
    let stands : Stands (seen_shelf inside.geometry inside.entries inside.volumes.items inside.held.items) (record { index = index_at (seen_shelf inside.geometry inside.entries inside.volumes.items inside.held.items) n c.args.at; chunk = placed_at p c.args.stamp }) = subst (λ (v : ShelfView). Stands v.shelf (record { index = index_at v.shelf n c.args.at; chunk = placed_at p c.args.stamp })) (sym c.self.view_is) c.requires.stands in
    let ens = c.fill_shared.ensures in
    let list : list_of c.fill_shared.new.self.store c.fill_shared.new.map ≡ set (list_of inside.entries.store row.map) c.args.at e = ens.list ∙ ap (λ (x : PlacedEntry). set (list_of inside.entries.store row.map) c.args.at x) c.placed-entry.ensures in
    let fresh_is = fresh_kept inside.entries.pool c.fill_shared.new.self.pool ens.pool in
    let row' : HeldRow = record { number = row.number; map = c.fill_shared.new.map; indexes = row.indexes; is_image = row.is_image; allocated = row.allocated + 1 } in
    let rows' : List HeldRow = set inside.held.items c.held_place-position.result row' in
    let place = position_some (is_held_row n) inside.held.items c.held_place-position.result at in
    let is : rows' ≡ set inside.held.items (position_or_len (is_held_row n) inside.held.items) row' = ap (λ k. set inside.held.items k row') (sym place.0) in
    filled_own inside.geometry inside.entries inside.volumes.items inside.held.items inside.total inside.promised inside.volumes.cap inside.held.cap n row found c.self.invariant c.fill_shared.new.self rows' c.fill_shared.new.map (row.allocated + 1) c.args.at e is unmapped (stands_stamped (seen_shelf inside.geometry inside.entries inside.volumes.items inside.held.items) (index_at (seen_shelf inside.geometry inside.entries inside.volumes.items inside.held.items) n c.args.at) p c.args.stamp c.self.invariant.lists.shares stands) list ens.same ens.of ens.others ens.pool.size ens.pool.reserved (fresh_from 0 inside.entries.pool.places) fresh_is refl v k (ap (λ (w : ShelfView). is_own w v k) c.self.view_is ∙ own)

pub returns-clause-others : goal.returns-clause-others
returns-clause-others g c = λ given good.
    good_kept c.args.self.now _ given (returns-clause-kept g c) (sym (ap (λ (v : ShelfView). v.rooms) c.self.view_is)) good
