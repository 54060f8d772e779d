use Rattle.std.proofs.Common.{◌≡◌, ◌+◌, ◌==◌, not, filter, true, false, List, set, find, Some, refl, sym, subst, ap, ◌∙◌, arith, length-set}
use Rattle.std.specs.Prelude.{IsSome}
use Rattle.std.specs.List.{position, position_or_len, Contains}
use Rattle.vv_pool.specs.declared.place_use.PlaceUse.TheVariants.{Counted}
use Rattle.vv_pool.specs.Pool.{with_count}
use Rattle.vv_entries.specs.Entries.{placed}
use Rattle.vv_flat.specs.Chunks.{unmapped_entry}
use Rattle.vv_flat.proofs.Positions.{found_is, position_some}
use Rattle.vv_vols.specs.declared.row.HeldRow.{HeldRow}
use Rattle.vv_vols.specs.Shelf.{held_in, entry_at, index_at, is_image_in}
use Rattle.vv_vols.specs.Calls.{with_piece, without_fresh, placed_at}
use Rattle.vv_vols.specs.Conditions.{is_new_stamp}
use Rattle.vv_vols.specs.Rows.{ShelfView, is_own, is_held_row, seen_shelf, fresh_from}
use Rattle.vv_vols.proofs.SeenPlaces.{is_fresh, fresh_kept}
use Rattle.vv_vols.proofs.Numbers.{fresh_out}
use Rattle.vv_vols.proofs.FreshPut.{mapped_stamp, new_place}
use Rattle.vv_vols.proofs.HeldRead.{held_row_found, held_of}
use Rattle.vv_vols.proofs.HeldShares.{held_put_shares}
use Rattle.vv_vols.proofs.HeldFilled.{filled_within, filled_alone, few_filled, filled_seen, filled_kept, filled_own}
use Rattle.vv_vols.proofs.GoodRooms.{good_kept}
use Rattle.vv_vols.proofs.shelf.Shelf.put_held.Goals as goal

pub held_place-place-requires : goal.held_place-place-requires
held_place-place-requires c =
    let n = c.args.held.now.number in
    subst (λ (rows : List HeldRow). IsSome (find (is_held_row n) rows)) (sym c.deref.ensures.value)
    (held_row_found c.self.inside.entries.store n c.self.inside.held.items (subst (λ (v : ShelfView). IsSome (held_in v.shelf n)) (sym c.self.view_is) c.requires.standing))

pub fill_fresh-requires-clause-of : goal.fill_fresh-requires-clause-of
fill_fresh-requires-clause-of c =
    let n = c.args.held.now.number in
    let inside = c.self.inside in
    let row = c.index_mut-row.result.now in
    let at = ap (position (is_held_row n)) (sym c.deref.ensures.value) ∙ c.held_place-place.ensures in
    let found = found_is (is_held_row n) inside.held.items c.held_place-place.result row at c.index_mut-row.ensures.value in
    held_of inside.geometry inside.entries inside.volumes.items inside.held.items inside.total inside.promised inside.volumes.cap inside.held.cap n row found c.self.invariant

pub fill_fresh-requires-clause-within : goal.fill_fresh-requires-clause-within
fill_fresh-requires-clause-within c =
    let n = c.args.held.now.number in
    let inside = c.self.inside in
    let row = c.index_mut-row.result.now in
    let at = ap (position (is_held_row n)) (sym c.deref.ensures.value) ∙ c.held_place-place.ensures in
    let found = found_is (is_held_row n) inside.held.items c.held_place-place.result row at c.index_mut-row.ensures.value in
    let unmapped : entry_at (seen_shelf inside.geometry inside.entries inside.volumes.items inside.held.items) n c.args.at ≡ Some unmapped_entry = subst (λ (v : ShelfView). entry_at v.shelf n c.args.at ≡ Some unmapped_entry) (sym c.self.view_is) c.requires.unmapped in
    filled_within inside.geometry inside.entries inside.volumes.items inside.held.items inside.total inside.promised inside.volumes.cap inside.held.cap n row found c.self.invariant c.args.at unmapped_entry unmapped

pub fill_fresh-requires-clause-alone : goal.fill_fresh-requires-clause-alone
fill_fresh-requires-clause-alone c =
    let n = c.args.held.now.number in
    let inside = c.self.inside in
    let row = c.index_mut-row.result.now in
    let at = ap (position (is_held_row n)) (sym c.deref.ensures.value) ∙ c.held_place-place.ensures in
    let found = found_is (is_held_row n) inside.held.items c.held_place-place.result row at c.index_mut-row.ensures.value in
    let unmapped : entry_at (seen_shelf inside.geometry inside.entries inside.volumes.items inside.held.items) n c.args.at ≡ Some unmapped_entry = subst (λ (v : ShelfView). entry_at v.shelf n c.args.at ≡ Some unmapped_entry) (sym c.self.view_is) c.requires.unmapped in
    filled_alone inside.geometry inside.entries inside.volumes.items inside.held.items inside.total inside.promised inside.volumes.cap inside.held.cap n row found c.self.invariant c.args.at (subst (λ (v : ShelfView). is_image_in v.shelf n ≡ false) (sym c.self.view_is) c.requires.target) (filled_within inside.geometry inside.entries inside.volumes.items inside.held.items inside.total inside.promised inside.volumes.cap inside.held.cap n row found c.self.invariant c.args.at unmapped_entry unmapped)

pub fill_fresh-requires-clause-fresh : goal.fill_fresh-requires-clause-fresh
fill_fresh-requires-clause-fresh c = is_fresh c.self.inside.entries.pool c.args.fresh (subst (λ (v : ShelfView). Contains v.shelf.fresh c.args.fresh) (sym c.self.view_is) c.requires.fresh)

pub overflow_add-row : goal.overflow_add-row
overflow_add-row c =
    let n = c.args.held.now.number in
    let inside = c.self.inside in
    let row = c.index_mut-row.result.now in
    let at = ap (position (is_held_row n)) (sym c.deref.ensures.value) ∙ c.held_place-place.ensures in
    let found = found_is (is_held_row n) inside.held.items c.held_place-place.result row at c.index_mut-row.ensures.value in
    let few = few_filled inside.geometry inside.entries inside.volumes.items inside.held.items inside.total inside.promised inside.volumes.cap inside.held.cap n row found c.self.invariant in omega arith

pub invariant_of-self : goal.invariant_of-self
invariant_of-self c =
    let n = c.args.held.now.number in
    let inside = c.self.inside in
    let row = c.index_mut-row.result.now in
    let at = ap (position (is_held_row n)) (sym c.deref.ensures.value) ∙ c.held_place-place.ensures in
    let found = found_is (is_held_row n) inside.held.items c.held_place-place.result row at c.index_mut-row.ensures.value in
    let unmapped : entry_at (seen_shelf inside.geometry inside.entries inside.volumes.items inside.held.items) n c.args.at ≡ Some unmapped_entry = subst (λ (v : ShelfView). entry_at v.shelf n c.args.at ≡ Some unmapped_entry) (sym c.self.view_is) c.requires.unmapped in
    let pool = inside.entries.pool in
    let p = c.args.fresh in
    let e = placed p c.args.stamp in
    let ens = c.fill_fresh.ensures in
    let is_stamp : is_new_stamp (seen_shelf inside.geometry inside.entries inside.volumes.items inside.held.items) (index_at (seen_shelf inside.geometry inside.entries inside.volumes.items inside.held.items) n c.args.at) c.args.stamp ≡ true = subst (λ (v : ShelfView). is_new_stamp v.shelf (index_at v.shelf n c.args.at) c.args.stamp ≡ true) (sym c.self.view_is) c.requires.stamp in
    let is_place = is_fresh pool p (subst (λ (v : ShelfView). Contains v.shelf.fresh p) (sym c.self.view_is) c.requires.fresh) in
    let places = ens.pool.size ∙ length-set pool.places p (Counted 1) in
    let fresh_is = fresh_kept (with_count pool p 1) c.fill_fresh.new.self.pool ens.pool ∙ fresh_out pool.places p 1 in
    let row' : HeldRow = record { number = row.number; map = c.fill_fresh.new.map; indexes = row.indexes; is_image = row.is_image; allocated = row.allocated + 1 } in
    let rows' : List HeldRow = set inside.held.items c.held_place-place.result row' in
    let place = position_some (is_held_row n) inside.held.items c.held_place-place.result at in
    let is : rows' ≡ set inside.held.items (position_or_len (is_held_row n) inside.held.items) row' = ap (λ k. set inside.held.items k row') (sym place.0) in
    filled_kept inside.geometry inside.entries inside.volumes.items inside.held.items inside.total inside.promised inside.volumes.cap inside.held.cap n row found c.self.invariant c.fill_fresh.new.self rows' c.fill_fresh.new.map (row.allocated + 1) c.args.at e is unmapped (mapped_stamp (seen_shelf inside.geometry inside.entries inside.volumes.items inside.held.items) (index_at (seen_shelf inside.geometry inside.entries inside.volumes.items inside.held.items) n c.args.at) c.args.stamp is_stamp) ens.list ens.same ens.of ens.others places ens.pool.reserved (filter (λ q. not (q == p)) (fresh_from 0 pool.places)) fresh_is refl
    (held_put_shares (seen_shelf inside.geometry inside.entries inside.volumes.items inside.held.items) c.self.invariant.lists.shares n c.args.at p c.args.stamp (new_place inside.geometry inside.entries inside.volumes.items inside.held.items inside.total inside.promised inside.volumes.cap inside.held.cap c.self.invariant p c.pool-counts.ensures.counted is_place) is_stamp)

pub returns-clause-shelf : goal.returns-clause-shelf
returns-clause-shelf c =
    let n = c.args.held.now.number in
    let inside = c.self.inside in
    let row = c.index_mut-row.result.now in
    let at = ap (position (is_held_row n)) (sym c.deref.ensures.value) ∙ c.held_place-place.ensures in
    let found = found_is (is_held_row n) inside.held.items c.held_place-place.result row at c.index_mut-row.ensures.value in
    let unmapped : entry_at (seen_shelf inside.geometry inside.entries inside.volumes.items inside.held.items) n c.args.at ≡ Some unmapped_entry = subst (λ (v : ShelfView). entry_at v.shelf n c.args.at ≡ Some unmapped_entry) (sym c.self.view_is) c.requires.unmapped in
    let pool = inside.entries.pool in
    let p = c.args.fresh in
    let e = placed p c.args.stamp in
    let ens = c.fill_fresh.ensures in
    let is_stamp : is_new_stamp (seen_shelf inside.geometry inside.entries inside.volumes.items inside.held.items) (index_at (seen_shelf inside.geometry inside.entries inside.volumes.items inside.held.items) n c.args.at) c.args.stamp ≡ true = subst (λ (v : ShelfView). is_new_stamp v.shelf (index_at v.shelf n c.args.at) c.args.stamp ≡ true) (sym c.self.view_is) c.requires.stamp in
    let is_place = is_fresh pool p (subst (λ (v : ShelfView). Contains v.shelf.fresh p) (sym c.self.view_is) c.requires.fresh) in
    let places = ens.pool.size ∙ length-set pool.places p (Counted 1) in
    let fresh_is = fresh_kept (with_count pool p 1) c.fill_fresh.new.self.pool ens.pool ∙ fresh_out pool.places p 1 in
    let row' : HeldRow = record { number = row.number; map = c.fill_fresh.new.map; indexes = row.indexes; is_image = row.is_image; allocated = row.allocated + 1 } in
    let rows' : List HeldRow = set inside.held.items c.held_place-place.result row' in
    let place = position_some (is_held_row n) inside.held.items c.held_place-place.result at in
    let is : rows' ≡ set inside.held.items (position_or_len (is_held_row n) inside.held.items) row' = ap (λ k. set inside.held.items k row') (sym place.0) in
    filled_seen inside.geometry inside.entries inside.volumes.items inside.held.items inside.total inside.promised inside.volumes.cap inside.held.cap n row found c.self.invariant c.fill_fresh.new.self rows' c.fill_fresh.new.map (row.allocated + 1) c.args.at e is unmapped (mapped_stamp (seen_shelf inside.geometry inside.entries inside.volumes.items inside.held.items) (index_at (seen_shelf inside.geometry inside.entries inside.volumes.items inside.held.items) n c.args.at) c.args.stamp is_stamp) ens.list ens.same ens.of ens.others places ens.pool.reserved (filter (λ q. not (q == p)) (fresh_from 0 pool.places)) fresh_is refl
    ∙ ap (λ (v : ShelfView). with_piece (without_fresh v.shelf p) n c.args.at (placed_at p c.args.stamp)) c.self.view_is

pub returns-clause-kept : goal.returns-clause-kept
returns-clause-kept c = λ v k own.
    let n = c.args.held.now.number in
    let inside = c.self.inside in
    let row = c.index_mut-row.result.now in
    let at = ap (position (is_held_row n)) (sym c.deref.ensures.value) ∙ c.held_place-place.ensures in
    let found = found_is (is_held_row n) inside.held.items c.held_place-place.result row at c.index_mut-row.ensures.value in
    let unmapped : entry_at (seen_shelf inside.geometry inside.entries inside.volumes.items inside.held.items) n c.args.at ≡ Some unmapped_entry = subst (λ (v : ShelfView). entry_at v.shelf n c.args.at ≡ Some unmapped_entry) (sym c.self.view_is) c.requires.unmapped in
    let pool = inside.entries.pool in
    let p = c.args.fresh in
    let e = placed p c.args.stamp in
    let ens = c.fill_fresh.ensures in
    let is_stamp : is_new_stamp (seen_shelf inside.geometry inside.entries inside.volumes.items inside.held.items) (index_at (seen_shelf inside.geometry inside.entries inside.volumes.items inside.held.items) n c.args.at) c.args.stamp ≡ true = subst (λ (v : ShelfView). is_new_stamp v.shelf (index_at v.shelf n c.args.at) c.args.stamp ≡ true) (sym c.self.view_is) c.requires.stamp in
    let is_place = is_fresh pool p (subst (λ (v : ShelfView). Contains v.shelf.fresh p) (sym c.self.view_is) c.requires.fresh) in
    let places = ens.pool.size ∙ length-set pool.places p (Counted 1) in
    let fresh_is = fresh_kept (with_count pool p 1) c.fill_fresh.new.self.pool ens.pool ∙ fresh_out pool.places p 1 in
    let row' : HeldRow = record { number = row.number; map = c.fill_fresh.new.map; indexes = row.indexes; is_image = row.is_image; allocated = row.allocated + 1 } in
    let rows' : List HeldRow = set inside.held.items c.held_place-place.result row' in
    let place = position_some (is_held_row n) inside.held.items c.held_place-place.result at in
    let is : rows' ≡ set inside.held.items (position_or_len (is_held_row n) inside.held.items) row' = ap (λ k. set inside.held.items k row') (sym place.0) in
    filled_own inside.geometry inside.entries inside.volumes.items inside.held.items inside.total inside.promised inside.volumes.cap inside.held.cap n row found c.self.invariant c.fill_fresh.new.self rows' c.fill_fresh.new.map (row.allocated + 1) c.args.at e is unmapped (mapped_stamp (seen_shelf inside.geometry inside.entries inside.volumes.items inside.held.items) (index_at (seen_shelf inside.geometry inside.entries inside.volumes.items inside.held.items) n c.args.at) c.args.stamp is_stamp) ens.list ens.same ens.of ens.others places ens.pool.reserved (filter (λ q. not (q == p)) (fresh_from 0 pool.places)) fresh_is refl v k (ap (λ (w : ShelfView). is_own w v k) c.self.view_is ∙ own)

pub returns-clause-others : goal.returns-clause-others
returns-clause-others c = λ given good.
    good_kept c.args.self.now _ given (returns-clause-kept c) (sym (ap (λ (v : ShelfView). v.rooms) c.self.view_is)) good
