use Rattle.std.proofs.Common.{◌≡◌, ◌<◌, ◌≤◌, ◌/◌, ◌==◌, not, filter, true, false, List, set, get_or, sym, subst, ap, ◌∙◌, arith, length-set}
use Rattle.std.specs.Prelude.{IsSome}
use Rattle.std.specs.List.{find, position, Contains}
use Rattle.vv_map.specs.Pages.{list_of}
use Rattle.vv_map.proofs.MapLemmas.{page_within}
use Rattle.vv_pool.specs.declared.place_use.PlaceUse.TheVariants.{Counted}
use Rattle.vv_pool.specs.Pool.{with_count}
use Rattle.vv_entries.specs.Entries.{placed}
use Rattle.vv_vols.specs.declared.row.VolumeRow.{VolumeRow}
use Rattle.vv_vols.specs.Shelf.{volume_in, size_in}
use Rattle.vv_vols.specs.Calls.{with_put}
use Rattle.vv_vols.specs.Conditions.{is_new_stamp}
use Rattle.vv_vols.specs.Rows.{ShelfView, RoomView, is_own, is_row, seen_shelf, seen_view, own_pages, fresh_from}
use Rattle.vv_vols.proofs.SeenShelf.{row_found}
use Rattle.vv_vols.proofs.SeenPlaces.{fresh_kept, is_fresh}
use Rattle.vv_vols.proofs.Kept.{put_shares}
use Rattle.vv_vols.proofs.RowCalls.{row_allocated}
use Rattle.vv_vols.proofs.OwnKept.{list_len, shared_is, own_is}
use Rattle.vv_vols.proofs.Numbers.{allocated_put, page_left, fresh_out}
use Rattle.vv_vols.proofs.FreshPut.{new_place, mapped_stamp, few_allocated}
use Rattle.vv_vols.proofs.WrittenRow.{here_of, here_size, here_own, written_seen, written_kept, written_own_kept, written_own}
use Rattle.vv_vols.proofs.GoodRooms.{one_page, good_written}
use Rattle.vv_vols.proofs.shelf.Shelf.put_fresh.Goals as goal

pub place_of-at-requires : goal.place_of-at-requires
place_of-at-requires g c =
    subst (λ (rows : List VolumeRow). IsSome (find (is_row c.args.id.0) rows)) (sym c.deref.ensures.value)
    (row_found c.self.inside.entries.store c.args.id.0 c.self.inside.volumes.items
    (subst (λ (s : ShelfView). IsSome (volume_in s.shelf c.args.id.0)) (sym c.self.view_is) c.requires.standing))

pub get-before-requires-clause-of : goal.get-before-requires-clause-of
get-before-requires-clause-of g c =
    let inside = c.self.inside in
    let at = ap (position (is_row c.args.id.0)) (sym c.deref.ensures.value) ∙ c.place_of-at.ensures in
    here_of inside.geometry inside.entries inside.volumes.items inside.held.items inside.total inside.promised inside.volumes.cap inside.held.cap c.place_of-at.result c.args.id.0 c.index_mut-row.result.now at c.index_mut-row.ensures.value c.self.invariant

pub get-before-requires-clause-within : goal.get-before-requires-clause-within
get-before-requires-clause-within g c =
    let inside = c.self.inside in
    let at = ap (position (is_row c.args.id.0)) (sym c.deref.ensures.value) ∙ c.place_of-at.ensures in
    let within : c.args.index < c.index_mut-row.result.now.map.len = subst (λ k. c.args.index < k) (ap (λ (v : ShelfView). size_in v.shelf c.args.id.0) (sym c.self.view_is) ∙ here_size inside.geometry inside.entries inside.volumes.items inside.held.items inside.total inside.promised inside.volumes.cap inside.held.cap c.place_of-at.result c.args.id.0 c.index_mut-row.result.now at c.index_mut-row.ensures.value c.self.invariant) c.requires.within in
    within

pub put_fresh-requires-clause-of : goal.put_fresh-requires-clause-of
put_fresh-requires-clause-of g c =
    let inside = c.self.inside in
    let at = ap (position (is_row c.args.id.0)) (sym c.deref.ensures.value) ∙ c.place_of-at.ensures in
    here_of inside.geometry inside.entries inside.volumes.items inside.held.items inside.total inside.promised inside.volumes.cap inside.held.cap c.place_of-at.result c.args.id.0 c.index_mut-row.result.now at c.index_mut-row.ensures.value c.self.invariant

pub put_fresh-requires-clause-within : goal.put_fresh-requires-clause-within
put_fresh-requires-clause-within g c =
    let inside = c.self.inside in
    let at = ap (position (is_row c.args.id.0)) (sym c.deref.ensures.value) ∙ c.place_of-at.ensures in
    let within : c.args.index < c.index_mut-row.result.now.map.len = subst (λ k. c.args.index < k) (ap (λ (v : ShelfView). size_in v.shelf c.args.id.0) (sym c.self.view_is) ∙ here_size inside.geometry inside.entries inside.volumes.items inside.held.items inside.total inside.promised inside.volumes.cap inside.held.cap c.place_of-at.result c.args.id.0 c.index_mut-row.result.now at c.index_mut-row.ensures.value c.self.invariant) c.requires.within in
    within

pub put_fresh-requires-clause-fresh : goal.put_fresh-requires-clause-fresh
put_fresh-requires-clause-fresh g c =
    is_fresh c.self.inside.entries.pool c.args.fresh (subst (λ (v : ShelfView). Contains v.shelf.fresh c.args.fresh) (sym c.self.view_is) c.requires.fresh)

pub put_fresh-requires-clause-room : goal.put_fresh-requires-clause-room
put_fresh-requires-clause-room g c =
    let inside = c.self.inside in
    let at = ap (position (is_row c.args.id.0)) (sym c.deref.ensures.value) ∙ c.place_of-at.ensures in
    let within : c.args.index < c.index_mut-row.result.now.map.len = subst (λ k. c.args.index < k) (ap (λ (v : ShelfView). size_in v.shelf c.args.id.0) (sym c.self.view_is) ∙ here_size inside.geometry inside.entries inside.volumes.items inside.held.items inside.total inside.promised inside.volumes.cap inside.held.cap c.place_of-at.result c.args.id.0 c.index_mut-row.result.now at c.index_mut-row.ensures.value c.self.invariant) c.requires.within in
    let of = here_of inside.geometry inside.entries inside.volumes.items inside.held.items inside.total inside.promised inside.volumes.cap inside.held.cap c.place_of-at.result c.args.id.0 c.index_mut-row.result.now at c.index_mut-row.ensures.value c.self.invariant in
    let place = page_within inside.entries.store c.index_mut-row.result.now.map of c.args.index within in
    λ two. subst (λ (r : RoomView). 1 ≤ r.pages) (sym c.room.view_is) (one_page c.args.self.now c.args.id.0 c.args.index c.args.room.now c.requires.room
    (ap (λ (v : ShelfView). is_own v c.args.id.0 (c.args.index / 64)) (sym c.self.view_is) ∙ here_own inside.geometry inside.entries inside.volumes.items inside.held.items inside.total inside.promised inside.volumes.cap inside.held.cap c.place_of-at.result c.args.id.0 c.index_mut-row.result.now at c.index_mut-row.ensures.value c.self.invariant (c.args.index / 64)
    ∙ shared_is inside.entries.store c.index_mut-row.result.now.map (c.args.index / 64) of place two))

pub put_fresh-requires-clause-unused : goal.put_fresh-requires-clause-unused
put_fresh-requires-clause-unused g c =
    let inside = c.self.inside in
    page_left inside.geometry inside.entries inside.volumes.items inside.held.items inside.total inside.promised inside.volumes.cap inside.held.cap c.self.invariant _

pub counted-row-requires : goal.counted-row-requires
counted-row-requires g c =
    let inside = c.self.inside in
    let at = ap (position (is_row c.args.id.0)) (sym c.deref.ensures.value) ∙ c.place_of-at.ensures in
    let few = few_allocated inside.geometry inside.entries inside.volumes.items inside.held.items inside.total inside.promised inside.volumes.cap inside.held.cap c.place_of-at.result c.args.id.0 c.index_mut-row.result.now at c.index_mut-row.ensures.value c.self.invariant in
    omega arith

pub invariant_of-self : goal.invariant_of-self
invariant_of-self g c =
    let inside = c.self.inside in
    let at = ap (position (is_row c.args.id.0)) (sym c.deref.ensures.value) ∙ c.place_of-at.ensures in
    let within : c.args.index < c.index_mut-row.result.now.map.len = subst (λ k. c.args.index < k) (ap (λ (v : ShelfView). size_in v.shelf c.args.id.0) (sym c.self.view_is) ∙ here_size inside.geometry inside.entries inside.volumes.items inside.held.items inside.total inside.promised inside.volumes.cap inside.held.cap c.place_of-at.result c.args.id.0 c.index_mut-row.result.now at c.index_mut-row.ensures.value c.self.invariant) c.requires.within in
    let pool = inside.entries.pool in
    let p = c.args.fresh in
    let e = placed p c.args.stamp in
    let ens = c.put_fresh.ensures in
    let is_stamp : is_new_stamp (seen_shelf inside.geometry inside.entries inside.volumes.items inside.held.items) c.args.index c.args.stamp ≡ true = subst (λ (v : ShelfView). is_new_stamp v.shelf c.args.index c.args.stamp ≡ true) (sym c.self.view_is) c.requires.stamp in
    let is_place = is_fresh pool p (subst (λ (v : ShelfView). Contains v.shelf.fresh p) (sym c.self.view_is) c.requires.fresh) in
    let places = ens.pool.size ∙ length-set pool.places p (Counted 1) in
    let fresh_is = fresh_kept (with_count pool p 1) c.put_fresh.new.self.pool ens.pool ∙ fresh_out pool.places p 1 in
    let of = here_of inside.geometry inside.entries inside.volumes.items inside.held.items inside.total inside.promised inside.volumes.cap inside.held.cap c.place_of-at.result c.args.id.0 c.index_mut-row.result.now at c.index_mut-row.ensures.value c.self.invariant in
    let size = list_len inside.entries.store c.index_mut-row.result.now.map of in
    let allocated = allocated_put (list_of inside.entries.store c.index_mut-row.result.now.map) c.args.index c.index_mut-row.result.now.allocated c.counted-row.result e c.get-before.result (omega arith) c.get-before.ensures
    (mapped_stamp (seen_shelf inside.geometry inside.entries inside.volumes.items inside.held.items) c.args.index c.args.stamp is_stamp)
    (row_allocated inside.geometry inside.entries inside.volumes.items inside.held.items inside.total c.place_of-at.result c.args.id.0 c.index_mut-row.result.now c.index_mut-row.result.now at c.index_mut-row.ensures.value c.self.invariant.lists)
    c.counted-row.ensures in
    written_kept inside.geometry inside.entries inside.volumes.items inside.held.items inside.total inside.promised inside.volumes.cap inside.held.cap c.place_of-at.result c.args.id.0 c.index_mut-row.result.now at c.index_mut-row.ensures.value c.self.invariant c.put_fresh.new.self c.put_fresh.new.map c.counted-row.result c.args.index e within ens.list ens.len ens.of ens.others ens.taken ens.alone ens.pages places ens.pool.reserved (filter (λ q. not (q == p)) (fresh_from 0 pool.places)) fresh_is allocated
    (put_shares (seen_shelf inside.geometry inside.entries inside.volumes.items inside.held.items) c.self.invariant.lists.shares c.args.id.0 c.args.index p c.args.stamp
    (new_place inside.geometry inside.entries inside.volumes.items inside.held.items inside.total inside.promised inside.volumes.cap inside.held.cap c.self.invariant p c.pool-counts.ensures.counted is_place) is_stamp)

pub returns-clause-shelf : goal.returns-clause-shelf
returns-clause-shelf g c =
    let inside = c.self.inside in
    let at = ap (position (is_row c.args.id.0)) (sym c.deref.ensures.value) ∙ c.place_of-at.ensures in
    let within : c.args.index < c.index_mut-row.result.now.map.len = subst (λ k. c.args.index < k) (ap (λ (v : ShelfView). size_in v.shelf c.args.id.0) (sym c.self.view_is) ∙ here_size inside.geometry inside.entries inside.volumes.items inside.held.items inside.total inside.promised inside.volumes.cap inside.held.cap c.place_of-at.result c.args.id.0 c.index_mut-row.result.now at c.index_mut-row.ensures.value c.self.invariant) c.requires.within in
    let pool = inside.entries.pool in
    let p = c.args.fresh in
    let e = placed p c.args.stamp in
    let ens = c.put_fresh.ensures in
    let is_stamp : is_new_stamp (seen_shelf inside.geometry inside.entries inside.volumes.items inside.held.items) c.args.index c.args.stamp ≡ true = subst (λ (v : ShelfView). is_new_stamp v.shelf c.args.index c.args.stamp ≡ true) (sym c.self.view_is) c.requires.stamp in
    let is_place = is_fresh pool p (subst (λ (v : ShelfView). Contains v.shelf.fresh p) (sym c.self.view_is) c.requires.fresh) in
    let places = ens.pool.size ∙ length-set pool.places p (Counted 1) in
    let fresh_is = fresh_kept (with_count pool p 1) c.put_fresh.new.self.pool ens.pool ∙ fresh_out pool.places p 1 in
    let of = here_of inside.geometry inside.entries inside.volumes.items inside.held.items inside.total inside.promised inside.volumes.cap inside.held.cap c.place_of-at.result c.args.id.0 c.index_mut-row.result.now at c.index_mut-row.ensures.value c.self.invariant in
    let size = list_len inside.entries.store c.index_mut-row.result.now.map of in
    let allocated = allocated_put (list_of inside.entries.store c.index_mut-row.result.now.map) c.args.index c.index_mut-row.result.now.allocated c.counted-row.result e c.get-before.result (omega arith) c.get-before.ensures
    (mapped_stamp (seen_shelf inside.geometry inside.entries inside.volumes.items inside.held.items) c.args.index c.args.stamp is_stamp)
    (row_allocated inside.geometry inside.entries inside.volumes.items inside.held.items inside.total c.place_of-at.result c.args.id.0 c.index_mut-row.result.now c.index_mut-row.result.now at c.index_mut-row.ensures.value c.self.invariant.lists)
    c.counted-row.ensures in
    written_seen inside.geometry inside.entries inside.volumes.items inside.held.items inside.total inside.promised inside.volumes.cap inside.held.cap c.place_of-at.result c.args.id.0 c.index_mut-row.result.now at c.index_mut-row.ensures.value c.self.invariant c.put_fresh.new.self c.put_fresh.new.map c.counted-row.result c.args.index e within ens.list ens.len ens.of ens.others ens.taken ens.alone ens.pages places ens.pool.reserved (filter (λ q. not (q == p)) (fresh_from 0 pool.places)) fresh_is allocated
    ∙ ap (λ (v : ShelfView). with_put v.shelf c.args.id.0 c.args.index p c.args.stamp) c.self.view_is

pub returns-clause-own : goal.returns-clause-own
returns-clause-own g c =
    let inside = c.self.inside in
    let at = ap (position (is_row c.args.id.0)) (sym c.deref.ensures.value) ∙ c.place_of-at.ensures in
    let within : c.args.index < c.index_mut-row.result.now.map.len = subst (λ k. c.args.index < k) (ap (λ (v : ShelfView). size_in v.shelf c.args.id.0) (sym c.self.view_is) ∙ here_size inside.geometry inside.entries inside.volumes.items inside.held.items inside.total inside.promised inside.volumes.cap inside.held.cap c.place_of-at.result c.args.id.0 c.index_mut-row.result.now at c.index_mut-row.ensures.value c.self.invariant) c.requires.within in
    let pool = inside.entries.pool in
    let p = c.args.fresh in
    let e = placed p c.args.stamp in
    let ens = c.put_fresh.ensures in
    let is_stamp : is_new_stamp (seen_shelf inside.geometry inside.entries inside.volumes.items inside.held.items) c.args.index c.args.stamp ≡ true = subst (λ (v : ShelfView). is_new_stamp v.shelf c.args.index c.args.stamp ≡ true) (sym c.self.view_is) c.requires.stamp in
    let is_place = is_fresh pool p (subst (λ (v : ShelfView). Contains v.shelf.fresh p) (sym c.self.view_is) c.requires.fresh) in
    let places = ens.pool.size ∙ length-set pool.places p (Counted 1) in
    let fresh_is = fresh_kept (with_count pool p 1) c.put_fresh.new.self.pool ens.pool ∙ fresh_out pool.places p 1 in
    let of = here_of inside.geometry inside.entries inside.volumes.items inside.held.items inside.total inside.promised inside.volumes.cap inside.held.cap c.place_of-at.result c.args.id.0 c.index_mut-row.result.now at c.index_mut-row.ensures.value c.self.invariant in
    let size = list_len inside.entries.store c.index_mut-row.result.now.map of in
    let allocated = allocated_put (list_of inside.entries.store c.index_mut-row.result.now.map) c.args.index c.index_mut-row.result.now.allocated c.counted-row.result e c.get-before.result (omega arith) c.get-before.ensures
    (mapped_stamp (seen_shelf inside.geometry inside.entries inside.volumes.items inside.held.items) c.args.index c.args.stamp is_stamp)
    (row_allocated inside.geometry inside.entries inside.volumes.items inside.held.items inside.total c.place_of-at.result c.args.id.0 c.index_mut-row.result.now c.index_mut-row.result.now at c.index_mut-row.ensures.value c.self.invariant.lists)
    c.counted-row.ensures in
    written_own inside.geometry inside.entries inside.volumes.items inside.held.items inside.total inside.promised inside.volumes.cap inside.held.cap c.place_of-at.result c.args.id.0 c.index_mut-row.result.now at c.index_mut-row.ensures.value c.self.invariant c.put_fresh.new.self c.put_fresh.new.map c.counted-row.result c.args.index e within ens.list ens.len ens.of ens.others ens.taken ens.alone ens.pages places ens.pool.reserved (filter (λ q. not (q == p)) (fresh_from 0 pool.places)) fresh_is allocated

pub returns-clause-kept : goal.returns-clause-kept
returns-clause-kept g c =
    let inside = c.self.inside in
    let at = ap (position (is_row c.args.id.0)) (sym c.deref.ensures.value) ∙ c.place_of-at.ensures in
    let within : c.args.index < c.index_mut-row.result.now.map.len = subst (λ k. c.args.index < k) (ap (λ (v : ShelfView). size_in v.shelf c.args.id.0) (sym c.self.view_is) ∙ here_size inside.geometry inside.entries inside.volumes.items inside.held.items inside.total inside.promised inside.volumes.cap inside.held.cap c.place_of-at.result c.args.id.0 c.index_mut-row.result.now at c.index_mut-row.ensures.value c.self.invariant) c.requires.within in
    let pool = inside.entries.pool in
    let p = c.args.fresh in
    let e = placed p c.args.stamp in
    let ens = c.put_fresh.ensures in
    let is_stamp : is_new_stamp (seen_shelf inside.geometry inside.entries inside.volumes.items inside.held.items) c.args.index c.args.stamp ≡ true = subst (λ (v : ShelfView). is_new_stamp v.shelf c.args.index c.args.stamp ≡ true) (sym c.self.view_is) c.requires.stamp in
    let is_place = is_fresh pool p (subst (λ (v : ShelfView). Contains v.shelf.fresh p) (sym c.self.view_is) c.requires.fresh) in
    let places = ens.pool.size ∙ length-set pool.places p (Counted 1) in
    let fresh_is = fresh_kept (with_count pool p 1) c.put_fresh.new.self.pool ens.pool ∙ fresh_out pool.places p 1 in
    let of = here_of inside.geometry inside.entries inside.volumes.items inside.held.items inside.total inside.promised inside.volumes.cap inside.held.cap c.place_of-at.result c.args.id.0 c.index_mut-row.result.now at c.index_mut-row.ensures.value c.self.invariant in
    let size = list_len inside.entries.store c.index_mut-row.result.now.map of in
    let allocated = allocated_put (list_of inside.entries.store c.index_mut-row.result.now.map) c.args.index c.index_mut-row.result.now.allocated c.counted-row.result e c.get-before.result (omega arith) c.get-before.ensures
    (mapped_stamp (seen_shelf inside.geometry inside.entries inside.volumes.items inside.held.items) c.args.index c.args.stamp is_stamp)
    (row_allocated inside.geometry inside.entries inside.volumes.items inside.held.items inside.total c.place_of-at.result c.args.id.0 c.index_mut-row.result.now c.index_mut-row.result.now at c.index_mut-row.ensures.value c.self.invariant.lists)
    c.counted-row.ensures in
    λ n k own. written_own_kept inside.geometry inside.entries inside.volumes.items inside.held.items inside.total inside.promised inside.volumes.cap inside.held.cap c.place_of-at.result c.args.id.0 c.index_mut-row.result.now at c.index_mut-row.ensures.value c.self.invariant c.put_fresh.new.self c.put_fresh.new.map c.counted-row.result c.args.index e within ens.list ens.len ens.of ens.others ens.taken ens.alone ens.pages places ens.pool.reserved (filter (λ q. not (q == p)) (fresh_from 0 pool.places)) fresh_is allocated n k (ap (λ (v : ShelfView). is_own v n k) c.self.view_is ∙ own)

pub returns-clause-room : goal.returns-clause-room
returns-clause-room g c =
    let inside = c.self.inside in
    let at = ap (position (is_row c.args.id.0)) (sym c.deref.ensures.value) ∙ c.place_of-at.ensures in
    let within : c.args.index < c.index_mut-row.result.now.map.len = subst (λ k. c.args.index < k) (ap (λ (v : ShelfView). size_in v.shelf c.args.id.0) (sym c.self.view_is) ∙ here_size inside.geometry inside.entries inside.volumes.items inside.held.items inside.total inside.promised inside.volumes.cap inside.held.cap c.place_of-at.result c.args.id.0 c.index_mut-row.result.now at c.index_mut-row.ensures.value c.self.invariant) c.requires.within in
    let of = here_of inside.geometry inside.entries inside.volumes.items inside.held.items inside.total inside.promised inside.volumes.cap inside.held.cap c.place_of-at.result c.args.id.0 c.index_mut-row.result.now at c.index_mut-row.ensures.value c.self.invariant in
    let place = page_within inside.entries.store c.index_mut-row.result.now.map of c.args.index within in
    λ own.
    let is : get_or (own_pages inside.entries.store c.index_mut-row.result.now.map) (c.args.index / 64) false ≡ true =
    sym (here_own inside.geometry inside.entries inside.volumes.items inside.held.items inside.total inside.promised inside.volumes.cap inside.held.cap c.place_of-at.result c.args.id.0 c.index_mut-row.result.now at c.index_mut-row.ensures.value c.self.invariant (c.args.index / 64)) ∙ ap (λ (v : ShelfView). is_own v c.args.id.0 (c.args.index / 64)) c.self.view_is ∙ own in
    let one = own_is inside.entries.store c.index_mut-row.result.now.map.numbers (c.args.index / 64) is in
    let count = one.1 in
    c.put_fresh.ensures.kept (omega arith) ∙ ap (λ (r : RoomView). r.pages) c.room.view_is

pub returns-clause-good : goal.returns-clause-good
returns-clause-good g c = λ first count given low high good.
    let old_row = c.index_mut-row.result.now in
    let row : VolumeRow = record { id = old_row.id; head = old_row.head; map = c.put_fresh.new.map; allocated = c.counted-row.result } in
    let now = seen_view c.self.inside.geometry c.put_fresh.new.self (set c.self.inside.volumes.items c.place_of-at.result row) c.self.inside.held.items c.self.inside.promised in
    let room : RoomView = record { pages = c.put_fresh.new.room.pages; numbers = c.put_fresh.new.room.numbers; indexes = c.room.inside.indexes.cap; head = c.room.inside.head } in
    good_written c.args.self.now now c.args.id.0 first count c.args.index c.args.room.now room given (returns-clause-kept g c) (sym (ap (λ (v : ShelfView). v.rooms) c.self.view_is)) (returns-clause-own g c) (returns-clause-room g c)
    (let left = c.put_fresh.ensures.left in let same = ap (λ (r : RoomView). r.pages) c.room.view_is in omega arith) low high good
