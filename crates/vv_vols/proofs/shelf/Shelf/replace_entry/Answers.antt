use Rattle.std.proofs.Common.{◌≡◌, ◌<◌, ◌≤◌, ◌/◌, true, false, List, map, set, get_or, find, Some, sym, subst, ap, ◌∙◌, arith}
use Rattle.std.specs.Prelude.{IsSome}
use Rattle.std.specs.List.{position}
use Rattle.vv_map.specs.Pages.{list_of}
use Rattle.vv_map.proofs.MapLemmas.{page_within}
use Rattle.vv_vols.specs.declared.row.VolumeRow.{VolumeRow}
use Rattle.vv_vols.specs.Shelf.{volume_in, size_in, entry_at, index_at, chunk_at}
use Rattle.vv_vols.specs.Calls.{with_entry}
use Rattle.vv_vols.specs.Conditions.{Stands}
use Rattle.vv_vols.specs.Rows.{ShelfView, RoomView, is_own, is_row, seen_entry, seen_shelf, seen_view, seen_pages, own_pages, fresh_from}
use Rattle.vv_vols.proofs.SeenShelf.{row_found}
use Rattle.vv_vols.proofs.SeenPlaces.{fresh_kept}
use Rattle.vv_vols.proofs.Kept.{replaced_shares}
use Rattle.vv_vols.proofs.RowCalls.{row_allocated}
use Rattle.vv_vols.proofs.OwnKept.{list_len, shared_is, own_is}
use Rattle.vv_vols.proofs.Numbers.{allocated_replaced, allocated_some, page_left}
use Rattle.vv_vols.proofs.FreshPut.{few_allocated}
use Rattle.vv_vols.proofs.WrittenRow.{here_of, here_size, here_own, written_seen, written_kept, written_own_kept, written_own}
use Rattle.vv_vols.proofs.RoomsKept.{written_room}
use Rattle.vv_vols.proofs.HeldShares.{piece_stands, chunk_is}
use Rattle.vv_vols.proofs.StandsCounted.{entry_counted}
use Rattle.vv_vols.proofs.GoodRooms.{good_written}
use Rattle.vv_vols.proofs.shelf.Shelf.replace_entry.Goals as goal

pub place_of-place-requires : goal.place_of-place-requires
place_of-place-requires g c =
    subst (λ (rows : List VolumeRow). IsSome (find (is_row c.args.id.0) rows)) (sym c.deref.ensures.value)
    (row_found c.self.inside.entries.store c.args.id.0 c.self.inside.volumes.items
    (subst (λ (s : ShelfView). IsSome (volume_in s.shelf c.args.id.0)) (sym c.self.view_is) c.requires.standing))

pub get-before-requires-clause-of : goal.get-before-requires-clause-of
get-before-requires-clause-of g c =
    let inside = c.self.inside in
    let id = c.args.id.0 in
    let row = c.index_mut-row.result.now in
    let at = ap (position (is_row id)) (sym c.deref.ensures.value) ∙ c.place_of-place.ensures in
    here_of inside.geometry inside.entries inside.volumes.items inside.held.items inside.total inside.promised inside.volumes.cap inside.held.cap c.place_of-place.result id row at c.index_mut-row.ensures.value c.self.invariant

pub get-before-requires-clause-within : goal.get-before-requires-clause-within
get-before-requires-clause-within g c =
    let inside = c.self.inside in
    let id = c.args.id.0 in
    let row = c.index_mut-row.result.now in
    let at = ap (position (is_row id)) (sym c.deref.ensures.value) ∙ c.place_of-place.ensures in
    let within : c.args.index < row.map.len = subst (λ k. c.args.index < k) (ap (λ (v : ShelfView). size_in v.shelf id) (sym c.self.view_is) ∙ here_size inside.geometry inside.entries inside.volumes.items inside.held.items inside.total inside.promised inside.volumes.cap inside.held.cap c.place_of-place.result id row at c.index_mut-row.ensures.value c.self.invariant) c.requires.within in
    within

pub put_shared-requires-clause-of : goal.put_shared-requires-clause-of
put_shared-requires-clause-of g c =
    let inside = c.self.inside in
    let id = c.args.id.0 in
    let row = c.index_mut-row.result.now in
    let at = ap (position (is_row id)) (sym c.deref.ensures.value) ∙ c.place_of-place.ensures in
    here_of inside.geometry inside.entries inside.volumes.items inside.held.items inside.total inside.promised inside.volumes.cap inside.held.cap c.place_of-place.result id row at c.index_mut-row.ensures.value c.self.invariant

pub put_shared-requires-clause-within : goal.put_shared-requires-clause-within
put_shared-requires-clause-within g c =
    let inside = c.self.inside in
    let id = c.args.id.0 in
    let row = c.index_mut-row.result.now in
    let at = ap (position (is_row id)) (sym c.deref.ensures.value) ∙ c.place_of-place.ensures in
    let within : c.args.index < row.map.len = subst (λ k. c.args.index < k) (ap (λ (v : ShelfView). size_in v.shelf id) (sym c.self.view_is) ∙ here_size inside.geometry inside.entries inside.volumes.items inside.held.items inside.total inside.promised inside.volumes.cap inside.held.cap c.place_of-place.result id row at c.index_mut-row.ensures.value c.self.invariant) c.requires.within in
    within

pub put_shared-requires-clause-counted : goal.put_shared-requires-clause-counted
put_shared-requires-clause-counted g c =
    let inside = c.self.inside in
    let e = c.held_entry-entry.result in
    let n = c.args.held.now.number in
    let there : entry_at (seen_shelf inside.geometry inside.entries inside.volumes.items inside.held.items) n c.args.at ≡ Some (seen_entry e) = ap (λ (v : ShelfView). entry_at v.shelf n c.args.at) c.self.view_is ∙ c.held_entry-entry.ensures in
    let same : index_at (seen_shelf inside.geometry inside.entries inside.volumes.items inside.held.items) n c.args.at ≡ c.args.index = ap (λ (v : ShelfView). index_at v.shelf n c.args.at) c.self.view_is ∙ c.requires.same in
    let stands : Stands (seen_shelf inside.geometry inside.entries inside.volumes.items inside.held.items) (record { index = c.args.index; chunk = seen_entry e }) = subst (λ i. Stands (seen_shelf inside.geometry inside.entries inside.volumes.items inside.held.items) (record { index = i; chunk = seen_entry e })) same (piece_stands (seen_shelf inside.geometry inside.entries inside.volumes.items inside.held.items) c.self.invariant.lists.shares n c.args.at (seen_entry e) there) in
    entry_counted inside.geometry inside.entries inside.volumes.items inside.held.items inside.total inside.promised inside.volumes.cap inside.held.cap c.self.invariant c.args.index e c.pool-counts.ensures.counted stands

pub put_shared-requires-clause-room : goal.put_shared-requires-clause-room
put_shared-requires-clause-room g c =
    let inside = c.self.inside in
    let id = c.args.id.0 in
    let row = c.index_mut-row.result.now in
    let at = ap (position (is_row id)) (sym c.deref.ensures.value) ∙ c.place_of-place.ensures in
    let within : c.args.index < row.map.len = subst (λ k. c.args.index < k) (ap (λ (v : ShelfView). size_in v.shelf id) (sym c.self.view_is) ∙ here_size inside.geometry inside.entries inside.volumes.items inside.held.items inside.total inside.promised inside.volumes.cap inside.held.cap c.place_of-place.result id row at c.index_mut-row.ensures.value c.self.invariant) c.requires.within in
    let of = here_of inside.geometry inside.entries inside.volumes.items inside.held.items inside.total inside.promised inside.volumes.cap inside.held.cap c.place_of-place.result id row at c.index_mut-row.ensures.value c.self.invariant in
    let size = list_len inside.entries.store row.map of in
    let place = page_within inside.entries.store row.map of c.args.index within in
    λ two. subst (λ (r : RoomView). 1 ≤ r.pages) (sym c.room.view_is) (c.requires.room
    (ap (λ (v : ShelfView). is_own v id (c.args.index / 64)) (sym c.self.view_is) ∙ here_own inside.geometry inside.entries inside.volumes.items inside.held.items inside.total inside.promised inside.volumes.cap inside.held.cap c.place_of-place.result id row at c.index_mut-row.ensures.value c.self.invariant (c.args.index / 64)
    ∙ shared_is inside.entries.store row.map (c.args.index / 64) of place two))

pub put_shared-requires-clause-unused : goal.put_shared-requires-clause-unused
put_shared-requires-clause-unused g c =
    let inside = c.self.inside in
    page_left inside.geometry inside.entries inside.volumes.items inside.held.items inside.total inside.promised inside.volumes.cap inside.held.cap c.self.invariant _

pub recounted-row-requires-clause-few : goal.recounted-row-requires-clause-few
recounted-row-requires-clause-few g c =
    let inside = c.self.inside in
    let id = c.args.id.0 in
    let row = c.index_mut-row.result.now in
    let at = ap (position (is_row id)) (sym c.deref.ensures.value) ∙ c.place_of-place.ensures in
    let few = few_allocated inside.geometry inside.entries inside.volumes.items inside.held.items inside.total inside.promised inside.volumes.cap inside.held.cap c.place_of-place.result id row at c.index_mut-row.ensures.value c.self.invariant in
    omega arith

pub recounted-row-requires-clause-some : goal.recounted-row-requires-clause-some
recounted-row-requires-clause-some g c = λ mapped.
    let inside = c.self.inside in
    let id = c.args.id.0 in
    let row = c.index_mut-row.result.now in
    let at = ap (position (is_row id)) (sym c.deref.ensures.value) ∙ c.place_of-place.ensures in
    let within : c.args.index < row.map.len = subst (λ k. c.args.index < k) (ap (λ (v : ShelfView). size_in v.shelf id) (sym c.self.view_is) ∙ here_size inside.geometry inside.entries inside.volumes.items inside.held.items inside.total inside.promised inside.volumes.cap inside.held.cap c.place_of-place.result id row at c.index_mut-row.ensures.value c.self.invariant) c.requires.within in
    let of = here_of inside.geometry inside.entries inside.volumes.items inside.held.items inside.total inside.promised inside.volumes.cap inside.held.cap c.place_of-place.result id row at c.index_mut-row.ensures.value c.self.invariant in
    let size = list_len inside.entries.store row.map of in
    let counted = row_allocated inside.geometry inside.entries inside.volumes.items inside.held.items inside.total c.place_of-place.result id row row at c.index_mut-row.ensures.value c.self.invariant.lists in
    let some = allocated_some (list_of inside.entries.store row.map) c.args.index c.get-before.result (omega arith) c.get-before.ensures mapped in
    omega arith

pub invariant_of-self : goal.invariant_of-self
invariant_of-self g c =
    let inside = c.self.inside in
    let id = c.args.id.0 in
    let row = c.index_mut-row.result.now in
    let at = ap (position (is_row id)) (sym c.deref.ensures.value) ∙ c.place_of-place.ensures in
    let within : c.args.index < row.map.len = subst (λ k. c.args.index < k) (ap (λ (v : ShelfView). size_in v.shelf id) (sym c.self.view_is) ∙ here_size inside.geometry inside.entries inside.volumes.items inside.held.items inside.total inside.promised inside.volumes.cap inside.held.cap c.place_of-place.result id row at c.index_mut-row.ensures.value c.self.invariant) c.requires.within in
    let of = here_of inside.geometry inside.entries inside.volumes.items inside.held.items inside.total inside.promised inside.volumes.cap inside.held.cap c.place_of-place.result id row at c.index_mut-row.ensures.value c.self.invariant in
    let size = list_len inside.entries.store row.map of in
    let counted = row_allocated inside.geometry inside.entries inside.volumes.items inside.held.items inside.total c.place_of-place.result id row row at c.index_mut-row.ensures.value c.self.invariant.lists in
    let e = c.held_entry-entry.result in
    let n = c.args.held.now.number in
    let there : entry_at (seen_shelf inside.geometry inside.entries inside.volumes.items inside.held.items) n c.args.at ≡ Some (seen_entry e) = ap (λ (v : ShelfView). entry_at v.shelf n c.args.at) c.self.view_is ∙ c.held_entry-entry.ensures in
    let same : index_at (seen_shelf inside.geometry inside.entries inside.volumes.items inside.held.items) n c.args.at ≡ c.args.index = ap (λ (v : ShelfView). index_at v.shelf n c.args.at) c.self.view_is ∙ c.requires.same in
    let stands : Stands (seen_shelf inside.geometry inside.entries inside.volumes.items inside.held.items) (record { index = c.args.index; chunk = seen_entry e }) = subst (λ i. Stands (seen_shelf inside.geometry inside.entries inside.volumes.items inside.held.items) (record { index = i; chunk = seen_entry e })) same (piece_stands (seen_shelf inside.geometry inside.entries inside.volumes.items inside.held.items) c.self.invariant.lists.shares n c.args.at (seen_entry e) there) in
    let ens = c.put_shared.ensures in
    let fresh_is = fresh_kept inside.entries.pool c.put_shared.new.self.pool ens.pool in
    let allocated = allocated_replaced (list_of inside.entries.store row.map) c.args.index row.allocated c.recounted-row.result e c.get-before.result (omega arith) c.get-before.ensures counted c.recounted-row.ensures.none c.recounted-row.ensures.one in
    written_kept inside.geometry inside.entries inside.volumes.items inside.held.items inside.total inside.promised inside.volumes.cap inside.held.cap c.place_of-place.result id row at c.index_mut-row.ensures.value c.self.invariant c.put_shared.new.self c.put_shared.new.map c.recounted-row.result c.args.index e within ens.list ens.len ens.of ens.others ens.taken ens.alone ens.pages ens.pool.size ens.pool.reserved (fresh_from 0 inside.entries.pool.places) fresh_is allocated
    (replaced_shares (seen_shelf inside.geometry inside.entries inside.volumes.items inside.held.items) c.self.invariant.lists.shares id c.args.index (seen_entry e) stands)

pub returns-clause-shelf : goal.returns-clause-shelf
returns-clause-shelf g c =
    let inside = c.self.inside in
    let id = c.args.id.0 in
    let row = c.index_mut-row.result.now in
    let at = ap (position (is_row id)) (sym c.deref.ensures.value) ∙ c.place_of-place.ensures in
    let within : c.args.index < row.map.len = subst (λ k. c.args.index < k) (ap (λ (v : ShelfView). size_in v.shelf id) (sym c.self.view_is) ∙ here_size inside.geometry inside.entries inside.volumes.items inside.held.items inside.total inside.promised inside.volumes.cap inside.held.cap c.place_of-place.result id row at c.index_mut-row.ensures.value c.self.invariant) c.requires.within in
    let of = here_of inside.geometry inside.entries inside.volumes.items inside.held.items inside.total inside.promised inside.volumes.cap inside.held.cap c.place_of-place.result id row at c.index_mut-row.ensures.value c.self.invariant in
    let size = list_len inside.entries.store row.map of in
    let counted = row_allocated inside.geometry inside.entries inside.volumes.items inside.held.items inside.total c.place_of-place.result id row row at c.index_mut-row.ensures.value c.self.invariant.lists in
    let e = c.held_entry-entry.result in
    let n = c.args.held.now.number in
    let there : entry_at (seen_shelf inside.geometry inside.entries inside.volumes.items inside.held.items) n c.args.at ≡ Some (seen_entry e) = ap (λ (v : ShelfView). entry_at v.shelf n c.args.at) c.self.view_is ∙ c.held_entry-entry.ensures in
    let same : index_at (seen_shelf inside.geometry inside.entries inside.volumes.items inside.held.items) n c.args.at ≡ c.args.index = ap (λ (v : ShelfView). index_at v.shelf n c.args.at) c.self.view_is ∙ c.requires.same in
    let stands : Stands (seen_shelf inside.geometry inside.entries inside.volumes.items inside.held.items) (record { index = c.args.index; chunk = seen_entry e }) = subst (λ i. Stands (seen_shelf inside.geometry inside.entries inside.volumes.items inside.held.items) (record { index = i; chunk = seen_entry e })) same (piece_stands (seen_shelf inside.geometry inside.entries inside.volumes.items inside.held.items) c.self.invariant.lists.shares n c.args.at (seen_entry e) there) in
    let ens = c.put_shared.ensures in
    let fresh_is = fresh_kept inside.entries.pool c.put_shared.new.self.pool ens.pool in
    let allocated = allocated_replaced (list_of inside.entries.store row.map) c.args.index row.allocated c.recounted-row.result e c.get-before.result (omega arith) c.get-before.ensures counted c.recounted-row.ensures.none c.recounted-row.ensures.one in
    let chunk : chunk_at c.args.self.now.shelf n c.args.at ≡ seen_entry e = chunk_is c.args.self.now.shelf n c.args.at (seen_entry e) c.held_entry-entry.ensures in
    written_seen inside.geometry inside.entries inside.volumes.items inside.held.items inside.total inside.promised inside.volumes.cap inside.held.cap c.place_of-place.result id row at c.index_mut-row.ensures.value c.self.invariant c.put_shared.new.self c.put_shared.new.map c.recounted-row.result c.args.index e within ens.list ens.len ens.of ens.others ens.taken ens.alone ens.pages ens.pool.size ens.pool.reserved (fresh_from 0 inside.entries.pool.places) fresh_is allocated
    ∙ ap (λ (v : ShelfView). with_entry v.shelf id c.args.index (seen_entry e)) c.self.view_is
    ∙ ap (with_entry c.args.self.now.shelf id c.args.index) (sym chunk)

pub returns-clause-own : goal.returns-clause-own
returns-clause-own g c =
    let inside = c.self.inside in
    let id = c.args.id.0 in
    let row = c.index_mut-row.result.now in
    let at = ap (position (is_row id)) (sym c.deref.ensures.value) ∙ c.place_of-place.ensures in
    let within : c.args.index < row.map.len = subst (λ k. c.args.index < k) (ap (λ (v : ShelfView). size_in v.shelf id) (sym c.self.view_is) ∙ here_size inside.geometry inside.entries inside.volumes.items inside.held.items inside.total inside.promised inside.volumes.cap inside.held.cap c.place_of-place.result id row at c.index_mut-row.ensures.value c.self.invariant) c.requires.within in
    let of = here_of inside.geometry inside.entries inside.volumes.items inside.held.items inside.total inside.promised inside.volumes.cap inside.held.cap c.place_of-place.result id row at c.index_mut-row.ensures.value c.self.invariant in
    let size = list_len inside.entries.store row.map of in
    let counted = row_allocated inside.geometry inside.entries inside.volumes.items inside.held.items inside.total c.place_of-place.result id row row at c.index_mut-row.ensures.value c.self.invariant.lists in
    let e = c.held_entry-entry.result in
    let n = c.args.held.now.number in
    let there : entry_at (seen_shelf inside.geometry inside.entries inside.volumes.items inside.held.items) n c.args.at ≡ Some (seen_entry e) = ap (λ (v : ShelfView). entry_at v.shelf n c.args.at) c.self.view_is ∙ c.held_entry-entry.ensures in
    let same : index_at (seen_shelf inside.geometry inside.entries inside.volumes.items inside.held.items) n c.args.at ≡ c.args.index = ap (λ (v : ShelfView). index_at v.shelf n c.args.at) c.self.view_is ∙ c.requires.same in
    let stands : Stands (seen_shelf inside.geometry inside.entries inside.volumes.items inside.held.items) (record { index = c.args.index; chunk = seen_entry e }) = subst (λ i. Stands (seen_shelf inside.geometry inside.entries inside.volumes.items inside.held.items) (record { index = i; chunk = seen_entry e })) same (piece_stands (seen_shelf inside.geometry inside.entries inside.volumes.items inside.held.items) c.self.invariant.lists.shares n c.args.at (seen_entry e) there) in
    let ens = c.put_shared.ensures in
    let fresh_is = fresh_kept inside.entries.pool c.put_shared.new.self.pool ens.pool in
    let allocated = allocated_replaced (list_of inside.entries.store row.map) c.args.index row.allocated c.recounted-row.result e c.get-before.result (omega arith) c.get-before.ensures counted c.recounted-row.ensures.none c.recounted-row.ensures.one in
    written_own inside.geometry inside.entries inside.volumes.items inside.held.items inside.total inside.promised inside.volumes.cap inside.held.cap c.place_of-place.result id row at c.index_mut-row.ensures.value c.self.invariant c.put_shared.new.self c.put_shared.new.map c.recounted-row.result c.args.index e within ens.list ens.len ens.of ens.others ens.taken ens.alone ens.pages ens.pool.size ens.pool.reserved (fresh_from 0 inside.entries.pool.places) fresh_is allocated

pub returns-clause-kept : goal.returns-clause-kept
returns-clause-kept g c =
    let inside = c.self.inside in
    let id = c.args.id.0 in
    let row = c.index_mut-row.result.now in
    let at = ap (position (is_row id)) (sym c.deref.ensures.value) ∙ c.place_of-place.ensures in
    let within : c.args.index < row.map.len = subst (λ k. c.args.index < k) (ap (λ (v : ShelfView). size_in v.shelf id) (sym c.self.view_is) ∙ here_size inside.geometry inside.entries inside.volumes.items inside.held.items inside.total inside.promised inside.volumes.cap inside.held.cap c.place_of-place.result id row at c.index_mut-row.ensures.value c.self.invariant) c.requires.within in
    let of = here_of inside.geometry inside.entries inside.volumes.items inside.held.items inside.total inside.promised inside.volumes.cap inside.held.cap c.place_of-place.result id row at c.index_mut-row.ensures.value c.self.invariant in
    let size = list_len inside.entries.store row.map of in
    let counted = row_allocated inside.geometry inside.entries inside.volumes.items inside.held.items inside.total c.place_of-place.result id row row at c.index_mut-row.ensures.value c.self.invariant.lists in
    let e = c.held_entry-entry.result in
    let n = c.args.held.now.number in
    let there : entry_at (seen_shelf inside.geometry inside.entries inside.volumes.items inside.held.items) n c.args.at ≡ Some (seen_entry e) = ap (λ (v : ShelfView). entry_at v.shelf n c.args.at) c.self.view_is ∙ c.held_entry-entry.ensures in
    let same : index_at (seen_shelf inside.geometry inside.entries inside.volumes.items inside.held.items) n c.args.at ≡ c.args.index = ap (λ (v : ShelfView). index_at v.shelf n c.args.at) c.self.view_is ∙ c.requires.same in
    let stands : Stands (seen_shelf inside.geometry inside.entries inside.volumes.items inside.held.items) (record { index = c.args.index; chunk = seen_entry e }) = subst (λ i. Stands (seen_shelf inside.geometry inside.entries inside.volumes.items inside.held.items) (record { index = i; chunk = seen_entry e })) same (piece_stands (seen_shelf inside.geometry inside.entries inside.volumes.items inside.held.items) c.self.invariant.lists.shares n c.args.at (seen_entry e) there) in
    let ens = c.put_shared.ensures in
    let fresh_is = fresh_kept inside.entries.pool c.put_shared.new.self.pool ens.pool in
    let allocated = allocated_replaced (list_of inside.entries.store row.map) c.args.index row.allocated c.recounted-row.result e c.get-before.result (omega arith) c.get-before.ensures counted c.recounted-row.ensures.none c.recounted-row.ensures.one in
    λ v k own. written_own_kept inside.geometry inside.entries inside.volumes.items inside.held.items inside.total inside.promised inside.volumes.cap inside.held.cap c.place_of-place.result id row at c.index_mut-row.ensures.value c.self.invariant c.put_shared.new.self c.put_shared.new.map c.recounted-row.result c.args.index e within ens.list ens.len ens.of ens.others ens.taken ens.alone ens.pages ens.pool.size ens.pool.reserved (fresh_from 0 inside.entries.pool.places) fresh_is allocated v k (ap (λ (w : ShelfView). is_own w v k) c.self.view_is ∙ own)

pub returns-clause-room : goal.returns-clause-room
returns-clause-room g c =
    let inside = c.self.inside in
    let id = c.args.id.0 in
    let row = c.index_mut-row.result.now in
    let at = ap (position (is_row id)) (sym c.deref.ensures.value) ∙ c.place_of-place.ensures in
    let within : c.args.index < row.map.len = subst (λ k. c.args.index < k) (ap (λ (v : ShelfView). size_in v.shelf id) (sym c.self.view_is) ∙ here_size inside.geometry inside.entries inside.volumes.items inside.held.items inside.total inside.promised inside.volumes.cap inside.held.cap c.place_of-place.result id row at c.index_mut-row.ensures.value c.self.invariant) c.requires.within in
    let of = here_of inside.geometry inside.entries inside.volumes.items inside.held.items inside.total inside.promised inside.volumes.cap inside.held.cap c.place_of-place.result id row at c.index_mut-row.ensures.value c.self.invariant in
    let size = list_len inside.entries.store row.map of in
    λ own.
    let is : get_or (own_pages inside.entries.store row.map) (c.args.index / 64) false ≡ true =
    sym (here_own inside.geometry inside.entries inside.volumes.items inside.held.items inside.total inside.promised inside.volumes.cap inside.held.cap c.place_of-place.result id row at c.index_mut-row.ensures.value c.self.invariant (c.args.index / 64)) ∙ ap (λ (v : ShelfView). is_own v id (c.args.index / 64)) c.self.view_is ∙ own in
    let one = own_is inside.entries.store row.map.numbers (c.args.index / 64) is in
    let count = one.1 in
    c.put_shared.ensures.kept (omega arith) ∙ ap (λ (r : RoomView). r.pages) c.room.view_is

pub returns-clause-good : goal.returns-clause-good
returns-clause-good g c = λ first count low high good.
    let old_row = c.index_mut-row.result.now in
    let row : VolumeRow = record { id = old_row.id; head = old_row.head; map = c.put_shared.new.map; allocated = c.recounted-row.result } in
    let now : ShelfView = record { shelf = c.args.self.now.shelf; pages = map (seen_pages c.put_shared.new.self.store) (set c.self.inside.volumes.items c.place_of-place.result row); rooms = c.args.self.now.rooms } in
    let room : RoomView = record { pages = c.put_shared.new.room.pages; numbers = c.args.room.now.numbers; indexes = c.args.room.now.indexes; head = c.args.room.now.head } in
    written_room c.args.self.now now c.args.id.0 first count c.args.index c.args.room.now room (returns-clause-kept g c) (returns-clause-own g c) (returns-clause-room g c)
    (let left = c.put_shared.ensures.left in let same = ap (λ (r : RoomView). r.pages) c.room.view_is in omega arith) low high good

pub returns-clause-others : goal.returns-clause-others
returns-clause-others g c = λ first count given low high good.
    let old_row = c.index_mut-row.result.now in
    let row : VolumeRow = record { id = old_row.id; head = old_row.head; map = c.put_shared.new.map; allocated = c.recounted-row.result } in
    let now = seen_view c.self.inside.geometry c.put_shared.new.self (set c.self.inside.volumes.items c.place_of-place.result row) c.self.inside.held.items c.self.inside.promised in
    let room : RoomView = record { pages = c.put_shared.new.room.pages; numbers = c.put_shared.new.room.numbers; indexes = c.room.inside.indexes.cap; head = c.room.inside.head } in
    good_written c.args.self.now now c.args.id.0 first count c.args.index c.args.room.now room given (returns-clause-kept g c) (sym (ap (λ (v : ShelfView). v.rooms) c.self.view_is)) (returns-clause-own g c) (returns-clause-room g c)
    (let left = c.put_shared.ensures.left in let same = ap (λ (r : RoomView). r.pages) c.room.view_is in omega arith) low high good
