use Rattle.std.proofs.Common.{◌≡◌, ◌≤◌, ◌+◌, ◌-◌, true, List, [], map, set, length, sym, subst, ap, ◌∙◌, arith}
use Rattle.std.specs.Prelude.{IsSome, slice_index}
use Rattle.std.specs.List.{find, position}
use Rattle.vv_map.specs.Rooms.{MapState}
use Rattle.vv_map.specs.Pages.{list_of, pages_for, IsMapOf}
use Rattle.vv_entries.specs.Changes.{Exchanges}
use Rattle.vv_flat.specs.Chunks.{Entry}
use Rattle.vv_vols.specs.declared.row.VolumeRow.{VolumeRow}
use Rattle.vv_vols.specs.Shelf.{shares_rightly, volume_in, size_in, chunks_in, shelf_entries}
use Rattle.vv_vols.specs.Calls.{with_chunks}
use Rattle.vv_vols.specs.Rows.{ShelfView, is_own, is_row, own_in, seen_volume, seen_pages, seen_shelf, fresh_from, IsShelf}
use Rattle.vv_vols.proofs.SeenShelf.{row_found}
use Rattle.vv_vols.proofs.SeenPlaces.{fresh_kept}
use Rattle.vv_vols.proofs.Kept.{reverted_shares}
use Rattle.vv_vols.proofs.OwnKept.{list_len}
use Rattle.vv_vols.proofs.FreshPut.{row_few}
use Rattle.vv_vols.proofs.WrittenRow.{here_of, here_size}
use Rattle.vv_vols.proofs.ReadRow.{here_chunks}
use Rattle.vv_vols.proofs.SharedRooms.{good_spent_both}
use Rattle.vv_vols.proofs.SharedPages.{row_left, row_stands, few_names}
use Rattle.vv_pool.specs.Pool.{PoolState}
use Rattle.vv_vols.proofs.ChangedList.{fewer_rooms}
use Rattle.vv_vols.proofs.RevertedRow.{reverted_seen, reverted_kept, reverted_own_kept}
use Rattle.vv_vols.proofs.shelf.Shelf.revert_list.Goals as goal

pub place_of-from-requires : goal.place_of-from-requires
place_of-from-requires g c =
    subst (λ (rows : List VolumeRow). IsSome (find (is_row c.args.snapshot.0) rows)) (sym c.deref.ensures.value)
    (row_found c.self.inside.entries.store c.args.snapshot.0 c.self.inside.volumes.items
    (subst (λ (s : ShelfView). IsSome (volume_in s.shelf c.args.snapshot.0)) (sym c.self.view_is) c.requires.source))

pub place_of-at-requires : goal.place_of-at-requires
place_of-at-requires g c =
    subst (λ (rows : List VolumeRow). IsSome (find (is_row c.args.volume.0) rows)) (sym c.deref-2.ensures.value)
    (row_found c.self.inside.entries.store c.args.volume.0 c.self.inside.volumes.items
    (subst (λ (s : ShelfView). IsSome (volume_in s.shelf c.args.volume.0)) (sym c.self.view_is) c.requires.standing))

pub share-map-requires-clause-of : goal.share-map-requires-clause-of
share-map-requires-clause-of g c =
    let inside = c.self.inside in
    let source = c.index-source.result.now in
    let at = ap (position (is_row c.args.snapshot.0)) (sym c.deref.ensures.value) ∙ c.place_of-from.ensures in
    here_of inside.geometry inside.entries inside.volumes.items inside.held.items inside.total inside.promised inside.volumes.cap inside.held.cap c.place_of-from.result c.args.snapshot.0 source at c.index-source.ensures c.self.invariant

pub share-map-requires-clause-room : goal.share-map-requires-clause-room
share-map-requires-clause-room g c =
    let inside = c.self.inside in
    let source = c.index-source.result.now in
    let at = ap (position (is_row c.args.snapshot.0)) (sym c.deref.ensures.value) ∙ c.place_of-from.ensures in
    let asked = ap (λ (v : ShelfView). size_in v.shelf c.args.snapshot.0) (sym c.self.view_is) ∙ here_size inside.geometry inside.entries inside.volumes.items inside.held.items inside.total inside.promised inside.volumes.cap inside.held.cap c.place_of-from.result c.args.snapshot.0 source at c.index-source.ensures c.self.invariant in
    let room = c.requires.room.numbers in
    let same = c.into_pages.ensures.numbers in
    subst (λ k. pages_for k ≤ c.into_pages.result.numbers) asked (omega arith)

pub share-map-requires-clause-small : goal.share-map-requires-clause-small
share-map-requires-clause-small g c =
    let inside = c.self.inside in
    let source = c.index-source.result.now in
    let at = ap (position (is_row c.args.snapshot.0)) (sym c.deref.ensures.value) ∙ c.place_of-from.ensures in
    λ k lt. few_names inside.geometry inside.entries inside.volumes.items inside.held.items inside.total inside.promised inside.volumes.cap inside.held.cap c.place_of-from.result c.args.snapshot.0 source at c.index-source.ensures c.self.invariant (slice_index source.map.numbers k)

pub overflow_sub-self : goal.overflow_sub-self
overflow_sub-self g c =
    let inside = c.self.inside in
    let source = c.index-source.result.now in
    let at = ap (position (is_row c.args.snapshot.0)) (sym c.deref.ensures.value) ∙ c.place_of-from.ensures in
    let row = c.index_mut-row.result.now in
    let place = ap (position (is_row c.args.volume.0)) (sym c.deref-2.ensures.value) ∙ c.place_of-at.ensures in
    let ens = c.share-map.ensures in
    let size = here_size inside.geometry inside.entries inside.volumes.items inside.held.items inside.total inside.promised inside.volumes.cap inside.held.cap c.place_of-from.result c.args.snapshot.0 source at c.index-source.ensures c.self.invariant in
    let source_of = here_of inside.geometry inside.entries inside.volumes.items inside.held.items inside.total inside.promised inside.volumes.cap inside.held.cap c.place_of-from.result c.args.snapshot.0 source at c.index-source.ensures c.self.invariant in
    let source_len = list_len inside.entries.store source.map source_of in
    let row_of = here_of inside.geometry inside.entries inside.volumes.items inside.held.items inside.total inside.promised inside.volumes.cap inside.held.cap c.place_of-at.result c.args.volume.0 row place c.index_mut-row.ensures.value c.self.invariant in
    let row_len = list_len inside.entries.store row.map row_of in
    let row_size = here_size inside.geometry inside.entries inside.volumes.items inside.held.items inside.total inside.promised inside.volumes.cap inside.held.cap c.place_of-at.result c.args.volume.0 row place c.index_mut-row.ensures.value c.self.invariant in
    let few = subst (λ (v : ShelfView). shelf_entries v.shelf + size_in v.shelf c.args.snapshot.0 ≤ v.shelf.geometry.map_chunks + size_in v.shelf c.args.volume.0) (sym c.self.view_is) c.requires.few in
    let most = row_few inside.geometry inside.entries inside.volumes.items inside.held.items inside.total inside.promised inside.volumes.cap inside.held.cap c.place_of-at.result c.args.volume.0 row place c.index_mut-row.ensures.value c.self.invariant in
    let sum = c.self.invariant.lists.summed in
    let len = c.len-chunks.ensures in
    let before = c.len.ensures in
    let before_is = ap (λ (m : MapState). m.len) c.replace-before.ensures.value in
    let limit = inside.geometry.map_to in
    omega arith

pub overflow_add-self : goal.overflow_add-self
overflow_add-self g c =
    let inside = c.self.inside in
    let source = c.index-source.result.now in
    let at = ap (position (is_row c.args.snapshot.0)) (sym c.deref.ensures.value) ∙ c.place_of-from.ensures in
    let row = c.index_mut-row.result.now in
    let place = ap (position (is_row c.args.volume.0)) (sym c.deref-2.ensures.value) ∙ c.place_of-at.ensures in
    let ens = c.share-map.ensures in
    let size = here_size inside.geometry inside.entries inside.volumes.items inside.held.items inside.total inside.promised inside.volumes.cap inside.held.cap c.place_of-from.result c.args.snapshot.0 source at c.index-source.ensures c.self.invariant in
    let source_of = here_of inside.geometry inside.entries inside.volumes.items inside.held.items inside.total inside.promised inside.volumes.cap inside.held.cap c.place_of-from.result c.args.snapshot.0 source at c.index-source.ensures c.self.invariant in
    let source_len = list_len inside.entries.store source.map source_of in
    let row_of = here_of inside.geometry inside.entries inside.volumes.items inside.held.items inside.total inside.promised inside.volumes.cap inside.held.cap c.place_of-at.result c.args.volume.0 row place c.index_mut-row.ensures.value c.self.invariant in
    let row_len = list_len inside.entries.store row.map row_of in
    let row_size = here_size inside.geometry inside.entries inside.volumes.items inside.held.items inside.total inside.promised inside.volumes.cap inside.held.cap c.place_of-at.result c.args.volume.0 row place c.index_mut-row.ensures.value c.self.invariant in
    let few = subst (λ (v : ShelfView). shelf_entries v.shelf + size_in v.shelf c.args.snapshot.0 ≤ v.shelf.geometry.map_chunks + size_in v.shelf c.args.volume.0) (sym c.self.view_is) c.requires.few in
    let most = row_few inside.geometry inside.entries inside.volumes.items inside.held.items inside.total inside.promised inside.volumes.cap inside.held.cap c.place_of-at.result c.args.volume.0 row place c.index_mut-row.ensures.value c.self.invariant in
    let sum = c.self.invariant.lists.summed in
    let len = c.len-chunks.ensures in
    let before = c.len.ensures in
    let before_is = ap (λ (m : MapState). m.len) c.replace-before.ensures.value in
    let limit = inside.geometry.map_to in
    omega arith

pub release-requires : goal.release-requires
release-requires g c =
    let inside = c.self.inside in
    let source = c.index-source.result.now in
    let at = ap (position (is_row c.args.snapshot.0)) (sym c.deref.ensures.value) ∙ c.place_of-from.ensures in
    let row = c.index_mut-row.result.now in
    let place = ap (position (is_row c.args.volume.0)) (sym c.deref-2.ensures.value) ∙ c.place_of-at.ensures in
    subst (λ (m : MapState). IsMapOf c.share-map.new.self.store m) (sym c.replace-before.ensures.value)
    (row_left inside.geometry inside.entries inside.volumes.items inside.held.items inside.total inside.promised inside.volumes.cap inside.held.cap c.place_of-at.result c.args.volume.0 row place c.index_mut-row.ensures.value c.self.invariant c.share-map.new.self source.map.numbers c.share-map.ensures.others)

pub invariant_of-self : goal.invariant_of-self
invariant_of-self g c =
    let inside = c.self.inside in
    let source = c.index-source.result.now in
    let at = ap (position (is_row c.args.snapshot.0)) (sym c.deref.ensures.value) ∙ c.place_of-from.ensures in
    let row = c.index_mut-row.result.now in
    let place = ap (position (is_row c.args.volume.0)) (sym c.deref-2.ensures.value) ∙ c.place_of-at.ensures in
    let ens = c.share-map.ensures in
    let size = here_size inside.geometry inside.entries inside.volumes.items inside.held.items inside.total inside.promised inside.volumes.cap inside.held.cap c.place_of-from.result c.args.snapshot.0 source at c.index-source.ensures c.self.invariant in
    let source_of = here_of inside.geometry inside.entries inside.volumes.items inside.held.items inside.total inside.promised inside.volumes.cap inside.held.cap c.place_of-from.result c.args.snapshot.0 source at c.index-source.ensures c.self.invariant in
    let source_len = list_len inside.entries.store source.map source_of in
    let row_of = here_of inside.geometry inside.entries inside.volumes.items inside.held.items inside.total inside.promised inside.volumes.cap inside.held.cap c.place_of-at.result c.args.volume.0 row place c.index_mut-row.ensures.value c.self.invariant in
    let row_len = list_len inside.entries.store row.map row_of in
    let row_size = here_size inside.geometry inside.entries inside.volumes.items inside.held.items inside.total inside.promised inside.volumes.cap inside.held.cap c.place_of-at.result c.args.volume.0 row place c.index_mut-row.ensures.value c.self.invariant in
    let few = subst (λ (v : ShelfView). shelf_entries v.shelf + size_in v.shelf c.args.snapshot.0 ≤ v.shelf.geometry.map_chunks + size_in v.shelf c.args.volume.0) (sym c.self.view_is) c.requires.few in
    let most = row_few inside.geometry inside.entries inside.volumes.items inside.held.items inside.total inside.promised inside.volumes.cap inside.held.cap c.place_of-at.result c.args.volume.0 row place c.index_mut-row.ensures.value c.self.invariant in
    let sum = c.self.invariant.lists.summed in
    let len = c.len-chunks.ensures in
    let before = c.len.ensures in
    let before_is = ap (λ (m : MapState). m.len) c.replace-before.ensures.value in
    let limit = inside.geometry.map_to in
    let sizes : inside.total - c.len.result + c.len-chunks.result + length (list_of inside.entries.store row.map) ≡ inside.total + length (list_of inside.entries.store source.map) = omega arith in
    let fits : inside.total - c.len.result + c.len-chunks.result ≤ inside.geometry.map_chunks = omega arith in
    let pool = c.release.ensures.pool in
    let fresh_is = fresh_kept c.share-map.new.self.pool c.release.new.self.pool pool in
    let ended = subst (λ (m : MapState). Exchanges c.share-map.new.self.store c.release.new.self.store m.numbers []) c.replace-before.ensures.value c.release.ensures.others in
    subst (λ (m : MapState). IsShelf inside.geometry c.release.new.self (set inside.volumes.items c.place_of-at.result (record { id = row.id; head = row.head; map = m; allocated = source.allocated })) inside.held.items (inside.total - c.len.result + c.len-chunks.result) (inside.promised - 1) inside.volumes.cap inside.held.cap) (sym c.replace-before.ensures.after)
    (fewer_rooms inside.geometry c.release.new.self _ inside.held.items (inside.total - c.len.result + c.len-chunks.result) inside.promised (inside.promised - 1) inside.volumes.cap inside.held.cap (omega arith)
    (reverted_kept inside.geometry inside.entries c.share-map.new.self c.release.new.self inside.volumes.items inside.held.items inside.total (inside.total - c.len.result + c.len-chunks.result) inside.promised inside.volumes.cap inside.held.cap c.place_of-at.result c.args.volume.0 c.place_of-from.result c.args.snapshot.0 row source place c.index_mut-row.ensures.value at c.index-source.ensures c.self.invariant ens.others c.share-map.result ens.numbers ens.of ens.list ended (pool.size ∙ ap (λ (p : PoolState). length p.places) ens.pool) (pool.reserved ∙ ap (λ (p : PoolState). p.reserved) ens.pool) (fresh_is ∙ ap (λ (p : PoolState). fresh_from 0 p.places) ens.pool) sizes fits
    (subst (λ (es : List Entry). shares_rightly (with_chunks (seen_shelf inside.geometry inside.entries inside.volumes.items inside.held.items) c.args.volume.0 (λ _. es)) ≡ true) (sym (here_chunks inside.geometry inside.entries inside.volumes.items inside.held.items inside.total inside.promised inside.volumes.cap inside.held.cap c.place_of-from.result c.args.snapshot.0 source at c.index-source.ensures c.self.invariant))
    (reverted_shares (seen_shelf inside.geometry inside.entries inside.volumes.items inside.held.items) c.self.invariant.lists.shares c.args.volume.0 (seen_volume inside.entries.store source) (row_stands inside.geometry inside.entries inside.volumes.items inside.held.items inside.total inside.promised inside.volumes.cap inside.held.cap c.place_of-from.result c.args.snapshot.0 source at c.index-source.ensures c.self.invariant)))))

pub returns-clause-shelf : goal.returns-clause-shelf
returns-clause-shelf g c =
    let inside = c.self.inside in
    let source = c.index-source.result.now in
    let at = ap (position (is_row c.args.snapshot.0)) (sym c.deref.ensures.value) ∙ c.place_of-from.ensures in
    let row = c.index_mut-row.result.now in
    let place = ap (position (is_row c.args.volume.0)) (sym c.deref-2.ensures.value) ∙ c.place_of-at.ensures in
    let ens = c.share-map.ensures in
    let size = here_size inside.geometry inside.entries inside.volumes.items inside.held.items inside.total inside.promised inside.volumes.cap inside.held.cap c.place_of-from.result c.args.snapshot.0 source at c.index-source.ensures c.self.invariant in
    let source_of = here_of inside.geometry inside.entries inside.volumes.items inside.held.items inside.total inside.promised inside.volumes.cap inside.held.cap c.place_of-from.result c.args.snapshot.0 source at c.index-source.ensures c.self.invariant in
    let source_len = list_len inside.entries.store source.map source_of in
    let row_of = here_of inside.geometry inside.entries inside.volumes.items inside.held.items inside.total inside.promised inside.volumes.cap inside.held.cap c.place_of-at.result c.args.volume.0 row place c.index_mut-row.ensures.value c.self.invariant in
    let row_len = list_len inside.entries.store row.map row_of in
    let row_size = here_size inside.geometry inside.entries inside.volumes.items inside.held.items inside.total inside.promised inside.volumes.cap inside.held.cap c.place_of-at.result c.args.volume.0 row place c.index_mut-row.ensures.value c.self.invariant in
    let few = subst (λ (v : ShelfView). shelf_entries v.shelf + size_in v.shelf c.args.snapshot.0 ≤ v.shelf.geometry.map_chunks + size_in v.shelf c.args.volume.0) (sym c.self.view_is) c.requires.few in
    let most = row_few inside.geometry inside.entries inside.volumes.items inside.held.items inside.total inside.promised inside.volumes.cap inside.held.cap c.place_of-at.result c.args.volume.0 row place c.index_mut-row.ensures.value c.self.invariant in
    let sum = c.self.invariant.lists.summed in
    let len = c.len-chunks.ensures in
    let before = c.len.ensures in
    let before_is = ap (λ (m : MapState). m.len) c.replace-before.ensures.value in
    let limit = inside.geometry.map_to in
    let sizes : inside.total - c.len.result + c.len-chunks.result + length (list_of inside.entries.store row.map) ≡ inside.total + length (list_of inside.entries.store source.map) = omega arith in
    let fits : inside.total - c.len.result + c.len-chunks.result ≤ inside.geometry.map_chunks = omega arith in
    let pool = c.release.ensures.pool in
    let fresh_is = fresh_kept c.share-map.new.self.pool c.release.new.self.pool pool in
    let ended = subst (λ (m : MapState). Exchanges c.share-map.new.self.store c.release.new.self.store m.numbers []) c.replace-before.ensures.value c.release.ensures.others in
    ap (λ (m : MapState). seen_shelf inside.geometry c.release.new.self (set inside.volumes.items c.place_of-at.result (record { id = row.id; head = row.head; map = m; allocated = source.allocated })) inside.held.items) c.replace-before.ensures.after
    ∙ reverted_seen inside.geometry inside.entries c.share-map.new.self c.release.new.self inside.volumes.items inside.held.items inside.total (inside.total - c.len.result + c.len-chunks.result) inside.promised inside.volumes.cap inside.held.cap c.place_of-at.result c.args.volume.0 c.place_of-from.result c.args.snapshot.0 row source place c.index_mut-row.ensures.value at c.index-source.ensures c.self.invariant ens.others c.share-map.result ens.numbers ens.of ens.list ended (pool.size ∙ ap (λ (p : PoolState). length p.places) ens.pool) (pool.reserved ∙ ap (λ (p : PoolState). p.reserved) ens.pool) (fresh_is ∙ ap (λ (p : PoolState). fresh_from 0 p.places) ens.pool) sizes fits
    ∙ ap (λ (v : ShelfView). with_chunks v.shelf c.args.volume.0 (λ _. chunks_in v.shelf c.args.snapshot.0)) c.self.view_is

pub returns-clause-kept : goal.returns-clause-kept
returns-clause-kept g c =
    let inside = c.self.inside in
    let source = c.index-source.result.now in
    let at = ap (position (is_row c.args.snapshot.0)) (sym c.deref.ensures.value) ∙ c.place_of-from.ensures in
    let row = c.index_mut-row.result.now in
    let place = ap (position (is_row c.args.volume.0)) (sym c.deref-2.ensures.value) ∙ c.place_of-at.ensures in
    let ens = c.share-map.ensures in
    let size = here_size inside.geometry inside.entries inside.volumes.items inside.held.items inside.total inside.promised inside.volumes.cap inside.held.cap c.place_of-from.result c.args.snapshot.0 source at c.index-source.ensures c.self.invariant in
    let source_of = here_of inside.geometry inside.entries inside.volumes.items inside.held.items inside.total inside.promised inside.volumes.cap inside.held.cap c.place_of-from.result c.args.snapshot.0 source at c.index-source.ensures c.self.invariant in
    let source_len = list_len inside.entries.store source.map source_of in
    let row_of = here_of inside.geometry inside.entries inside.volumes.items inside.held.items inside.total inside.promised inside.volumes.cap inside.held.cap c.place_of-at.result c.args.volume.0 row place c.index_mut-row.ensures.value c.self.invariant in
    let row_len = list_len inside.entries.store row.map row_of in
    let row_size = here_size inside.geometry inside.entries inside.volumes.items inside.held.items inside.total inside.promised inside.volumes.cap inside.held.cap c.place_of-at.result c.args.volume.0 row place c.index_mut-row.ensures.value c.self.invariant in
    let few = subst (λ (v : ShelfView). shelf_entries v.shelf + size_in v.shelf c.args.snapshot.0 ≤ v.shelf.geometry.map_chunks + size_in v.shelf c.args.volume.0) (sym c.self.view_is) c.requires.few in
    let most = row_few inside.geometry inside.entries inside.volumes.items inside.held.items inside.total inside.promised inside.volumes.cap inside.held.cap c.place_of-at.result c.args.volume.0 row place c.index_mut-row.ensures.value c.self.invariant in
    let sum = c.self.invariant.lists.summed in
    let len = c.len-chunks.ensures in
    let before = c.len.ensures in
    let before_is = ap (λ (m : MapState). m.len) c.replace-before.ensures.value in
    let limit = inside.geometry.map_to in
    let sizes : inside.total - c.len.result + c.len-chunks.result + length (list_of inside.entries.store row.map) ≡ inside.total + length (list_of inside.entries.store source.map) = omega arith in
    let fits : inside.total - c.len.result + c.len-chunks.result ≤ inside.geometry.map_chunks = omega arith in
    let pool = c.release.ensures.pool in
    let fresh_is = fresh_kept c.share-map.new.self.pool c.release.new.self.pool pool in
    let ended = subst (λ (m : MapState). Exchanges c.share-map.new.self.store c.release.new.self.store m.numbers []) c.replace-before.ensures.value c.release.ensures.others in
    λ n k other other_source was_own.
    let own = ap (λ (v : ShelfView). is_own v n k) c.self.view_is ∙ was_own in
    ap (λ (m : MapState). own_in (map (seen_pages c.release.new.self.store) (set inside.volumes.items c.place_of-at.result (record { id = row.id; head = row.head; map = m; allocated = source.allocated }))) n k) c.replace-before.ensures.after
    ∙ reverted_own_kept inside.geometry inside.entries c.share-map.new.self c.release.new.self inside.volumes.items inside.held.items inside.total (inside.total - c.len.result + c.len-chunks.result) inside.promised inside.volumes.cap inside.held.cap c.place_of-at.result c.args.volume.0 c.place_of-from.result c.args.snapshot.0 row source place c.index_mut-row.ensures.value at c.index-source.ensures c.self.invariant ens.others c.share-map.result ens.numbers ens.of ens.list ended (pool.size ∙ ap (λ (p : PoolState). length p.places) ens.pool) (pool.reserved ∙ ap (λ (p : PoolState). p.reserved) ens.pool) (fresh_is ∙ ap (λ (p : PoolState). fresh_from 0 p.places) ens.pool) sizes fits n k other other_source own

pub returns-clause-steps : goal.returns-clause-steps
returns-clause-steps g c =
    let inside = c.self.inside in
    let source = c.index-source.result.now in
    let at = ap (position (is_row c.args.snapshot.0)) (sym c.deref.ensures.value) ∙ c.place_of-from.ensures in
    let asked = ap (λ (v : ShelfView). size_in v.shelf c.args.snapshot.0) (sym c.self.view_is) ∙ here_size inside.geometry inside.entries inside.volumes.items inside.held.items inside.total inside.promised inside.volumes.cap inside.held.cap c.place_of-from.result c.args.snapshot.0 source at c.index-source.ensures c.self.invariant in
    c.share-map.ensures.steps ∙ ap (λ k. c.args.steps.now + pages_for k) (sym asked)

pub returns-clause-others : goal.returns-clause-others
returns-clause-others g c = λ given others others_source good.
    let rooms = ap (λ (v : ShelfView). v.rooms) c.self.view_is in
    let some = c.requires.rows in
    good_spent_both c.args.self.now _ c.args.volume.0 c.args.snapshot.0 (size_in c.args.self.now.shelf c.args.snapshot.0) c.args.room given (returns-clause-kept g c) (omega arith) others others_source good
