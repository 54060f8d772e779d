use Rattle.std.proofs.Common.{ℕ, ◌≡◌, ◌≤◌, ◌+◌, ◌-◌, List, [], map, None, sym, subst, ap, ◌∙◌, arith}
use Rattle.std.specs.Prelude.{IsSome, slice_index}
use Rattle.std.specs.List.{find, position}
use Rattle.vv_map.specs.Pages.{pages_for}
use Rattle.vv_entries.specs.Changes.{Exchanges}
use Rattle.vv_flat.specs.Chunks.{Entry}
use Rattle.vv_vols.specs.declared.row.VolumeRow.{VolumeRow}
use Rattle.vv_vols.specs.Shelf.{volume_in, size_in, chunks_in, shelf_entries}
use Rattle.vv_vols.specs.Calls.{with_made}
use Rattle.vv_vols.specs.Rows.{ShelfView, is_own, is_row, own_in, volume_with, seen_entries, seen_volume, seen_pages, seen_shelf, allocated_in, IsShelf}
use Rattle.vv_vols.proofs.SeenShelf.{row_found}
use Rattle.vv_vols.proofs.Kept.{copied_shares}
use Rattle.vv_vols.proofs.RowCalls.{row_allocated}
use Rattle.vv_vols.proofs.WrittenRow.{here_of, here_size}
use Rattle.vv_vols.proofs.ReadRow.{row_none, here_chunks}
use Rattle.vv_vols.proofs.SharedRooms.{good_spent_but}
use Rattle.vv_vols.proofs.SharedPages.{row_stands, few_names, shared_filled, shared_own}
use Rattle.vv_vols.proofs.AddedRow.{added_seen, added_kept, added_own}
use Rattle.vv_vols.proofs.shelf.Shelf.copy_list.Goals as goal

pub place_of-from-requires : goal.place_of-from-requires
place_of-from-requires g c =
    subst (λ (rows : List VolumeRow). IsSome (find (is_row c.args.volume.0) rows)) (sym c.deref.ensures.value)
    (row_found c.self.inside.entries.store c.args.volume.0 c.self.inside.volumes.items
    (subst (λ (s : ShelfView). IsSome (volume_in s.shelf c.args.volume.0)) (sym c.self.view_is) c.requires.standing))

pub share-map-requires-clause-of : goal.share-map-requires-clause-of
share-map-requires-clause-of g c =
    let inside = c.self.inside in
    let source = c.index-source.result.now in
    let at = ap (position (is_row c.args.volume.0)) (sym c.deref.ensures.value) ∙ c.place_of-from.ensures in
    here_of inside.geometry inside.entries inside.volumes.items inside.held.items inside.total inside.promised inside.volumes.cap inside.held.cap c.place_of-from.result c.args.volume.0 source at c.index-source.ensures c.self.invariant

pub share-map-requires-clause-room : goal.share-map-requires-clause-room
share-map-requires-clause-room g c =
    let inside = c.self.inside in
    let source = c.index-source.result.now in
    let at = ap (position (is_row c.args.volume.0)) (sym c.deref.ensures.value) ∙ c.place_of-from.ensures in
    let asked = ap (λ (v : ShelfView). size_in v.shelf c.args.volume.0) (sym c.self.view_is) ∙ here_size inside.geometry inside.entries inside.volumes.items inside.held.items inside.total inside.promised inside.volumes.cap inside.held.cap c.place_of-from.result c.args.volume.0 source at c.index-source.ensures c.self.invariant in
    let room = c.requires.room.numbers in
    let same = c.into_pages.ensures.numbers in
    subst (λ k. pages_for k ≤ c.into_pages.result.numbers) asked (omega arith)

pub share-map-requires-clause-small : goal.share-map-requires-clause-small
share-map-requires-clause-small g c =
    let inside = c.self.inside in
    let source = c.index-source.result.now in
    let at = ap (position (is_row c.args.volume.0)) (sym c.deref.ensures.value) ∙ c.place_of-from.ensures in
    λ k lt. few_names inside.geometry inside.entries inside.volumes.items inside.held.items inside.total inside.promised inside.volumes.cap inside.held.cap c.place_of-from.result c.args.volume.0 source at c.index-source.ensures c.self.invariant (slice_index source.map.numbers k)

pub overflow_add-self : goal.overflow_add-self
overflow_add-self g c =
    let inside = c.self.inside in
    let source = c.index-source.result.now in
    let at = ap (position (is_row c.args.volume.0)) (sym c.deref.ensures.value) ∙ c.place_of-from.ensures in
    let asked = ap (λ (v : ShelfView). size_in v.shelf c.args.volume.0) (sym c.self.view_is) ∙ here_size inside.geometry inside.entries inside.volumes.items inside.held.items inside.total inside.promised inside.volumes.cap inside.held.cap c.place_of-from.result c.args.volume.0 source at c.index-source.ensures c.self.invariant in
    let len = c.len-chunks.ensures in
    let few = subst (λ (v : ShelfView). shelf_entries v.shelf + size_in v.shelf c.args.volume.0 ≤ v.shelf.geometry.map_chunks) (sym c.self.view_is) c.requires.few in
    let sum = c.self.invariant.lists.summed in
    let size = here_size inside.geometry inside.entries inside.volumes.items inside.held.items inside.total inside.promised inside.volumes.cap inside.held.cap c.place_of-from.result c.args.volume.0 source at c.index-source.ensures c.self.invariant in
    let limit = inside.geometry.map_to in
    omega arith

pub invariant_of-self : goal.invariant_of-self
invariant_of-self g c =
    let inside = c.self.inside in
    let source = c.index-source.result.now in
    let at = ap (position (is_row c.args.volume.0)) (sym c.deref.ensures.value) ∙ c.place_of-from.ensures in
    let asked = ap (λ (v : ShelfView). size_in v.shelf c.args.volume.0) (sym c.self.view_is) ∙ here_size inside.geometry inside.entries inside.volumes.items inside.held.items inside.total inside.promised inside.volumes.cap inside.held.cap c.place_of-from.result c.args.volume.0 source at c.index-source.ensures c.self.invariant in
    let ens = c.share-map.ensures in
    let len = c.len-chunks.ensures in
    let few = subst (λ (v : ShelfView). shelf_entries v.shelf + size_in v.shelf c.args.volume.0 ≤ v.shelf.geometry.map_chunks) (sym c.self.view_is) c.requires.few in
    let sum = c.self.invariant.lists.summed in
    let size = here_size inside.geometry inside.entries inside.volumes.items inside.held.items inside.total inside.promised inside.volumes.cap inside.held.cap c.place_of-from.result c.args.volume.0 source at c.index-source.ensures c.self.invariant in
    let fits : inside.total + c.len-chunks.result ≤ inside.geometry.map_chunks = omega arith in
    let some : 1 ≤ inside.promised = subst (λ (v : ShelfView). 1 ≤ v.rooms) (sym c.self.view_is) c.requires.rows in
    let unused = row_none inside.entries.store c.args.id.0 inside.volumes.items (subst (λ (v : ShelfView). volume_in v.shelf c.args.id.0 ≡ None) (sym c.self.view_is) c.requires.unused) in
    let row : VolumeRow = record { id = c.args.id; head = c.args.head; map = c.share-map.result; allocated = source.allocated } in
    let long : c.share-map.result.len ≡ c.len-chunks.result = ens.len ∙ sym len in
    let ex = subst (λ (ns : List ℕ). Exchanges inside.entries.store c.share-map.new.self.store [] ns) (sym ens.numbers) ens.others in
    let allocated = row_allocated inside.geometry inside.entries inside.volumes.items inside.held.items inside.total c.place_of-from.result c.args.volume.0 source source at c.index-source.ensures c.self.invariant.lists ∙ ap allocated_in (sym ens.list) in
    let chunks = ap seen_entries ens.list in
    subst (λ (vs : List VolumeRow). IsShelf inside.geometry c.share-map.new.self vs inside.held.items (inside.total + c.len-chunks.result) (inside.promised - 1) c.put_row.new.rows.cap inside.held.cap) (sym c.put_row.ensures.items)
    (added_kept inside.geometry inside.entries c.share-map.new.self inside.volumes.items inside.held.items inside.total c.len-chunks.result inside.promised inside.volumes.cap inside.held.cap c.put_row.new.rows.cap row unused long ens.of ex ens.pool allocated fits some c.put_row.ensures.capacity c.self.invariant
    (shared_filled inside.geometry inside.entries inside.volumes.items inside.held.items inside.total inside.promised inside.volumes.cap inside.held.cap c.place_of-from.result c.args.volume.0 source at c.index-source.ensures c.self.invariant c.share-map.new.self ens.others)
    (copied_shares (seen_shelf inside.geometry inside.entries inside.volumes.items inside.held.items) c.self.invariant.lists.shares (seen_volume c.share-map.new.self.store row) (seen_volume inside.entries.store source)
    (row_stands inside.geometry inside.entries inside.volumes.items inside.held.items inside.total inside.promised inside.volumes.cap inside.held.cap c.place_of-from.result c.args.volume.0 source at c.index-source.ensures c.self.invariant) chunks))

pub returns-clause-shelf : goal.returns-clause-shelf
returns-clause-shelf g c =
    let inside = c.self.inside in
    let source = c.index-source.result.now in
    let at = ap (position (is_row c.args.volume.0)) (sym c.deref.ensures.value) ∙ c.place_of-from.ensures in
    let asked = ap (λ (v : ShelfView). size_in v.shelf c.args.volume.0) (sym c.self.view_is) ∙ here_size inside.geometry inside.entries inside.volumes.items inside.held.items inside.total inside.promised inside.volumes.cap inside.held.cap c.place_of-from.result c.args.volume.0 source at c.index-source.ensures c.self.invariant in
    let ens = c.share-map.ensures in
    let len = c.len-chunks.ensures in
    let few = subst (λ (v : ShelfView). shelf_entries v.shelf + size_in v.shelf c.args.volume.0 ≤ v.shelf.geometry.map_chunks) (sym c.self.view_is) c.requires.few in
    let sum = c.self.invariant.lists.summed in
    let size = here_size inside.geometry inside.entries inside.volumes.items inside.held.items inside.total inside.promised inside.volumes.cap inside.held.cap c.place_of-from.result c.args.volume.0 source at c.index-source.ensures c.self.invariant in
    let fits : inside.total + c.len-chunks.result ≤ inside.geometry.map_chunks = omega arith in
    let some : 1 ≤ inside.promised = subst (λ (v : ShelfView). 1 ≤ v.rooms) (sym c.self.view_is) c.requires.rows in
    let unused = row_none inside.entries.store c.args.id.0 inside.volumes.items (subst (λ (v : ShelfView). volume_in v.shelf c.args.id.0 ≡ None) (sym c.self.view_is) c.requires.unused) in
    let row : VolumeRow = record { id = c.args.id; head = c.args.head; map = c.share-map.result; allocated = source.allocated } in
    let long : c.share-map.result.len ≡ c.len-chunks.result = ens.len ∙ sym len in
    let ex = subst (λ (ns : List ℕ). Exchanges inside.entries.store c.share-map.new.self.store [] ns) (sym ens.numbers) ens.others in
    let allocated = row_allocated inside.geometry inside.entries inside.volumes.items inside.held.items inside.total c.place_of-from.result c.args.volume.0 source source at c.index-source.ensures c.self.invariant.lists ∙ ap allocated_in (sym ens.list) in
    let chunks = ap seen_entries ens.list in
    ap (λ (vs : List VolumeRow). seen_shelf inside.geometry c.share-map.new.self vs inside.held.items) c.put_row.ensures.items
    ∙ added_seen inside.geometry inside.entries c.share-map.new.self inside.volumes.items inside.held.items inside.total c.len-chunks.result inside.promised inside.volumes.cap inside.held.cap c.put_row.new.rows.cap row unused long ens.of ex ens.pool allocated fits some c.put_row.ensures.capacity c.self.invariant
    ∙ ap (λ (es : List Entry). with_made (seen_shelf inside.geometry inside.entries inside.volumes.items inside.held.items) (volume_with c.args.id.0 c.args.head es)) (chunks ∙ sym (here_chunks inside.geometry inside.entries inside.volumes.items inside.held.items inside.total inside.promised inside.volumes.cap inside.held.cap c.place_of-from.result c.args.volume.0 source at c.index-source.ensures c.self.invariant))
    ∙ ap (λ (v : ShelfView). with_made v.shelf (volume_with c.args.id.0 c.args.head (chunks_in v.shelf c.args.volume.0))) c.self.view_is

pub returns-clause-kept : goal.returns-clause-kept
returns-clause-kept g c =
    let inside = c.self.inside in
    let source = c.index-source.result.now in
    let at = ap (position (is_row c.args.volume.0)) (sym c.deref.ensures.value) ∙ c.place_of-from.ensures in
    let asked = ap (λ (v : ShelfView). size_in v.shelf c.args.volume.0) (sym c.self.view_is) ∙ here_size inside.geometry inside.entries inside.volumes.items inside.held.items inside.total inside.promised inside.volumes.cap inside.held.cap c.place_of-from.result c.args.volume.0 source at c.index-source.ensures c.self.invariant in
    let ens = c.share-map.ensures in
    let len = c.len-chunks.ensures in
    let few = subst (λ (v : ShelfView). shelf_entries v.shelf + size_in v.shelf c.args.volume.0 ≤ v.shelf.geometry.map_chunks) (sym c.self.view_is) c.requires.few in
    let sum = c.self.invariant.lists.summed in
    let size = here_size inside.geometry inside.entries inside.volumes.items inside.held.items inside.total inside.promised inside.volumes.cap inside.held.cap c.place_of-from.result c.args.volume.0 source at c.index-source.ensures c.self.invariant in
    let fits : inside.total + c.len-chunks.result ≤ inside.geometry.map_chunks = omega arith in
    let some : 1 ≤ inside.promised = subst (λ (v : ShelfView). 1 ≤ v.rooms) (sym c.self.view_is) c.requires.rows in
    let unused = row_none inside.entries.store c.args.id.0 inside.volumes.items (subst (λ (v : ShelfView). volume_in v.shelf c.args.id.0 ≡ None) (sym c.self.view_is) c.requires.unused) in
    let row : VolumeRow = record { id = c.args.id; head = c.args.head; map = c.share-map.result; allocated = source.allocated } in
    let long : c.share-map.result.len ≡ c.len-chunks.result = ens.len ∙ sym len in
    let ex = subst (λ (ns : List ℕ). Exchanges inside.entries.store c.share-map.new.self.store [] ns) (sym ens.numbers) ens.others in
    let allocated = row_allocated inside.geometry inside.entries inside.volumes.items inside.held.items inside.total c.place_of-from.result c.args.volume.0 source source at c.index-source.ensures c.self.invariant.lists ∙ ap allocated_in (sym ens.list) in
    let chunks = ap seen_entries ens.list in
    λ n k other was_own.
    let own = ap (λ (v : ShelfView). is_own v n k) c.self.view_is ∙ was_own in
    ap (λ (vs : List VolumeRow). own_in (map (seen_pages c.share-map.new.self.store) vs) n k) c.put_row.ensures.items
    ∙ added_own inside.geometry inside.entries c.share-map.new.self inside.volumes.items inside.held.items inside.total c.len-chunks.result inside.promised inside.volumes.cap inside.held.cap c.put_row.new.rows.cap row unused long ens.of ex ens.pool allocated fits some c.put_row.ensures.capacity c.self.invariant n k own
    (shared_own inside.geometry inside.entries inside.volumes.items inside.held.items inside.total inside.promised inside.volumes.cap inside.held.cap c.place_of-from.result c.args.volume.0 source at c.index-source.ensures c.self.invariant c.share-map.new.self ens.others n k other own)

pub returns-clause-steps : goal.returns-clause-steps
returns-clause-steps g c =
    let inside = c.self.inside in
    let source = c.index-source.result.now in
    let at = ap (position (is_row c.args.volume.0)) (sym c.deref.ensures.value) ∙ c.place_of-from.ensures in
    let asked = ap (λ (v : ShelfView). size_in v.shelf c.args.volume.0) (sym c.self.view_is) ∙ here_size inside.geometry inside.entries inside.volumes.items inside.held.items inside.total inside.promised inside.volumes.cap inside.held.cap c.place_of-from.result c.args.volume.0 source at c.index-source.ensures c.self.invariant in
    c.share-map.ensures.steps ∙ ap (λ k. c.args.steps.now + pages_for k) (sym asked)

pub returns-clause-others : goal.returns-clause-others
returns-clause-others g c = λ given others good.
    let rooms = ap (λ (v : ShelfView). v.rooms) c.self.view_is in
    let some = c.requires.rows in
    good_spent_but c.args.self.now _ c.args.volume.0 (size_in c.args.self.now.shelf c.args.volume.0) c.args.room given (returns-clause-kept g c) (omega arith) others good
