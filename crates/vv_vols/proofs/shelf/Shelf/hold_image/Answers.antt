use Rattle.std.proofs.Common.{◌≡◌, ◌≤◌, ◌+◌, ◌-◌, true, List, find, sym, subst, ap, ◌∙◌, arith}
use Rattle.std.specs.Prelude.{IsSome, slice_index}
use Rattle.std.specs.List.{position}
use Rattle.vv_map.specs.Pages.{pages_for}
use Rattle.vv_flat.specs.State.{indexed}
use Rattle.vv_vols.specs.declared.row.VolumeRow.{VolumeRow}
use Rattle.vv_vols.specs.declared.row.HeldRow.{HeldRow}
use Rattle.vv_vols.specs.Shelf.{HeldName, held_in, volume_in, size_in, chunks_in, shelf_entries, first_gap, next_held}
use Rattle.vv_vols.specs.Calls.{with_held, new_held}
use Rattle.vv_vols.specs.Rows.{ShelfView, is_own, is_row, seen_shelf, IsShelf}
use Rattle.vv_vols.proofs.SeenShelf.{row_found}
use Rattle.vv_vols.proofs.WrittenRow.{here_of, here_size}
use Rattle.vv_vols.proofs.HeldTarget.{held_unused, held_numbers_seen}
use Rattle.vv_vols.proofs.HeldImage.{count_few, image_seen, image_kept, image_own}
use Rattle.vv_vols.proofs.GoodRooms.{good_spent_but}
use Rattle.vv_vols.proofs.shelf.Shelf.hold_image.Goals as goal

pub place_of-at-requires : goal.place_of-at-requires
place_of-at-requires g c =
    subst (λ (rows : List VolumeRow). IsSome (find (is_row c.args.id.0) rows)) (sym c.deref.ensures.value)
    (row_found c.self.inside.entries.store c.args.id.0 c.self.inside.volumes.items
    (subst (λ (s : ShelfView). IsSome (volume_in s.shelf c.args.id.0)) (sym c.self.view_is) c.requires.standing))

pub share-map-requires-clause-of : goal.share-map-requires-clause-of
share-map-requires-clause-of g c =
    let inside = c.self.inside in
    let id = c.args.id.0 in
    let row = c.index-row.result.now in
    let at = ap (position (is_row id)) (sym c.deref.ensures.value) ∙ c.place_of-at.ensures in
    let size : size_in c.args.self.now.shelf id ≡ row.map.len = ap (λ (v : ShelfView). size_in v.shelf id) (sym c.self.view_is) ∙ here_size inside.geometry inside.entries inside.volumes.items inside.held.items inside.total inside.promised inside.volumes.cap inside.held.cap c.place_of-at.result id row at c.index-row.ensures c.self.invariant in
    here_of inside.geometry inside.entries inside.volumes.items inside.held.items inside.total inside.promised inside.volumes.cap inside.held.cap c.place_of-at.result id row at c.index-row.ensures c.self.invariant

pub share-map-requires-clause-room : goal.share-map-requires-clause-room
share-map-requires-clause-room g c =
    let inside = c.self.inside in
    let id = c.args.id.0 in
    let row = c.index-row.result.now in
    let at = ap (position (is_row id)) (sym c.deref.ensures.value) ∙ c.place_of-at.ensures in
    let size : size_in c.args.self.now.shelf id ≡ row.map.len = ap (λ (v : ShelfView). size_in v.shelf id) (sym c.self.view_is) ∙ here_size inside.geometry inside.entries inside.volumes.items inside.held.items inside.total inside.promised inside.volumes.cap inside.held.cap c.place_of-at.result id row at c.index-row.ensures c.self.invariant in
    let room = c.requires.room.numbers in
    let pages = c.into_pages.ensures.numbers in
    omega arith

pub share-map-requires-clause-small : goal.share-map-requires-clause-small
share-map-requires-clause-small g c = λ i lt.
    let inside = c.self.inside in
    let few = count_few inside.geometry inside.entries inside.volumes.items inside.held.items inside.total inside.promised inside.volumes.cap inside.held.cap c.self.invariant (slice_index c.index-row.result.now.map.numbers i) in omega arith

pub overflow_add-self : goal.overflow_add-self
overflow_add-self g c =
    let inside = c.self.inside in
    let id = c.args.id.0 in
    let row = c.index-row.result.now in
    let at = ap (position (is_row id)) (sym c.deref.ensures.value) ∙ c.place_of-at.ensures in
    let size : size_in c.args.self.now.shelf id ≡ row.map.len = ap (λ (v : ShelfView). size_in v.shelf id) (sym c.self.view_is) ∙ here_size inside.geometry inside.entries inside.volumes.items inside.held.items inside.total inside.promised inside.volumes.cap inside.held.cap c.place_of-at.result id row at c.index-row.ensures c.self.invariant in
    let few = subst (λ (v : ShelfView). shelf_entries v.shelf + size_in v.shelf id ≤ v.shelf.geometry.map_chunks) (sym c.self.view_is) c.requires.few in
    let sum = c.self.invariant.lists.summed in
    let here_is = here_size inside.geometry inside.entries inside.volumes.items inside.held.items inside.total inside.promised inside.volumes.cap inside.held.cap c.place_of-at.result id row at c.index-row.ensures c.self.invariant in
    let fits : inside.total + row.map.len ≤ inside.geometry.map_chunks = omega arith in
    let some : 1 ≤ inside.promised = subst (λ (v : ShelfView). 1 ≤ v.rooms) (sym c.self.view_is) c.requires.rows in
    let ens = c.share-map.ensures in
    let limit = inside.geometry.map_to in
    let len = c.len-chunks.ensures in
    omega arith

pub invariant_of-self : goal.invariant_of-self
invariant_of-self g c =
    let inside = c.self.inside in
    let id = c.args.id.0 in
    let row = c.index-row.result.now in
    let at = ap (position (is_row id)) (sym c.deref.ensures.value) ∙ c.place_of-at.ensures in
    let size : size_in c.args.self.now.shelf id ≡ row.map.len = ap (λ (v : ShelfView). size_in v.shelf id) (sym c.self.view_is) ∙ here_size inside.geometry inside.entries inside.volumes.items inside.held.items inside.total inside.promised inside.volumes.cap inside.held.cap c.place_of-at.result id row at c.index-row.ensures c.self.invariant in
    let few = subst (λ (v : ShelfView). shelf_entries v.shelf + size_in v.shelf id ≤ v.shelf.geometry.map_chunks) (sym c.self.view_is) c.requires.few in
    let sum = c.self.invariant.lists.summed in
    let here_is = here_size inside.geometry inside.entries inside.volumes.items inside.held.items inside.total inside.promised inside.volumes.cap inside.held.cap c.place_of-at.result id row at c.index-row.ensures c.self.invariant in
    let fits : inside.total + row.map.len ≤ inside.geometry.map_chunks = omega arith in
    let some : 1 ≤ inside.promised = subst (λ (v : ShelfView). 1 ≤ v.rooms) (sym c.self.view_is) c.requires.rows in
    let ens = c.share-map.ensures in
    subst (λ k. IsShelf inside.geometry c.share-map.new.self inside.volumes.items c.add_held-number.new.rows.items (inside.total + k) (inside.promised - 1) inside.volumes.cap c.add_held-number.new.rows.cap) (sym c.len-chunks.ensures)
    (subst (λ (hs : List HeldRow). IsShelf inside.geometry c.share-map.new.self inside.volumes.items hs (inside.total + row.map.len) (inside.promised - 1) inside.volumes.cap c.add_held-number.new.rows.cap) (sym c.add_held-number.ensures.items)
    (image_kept inside.geometry inside.entries c.share-map.new.self inside.volumes.items inside.held.items inside.total inside.promised inside.volumes.cap inside.held.cap c.add_held-number.new.rows.cap c.place_of-at.result id c.add_held-number.result row c.share-map.result at c.index-row.ensures c.add_held-number.ensures.number ens.of ens.others ens.numbers ens.len ens.pool ens.list fits some c.add_held-number.ensures.capacity c.self.invariant))

pub returns-clause-held : goal.returns-clause-held
returns-clause-held g c =
    let inside = c.self.inside in
    let id = c.args.id.0 in
    let row = c.index-row.result.now in
    let at = ap (position (is_row id)) (sym c.deref.ensures.value) ∙ c.place_of-at.ensures in
    let size : size_in c.args.self.now.shelf id ≡ row.map.len = ap (λ (v : ShelfView). size_in v.shelf id) (sym c.self.view_is) ∙ here_size inside.geometry inside.entries inside.volumes.items inside.held.items inside.total inside.promised inside.volumes.cap inside.held.cap c.place_of-at.result id row at c.index-row.ensures c.self.invariant in
    let number : c.add_held-number.result ≡ next_held c.args.self.now.shelf = c.add_held-number.ensures.number ∙ ap (first_gap 0) (sym (held_numbers_seen inside.entries.store inside.held.items)) ∙ ap (λ (v : ShelfView). next_held v.shelf) c.self.view_is in
    c.new.ensures ∙ ap (λ k. let h : HeldName = record { number = k; len = c.len-chunks.result } in h) number
    ∙ ap (λ m. let h : HeldName = record { number = next_held c.args.self.now.shelf; len = m } in h) (c.len-chunks.ensures ∙ sym size)

pub returns-clause-unused : goal.returns-clause-unused
returns-clause-unused g c =
    let inside = c.self.inside in
    ap (λ (h : HeldName). held_in c.args.self.now.shelf h.number) c.new.ensures
    ∙ ap (λ (v : ShelfView). held_in v.shelf c.add_held-number.result) (sym c.self.view_is)
    ∙ held_unused inside.entries.store c.add_held-number.result inside.held.items c.add_held-number.ensures.number c.self.invariant.held_rising

pub returns-clause-shelf : goal.returns-clause-shelf
returns-clause-shelf g c =
    let inside = c.self.inside in
    let id = c.args.id.0 in
    let row = c.index-row.result.now in
    let at = ap (position (is_row id)) (sym c.deref.ensures.value) ∙ c.place_of-at.ensures in
    let size : size_in c.args.self.now.shelf id ≡ row.map.len = ap (λ (v : ShelfView). size_in v.shelf id) (sym c.self.view_is) ∙ here_size inside.geometry inside.entries inside.volumes.items inside.held.items inside.total inside.promised inside.volumes.cap inside.held.cap c.place_of-at.result id row at c.index-row.ensures c.self.invariant in
    let few = subst (λ (v : ShelfView). shelf_entries v.shelf + size_in v.shelf id ≤ v.shelf.geometry.map_chunks) (sym c.self.view_is) c.requires.few in
    let sum = c.self.invariant.lists.summed in
    let here_is = here_size inside.geometry inside.entries inside.volumes.items inside.held.items inside.total inside.promised inside.volumes.cap inside.held.cap c.place_of-at.result id row at c.index-row.ensures c.self.invariant in
    let fits : inside.total + row.map.len ≤ inside.geometry.map_chunks = omega arith in
    let some : 1 ≤ inside.promised = subst (λ (v : ShelfView). 1 ≤ v.rooms) (sym c.self.view_is) c.requires.rows in
    let ens = c.share-map.ensures in
    ap (λ (hs : List HeldRow). seen_shelf inside.geometry c.share-map.new.self inside.volumes.items hs) c.add_held-number.ensures.items
    ∙ image_seen inside.geometry inside.entries c.share-map.new.self inside.volumes.items inside.held.items inside.total inside.promised inside.volumes.cap inside.held.cap c.add_held-number.new.rows.cap c.place_of-at.result id c.add_held-number.result row c.share-map.result at c.index-row.ensures c.add_held-number.ensures.number ens.of ens.others ens.numbers ens.len ens.pool ens.list fits some c.add_held-number.ensures.capacity c.self.invariant
    ∙ ap (λ (v : ShelfView). with_held v.shelf (new_held v.shelf (indexed (chunks_in v.shelf id)) true 0)) c.self.view_is

pub returns-clause-kept : goal.returns-clause-kept
returns-clause-kept g c = λ v k ne own.
    let inside = c.self.inside in
    let id = c.args.id.0 in
    let row = c.index-row.result.now in
    let at = ap (position (is_row id)) (sym c.deref.ensures.value) ∙ c.place_of-at.ensures in
    let size : size_in c.args.self.now.shelf id ≡ row.map.len = ap (λ (v : ShelfView). size_in v.shelf id) (sym c.self.view_is) ∙ here_size inside.geometry inside.entries inside.volumes.items inside.held.items inside.total inside.promised inside.volumes.cap inside.held.cap c.place_of-at.result id row at c.index-row.ensures c.self.invariant in
    let few = subst (λ (v : ShelfView). shelf_entries v.shelf + size_in v.shelf id ≤ v.shelf.geometry.map_chunks) (sym c.self.view_is) c.requires.few in
    let sum = c.self.invariant.lists.summed in
    let here_is = here_size inside.geometry inside.entries inside.volumes.items inside.held.items inside.total inside.promised inside.volumes.cap inside.held.cap c.place_of-at.result id row at c.index-row.ensures c.self.invariant in
    let fits : inside.total + row.map.len ≤ inside.geometry.map_chunks = omega arith in
    let some : 1 ≤ inside.promised = subst (λ (v : ShelfView). 1 ≤ v.rooms) (sym c.self.view_is) c.requires.rows in
    let ens = c.share-map.ensures in
    image_own inside.geometry inside.entries c.share-map.new.self inside.volumes.items inside.held.items inside.total inside.promised inside.volumes.cap inside.held.cap c.add_held-number.new.rows.cap c.place_of-at.result id c.add_held-number.result row c.share-map.result at c.index-row.ensures c.add_held-number.ensures.number ens.of ens.others ens.numbers ens.len ens.pool ens.list fits some c.add_held-number.ensures.capacity c.self.invariant v k ne (ap (λ (w : ShelfView). is_own w v k) c.self.view_is ∙ own)

pub returns-clause-steps : goal.returns-clause-steps
returns-clause-steps g c =
    let inside = c.self.inside in
    let id = c.args.id.0 in
    let row = c.index-row.result.now in
    let at = ap (position (is_row id)) (sym c.deref.ensures.value) ∙ c.place_of-at.ensures in
    let size : size_in c.args.self.now.shelf id ≡ row.map.len = ap (λ (v : ShelfView). size_in v.shelf id) (sym c.self.view_is) ∙ here_size inside.geometry inside.entries inside.volumes.items inside.held.items inside.total inside.promised inside.volumes.cap inside.held.cap c.place_of-at.result id row at c.index-row.ensures c.self.invariant in
    c.share-map.ensures.steps ∙ ap (λ k. c.args.steps.now + pages_for k) (sym size)

pub returns-clause-others : goal.returns-clause-others
returns-clause-others g c = λ given others good.
    let rooms = ap (λ (v : ShelfView). v.rooms) c.self.view_is in
    let some = c.requires.rows in
    good_spent_but c.args.self.now _ c.args.id.0 (size_in c.args.self.now.shelf c.args.id.0) c.args.room given (returns-clause-kept g c) (omega arith) others good
