use Rattle.std.proofs.Common.{◌≡◌, ◌≤◌, ◌+◌, ◌-◌, List, ◌++◌, length, replicate, sym, subst, ap, ◌∙◌, arith}
use Rattle.std.specs.Prelude.{IsSome}
use Rattle.std.specs.List.{find, position}
use Rattle.vv_map.specs.Pages.{list_of}
use Rattle.vv_flat.specs.Chunks.{Entry, unmapped_entry}
use Rattle.vv_flat.proofs.Positions.{position_some}
use Rattle.vv_vols.specs.declared.row.VolumeRow.{VolumeRow}
use Rattle.vv_vols.specs.Shelf.{volume_in, size_in, shelf_entries}
use Rattle.vv_vols.specs.Calls.{with_size}
use Rattle.vv_vols.specs.Rows.{ShelfView, is_own, is_row, seen_shelf, allocated_in}
use Rattle.vv_vols.proofs.SeenShelf.{row_found}
use Rattle.vv_vols.proofs.SeenPlaces.{fresh_kept}
use Rattle.vv_vols.proofs.Kept.{sized_shares}
use Rattle.vv_vols.proofs.RowCalls.{row_allocated}
use Rattle.vv_vols.proofs.OwnKept.{list_len}
use Rattle.vv_vols.proofs.Numbers.{pages_beside, allocated_grown}
use Rattle.vv_vols.proofs.FreshPut.{row_few}
use Rattle.vv_vols.proofs.WrittenRow.{here_of, here_size}
use Rattle.vv_vols.proofs.ChangedList.{fewer_rooms, list_seen, list_kept, list_own_kept, grown_seen, grown_own}
use Rattle.vv_vols.proofs.GoodRooms.{good_spent}
use Rattle.vv_vols.proofs.shelf.Shelf.grow.Goals as goal

pub place_of-at-requires : goal.place_of-at-requires
place_of-at-requires g c =
    subst (λ (rows : List VolumeRow). IsSome (find (is_row c.args.id.0) rows)) (sym c.deref.ensures.value)
    (row_found c.self.inside.entries.store c.args.id.0 c.self.inside.volumes.items
    (subst (λ (s : ShelfView). IsSome (volume_in s.shelf c.args.id.0)) (sym c.self.view_is) c.requires.standing))

pub grow-requires-clause-of : goal.grow-requires-clause-of
grow-requires-clause-of g c =
    let inside = c.self.inside in
    let at = ap (position (is_row c.args.id.0)) (sym c.deref.ensures.value) ∙ c.place_of-at.ensures in
    here_of inside.geometry inside.entries inside.volumes.items inside.held.items inside.total inside.promised inside.volumes.cap inside.held.cap c.place_of-at.result c.args.id.0 c.index_mut-row.result.now at c.index_mut-row.ensures.value c.self.invariant

pub grow-requires-clause-more : goal.grow-requires-clause-more
grow-requires-clause-more g c =
    let inside = c.self.inside in
    let at = ap (position (is_row c.args.id.0)) (sym c.deref.ensures.value) ∙ c.place_of-at.ensures in
    let map = c.index_mut-row.result.now.map in
    let of = here_of inside.geometry inside.entries inside.volumes.items inside.held.items inside.total inside.promised inside.volumes.cap inside.held.cap c.place_of-at.result c.args.id.0 c.index_mut-row.result.now at c.index_mut-row.ensures.value c.self.invariant in
    let size = list_len inside.entries.store map of in
    let more : map.len ≤ c.args.chunks = subst (λ k. k ≤ c.args.chunks) (ap (λ (v : ShelfView). size_in v.shelf c.args.id.0) (sym c.self.view_is) ∙ here_size inside.geometry inside.entries inside.volumes.items inside.held.items inside.total inside.promised inside.volumes.cap inside.held.cap c.place_of-at.result c.args.id.0 c.index_mut-row.result.now at c.index_mut-row.ensures.value c.self.invariant) c.requires.more in
    let few : shelf_entries (seen_shelf inside.geometry inside.entries inside.volumes.items inside.held.items) + c.args.chunks ≤ inside.geometry.map_chunks + map.len =
    subst (λ k. shelf_entries (seen_shelf inside.geometry inside.entries inside.volumes.items inside.held.items) + c.args.chunks ≤ inside.geometry.map_chunks + k) (here_size inside.geometry inside.entries inside.volumes.items inside.held.items inside.total inside.promised inside.volumes.cap inside.held.cap c.place_of-at.result c.args.id.0 c.index_mut-row.result.now at c.index_mut-row.ensures.value c.self.invariant)
    (subst (λ (v : ShelfView). shelf_entries v.shelf + c.args.chunks ≤ v.shelf.geometry.map_chunks + size_in v.shelf c.args.id.0) (sym c.self.view_is) c.requires.few) in
    let sum = c.self.invariant.lists.summed in
    let most = row_few inside.geometry inside.entries inside.volumes.items inside.held.items inside.total inside.promised inside.volumes.cap inside.held.cap c.place_of-at.result c.args.id.0 c.index_mut-row.result.now at c.index_mut-row.ensures.value c.self.invariant in
    let before = c.len-before.ensures in
    let limit = inside.geometry.map_to in
    more

pub grow-requires-clause-unused : goal.grow-requires-clause-unused
grow-requires-clause-unused g c =
    let inside = c.self.inside in
    let at = ap (position (is_row c.args.id.0)) (sym c.deref.ensures.value) ∙ c.place_of-at.ensures in
    let map = c.index_mut-row.result.now.map in
    let of = here_of inside.geometry inside.entries inside.volumes.items inside.held.items inside.total inside.promised inside.volumes.cap inside.held.cap c.place_of-at.result c.args.id.0 c.index_mut-row.result.now at c.index_mut-row.ensures.value c.self.invariant in
    let size = list_len inside.entries.store map of in
    let more : map.len ≤ c.args.chunks = subst (λ k. k ≤ c.args.chunks) (ap (λ (v : ShelfView). size_in v.shelf c.args.id.0) (sym c.self.view_is) ∙ here_size inside.geometry inside.entries inside.volumes.items inside.held.items inside.total inside.promised inside.volumes.cap inside.held.cap c.place_of-at.result c.args.id.0 c.index_mut-row.result.now at c.index_mut-row.ensures.value c.self.invariant) c.requires.more in
    let few : shelf_entries (seen_shelf inside.geometry inside.entries inside.volumes.items inside.held.items) + c.args.chunks ≤ inside.geometry.map_chunks + map.len =
    subst (λ k. shelf_entries (seen_shelf inside.geometry inside.entries inside.volumes.items inside.held.items) + c.args.chunks ≤ inside.geometry.map_chunks + k) (here_size inside.geometry inside.entries inside.volumes.items inside.held.items inside.total inside.promised inside.volumes.cap inside.held.cap c.place_of-at.result c.args.id.0 c.index_mut-row.result.now at c.index_mut-row.ensures.value c.self.invariant)
    (subst (λ (v : ShelfView). shelf_entries v.shelf + c.args.chunks ≤ v.shelf.geometry.map_chunks + size_in v.shelf c.args.id.0) (sym c.self.view_is) c.requires.few) in
    let sum = c.self.invariant.lists.summed in
    let most = row_few inside.geometry inside.entries inside.volumes.items inside.held.items inside.total inside.promised inside.volumes.cap inside.held.cap c.place_of-at.result c.args.id.0 c.index_mut-row.result.now at c.index_mut-row.ensures.value c.self.invariant in
    let before = c.len-before.ensures in
    let limit = inside.geometry.map_to in
    let place = position_some (is_row c.args.id.0) inside.volumes.items c.place_of-at.result at in
    let beside = pages_beside inside.geometry inside.entries inside.volumes.items inside.held.items inside.total inside.promised inside.volumes.cap inside.held.cap c.self.invariant c.place_of-at.result c.index_mut-row.result.now (let e = place.0 in let l = place.1 in omega arith) c.index_mut-row.ensures.value in
    let pages = of.size in
    omega arith

pub grow-requires-clause-unused_copy : goal.grow-requires-clause-unused_copy
grow-requires-clause-unused_copy g c =
    let inside = c.self.inside in
    let at = ap (position (is_row c.args.id.0)) (sym c.deref.ensures.value) ∙ c.place_of-at.ensures in
    let map = c.index_mut-row.result.now.map in
    let of = here_of inside.geometry inside.entries inside.volumes.items inside.held.items inside.total inside.promised inside.volumes.cap inside.held.cap c.place_of-at.result c.args.id.0 c.index_mut-row.result.now at c.index_mut-row.ensures.value c.self.invariant in
    let size = list_len inside.entries.store map of in
    let more : map.len ≤ c.args.chunks = subst (λ k. k ≤ c.args.chunks) (ap (λ (v : ShelfView). size_in v.shelf c.args.id.0) (sym c.self.view_is) ∙ here_size inside.geometry inside.entries inside.volumes.items inside.held.items inside.total inside.promised inside.volumes.cap inside.held.cap c.place_of-at.result c.args.id.0 c.index_mut-row.result.now at c.index_mut-row.ensures.value c.self.invariant) c.requires.more in
    let few : shelf_entries (seen_shelf inside.geometry inside.entries inside.volumes.items inside.held.items) + c.args.chunks ≤ inside.geometry.map_chunks + map.len =
    subst (λ k. shelf_entries (seen_shelf inside.geometry inside.entries inside.volumes.items inside.held.items) + c.args.chunks ≤ inside.geometry.map_chunks + k) (here_size inside.geometry inside.entries inside.volumes.items inside.held.items inside.total inside.promised inside.volumes.cap inside.held.cap c.place_of-at.result c.args.id.0 c.index_mut-row.result.now at c.index_mut-row.ensures.value c.self.invariant)
    (subst (λ (v : ShelfView). shelf_entries v.shelf + c.args.chunks ≤ v.shelf.geometry.map_chunks + size_in v.shelf c.args.id.0) (sym c.self.view_is) c.requires.few) in
    let sum = c.self.invariant.lists.summed in
    let most = row_few inside.geometry inside.entries inside.volumes.items inside.held.items inside.total inside.promised inside.volumes.cap inside.held.cap c.place_of-at.result c.args.id.0 c.index_mut-row.result.now at c.index_mut-row.ensures.value c.self.invariant in
    let before = c.len-before.ensures in
    let limit = inside.geometry.map_to in
    let place = position_some (is_row c.args.id.0) inside.volumes.items c.place_of-at.result at in
    let beside = pages_beside inside.geometry inside.entries inside.volumes.items inside.held.items inside.total inside.promised inside.volumes.cap inside.held.cap c.self.invariant c.place_of-at.result c.index_mut-row.result.now (let e = place.0 in let l = place.1 in omega arith) c.index_mut-row.ensures.value in
    let pages = of.size in
    λ part longer. omega arith

pub overflow_sub-self : goal.overflow_sub-self
overflow_sub-self g c =
    let inside = c.self.inside in
    let at = ap (position (is_row c.args.id.0)) (sym c.deref.ensures.value) ∙ c.place_of-at.ensures in
    let map = c.index_mut-row.result.now.map in
    let of = here_of inside.geometry inside.entries inside.volumes.items inside.held.items inside.total inside.promised inside.volumes.cap inside.held.cap c.place_of-at.result c.args.id.0 c.index_mut-row.result.now at c.index_mut-row.ensures.value c.self.invariant in
    let size = list_len inside.entries.store map of in
    let more : map.len ≤ c.args.chunks = subst (λ k. k ≤ c.args.chunks) (ap (λ (v : ShelfView). size_in v.shelf c.args.id.0) (sym c.self.view_is) ∙ here_size inside.geometry inside.entries inside.volumes.items inside.held.items inside.total inside.promised inside.volumes.cap inside.held.cap c.place_of-at.result c.args.id.0 c.index_mut-row.result.now at c.index_mut-row.ensures.value c.self.invariant) c.requires.more in
    let few : shelf_entries (seen_shelf inside.geometry inside.entries inside.volumes.items inside.held.items) + c.args.chunks ≤ inside.geometry.map_chunks + map.len =
    subst (λ k. shelf_entries (seen_shelf inside.geometry inside.entries inside.volumes.items inside.held.items) + c.args.chunks ≤ inside.geometry.map_chunks + k) (here_size inside.geometry inside.entries inside.volumes.items inside.held.items inside.total inside.promised inside.volumes.cap inside.held.cap c.place_of-at.result c.args.id.0 c.index_mut-row.result.now at c.index_mut-row.ensures.value c.self.invariant)
    (subst (λ (v : ShelfView). shelf_entries v.shelf + c.args.chunks ≤ v.shelf.geometry.map_chunks + size_in v.shelf c.args.id.0) (sym c.self.view_is) c.requires.few) in
    let sum = c.self.invariant.lists.summed in
    let most = row_few inside.geometry inside.entries inside.volumes.items inside.held.items inside.total inside.promised inside.volumes.cap inside.held.cap c.place_of-at.result c.args.id.0 c.index_mut-row.result.now at c.index_mut-row.ensures.value c.self.invariant in
    let before = c.len-before.ensures in
    let limit = inside.geometry.map_to in
    omega arith

pub overflow_add-self : goal.overflow_add-self
overflow_add-self g c =
    let inside = c.self.inside in
    let at = ap (position (is_row c.args.id.0)) (sym c.deref.ensures.value) ∙ c.place_of-at.ensures in
    let map = c.index_mut-row.result.now.map in
    let of = here_of inside.geometry inside.entries inside.volumes.items inside.held.items inside.total inside.promised inside.volumes.cap inside.held.cap c.place_of-at.result c.args.id.0 c.index_mut-row.result.now at c.index_mut-row.ensures.value c.self.invariant in
    let size = list_len inside.entries.store map of in
    let more : map.len ≤ c.args.chunks = subst (λ k. k ≤ c.args.chunks) (ap (λ (v : ShelfView). size_in v.shelf c.args.id.0) (sym c.self.view_is) ∙ here_size inside.geometry inside.entries inside.volumes.items inside.held.items inside.total inside.promised inside.volumes.cap inside.held.cap c.place_of-at.result c.args.id.0 c.index_mut-row.result.now at c.index_mut-row.ensures.value c.self.invariant) c.requires.more in
    let few : shelf_entries (seen_shelf inside.geometry inside.entries inside.volumes.items inside.held.items) + c.args.chunks ≤ inside.geometry.map_chunks + map.len =
    subst (λ k. shelf_entries (seen_shelf inside.geometry inside.entries inside.volumes.items inside.held.items) + c.args.chunks ≤ inside.geometry.map_chunks + k) (here_size inside.geometry inside.entries inside.volumes.items inside.held.items inside.total inside.promised inside.volumes.cap inside.held.cap c.place_of-at.result c.args.id.0 c.index_mut-row.result.now at c.index_mut-row.ensures.value c.self.invariant)
    (subst (λ (v : ShelfView). shelf_entries v.shelf + c.args.chunks ≤ v.shelf.geometry.map_chunks + size_in v.shelf c.args.id.0) (sym c.self.view_is) c.requires.few) in
    let sum = c.self.invariant.lists.summed in
    let most = row_few inside.geometry inside.entries inside.volumes.items inside.held.items inside.total inside.promised inside.volumes.cap inside.held.cap c.place_of-at.result c.args.id.0 c.index_mut-row.result.now at c.index_mut-row.ensures.value c.self.invariant in
    let before = c.len-before.ensures in
    let limit = inside.geometry.map_to in
    omega arith

pub invariant_of-self : goal.invariant_of-self
invariant_of-self g c =
    let inside = c.self.inside in
    let at = ap (position (is_row c.args.id.0)) (sym c.deref.ensures.value) ∙ c.place_of-at.ensures in
    let map = c.index_mut-row.result.now.map in
    let of = here_of inside.geometry inside.entries inside.volumes.items inside.held.items inside.total inside.promised inside.volumes.cap inside.held.cap c.place_of-at.result c.args.id.0 c.index_mut-row.result.now at c.index_mut-row.ensures.value c.self.invariant in
    let size = list_len inside.entries.store map of in
    let more : map.len ≤ c.args.chunks = subst (λ k. k ≤ c.args.chunks) (ap (λ (v : ShelfView). size_in v.shelf c.args.id.0) (sym c.self.view_is) ∙ here_size inside.geometry inside.entries inside.volumes.items inside.held.items inside.total inside.promised inside.volumes.cap inside.held.cap c.place_of-at.result c.args.id.0 c.index_mut-row.result.now at c.index_mut-row.ensures.value c.self.invariant) c.requires.more in
    let few : shelf_entries (seen_shelf inside.geometry inside.entries inside.volumes.items inside.held.items) + c.args.chunks ≤ inside.geometry.map_chunks + map.len =
    subst (λ k. shelf_entries (seen_shelf inside.geometry inside.entries inside.volumes.items inside.held.items) + c.args.chunks ≤ inside.geometry.map_chunks + k) (here_size inside.geometry inside.entries inside.volumes.items inside.held.items inside.total inside.promised inside.volumes.cap inside.held.cap c.place_of-at.result c.args.id.0 c.index_mut-row.result.now at c.index_mut-row.ensures.value c.self.invariant)
    (subst (λ (v : ShelfView). shelf_entries v.shelf + c.args.chunks ≤ v.shelf.geometry.map_chunks + size_in v.shelf c.args.id.0) (sym c.self.view_is) c.requires.few) in
    let sum = c.self.invariant.lists.summed in
    let most = row_few inside.geometry inside.entries inside.volumes.items inside.held.items inside.total inside.promised inside.volumes.cap inside.held.cap c.place_of-at.result c.args.id.0 c.index_mut-row.result.now at c.index_mut-row.ensures.value c.self.invariant in
    let before = c.len-before.ensures in
    let limit = inside.geometry.map_to in
    let ens = c.grow.ensures in
    let row_number = row_allocated inside.geometry inside.entries inside.volumes.items inside.held.items inside.total c.place_of-at.result c.args.id.0 c.index_mut-row.result.now c.index_mut-row.result.now at c.index_mut-row.ensures.value c.self.invariant.lists in
    let f = λ (es : List Entry). es ++ replicate (c.args.chunks - length es) unmapped_entry in
    let list = grown_seen inside.entries c.grow.new.self map c.grow.new.map c.args.chunks of ens.of more ens.list ens.len ens.others ens.taken ens.pages ens.same ens.alone in
    let own = grown_own inside.entries c.grow.new.self map c.grow.new.map c.args.chunks of ens.of more ens.list ens.len ens.others ens.taken ens.pages ens.same ens.alone in
    let new_size = list_len c.grow.new.self.store c.grow.new.map ens.of in
    let new_len = ens.len in
    let sizes : inside.total - c.len-before.result + c.args.chunks + length (list_of inside.entries.store map) ≡ inside.total + length (list_of c.grow.new.self.store c.grow.new.map) = omega arith in
    let fits : inside.total - c.len-before.result + c.args.chunks ≤ inside.geometry.map_chunks = omega arith in
    let allocated = row_number ∙ sym (ap allocated_in ens.list ∙ allocated_grown (list_of inside.entries.store map) (c.args.chunks - map.len)) in
    let fresh_is = fresh_kept inside.entries.pool c.grow.new.self.pool ens.pool in
    fewer_rooms inside.geometry c.grow.new.self _ inside.held.items (inside.total - c.len-before.result + c.args.chunks) inside.promised (inside.promised - 1) inside.volumes.cap inside.held.cap (omega arith)
    (list_kept inside.geometry inside.entries inside.volumes.items inside.held.items inside.total inside.promised inside.volumes.cap inside.held.cap c.place_of-at.result c.args.id.0 c.index_mut-row.result.now at c.index_mut-row.ensures.value c.self.invariant c.grow.new.self c.grow.new.map c.index_mut-row.result.now.allocated (inside.total - c.len-before.result + c.args.chunks) f list ens.of ens.others ens.taken own ens.pool.size ens.pool.reserved fresh_is sizes fits allocated
    (sized_shares (seen_shelf inside.geometry inside.entries inside.volumes.items inside.held.items) c.self.invariant.lists.shares c.args.id.0 c.args.chunks))

pub returns-clause-shelf : goal.returns-clause-shelf
returns-clause-shelf g c =
    let inside = c.self.inside in
    let at = ap (position (is_row c.args.id.0)) (sym c.deref.ensures.value) ∙ c.place_of-at.ensures in
    let map = c.index_mut-row.result.now.map in
    let of = here_of inside.geometry inside.entries inside.volumes.items inside.held.items inside.total inside.promised inside.volumes.cap inside.held.cap c.place_of-at.result c.args.id.0 c.index_mut-row.result.now at c.index_mut-row.ensures.value c.self.invariant in
    let size = list_len inside.entries.store map of in
    let more : map.len ≤ c.args.chunks = subst (λ k. k ≤ c.args.chunks) (ap (λ (v : ShelfView). size_in v.shelf c.args.id.0) (sym c.self.view_is) ∙ here_size inside.geometry inside.entries inside.volumes.items inside.held.items inside.total inside.promised inside.volumes.cap inside.held.cap c.place_of-at.result c.args.id.0 c.index_mut-row.result.now at c.index_mut-row.ensures.value c.self.invariant) c.requires.more in
    let few : shelf_entries (seen_shelf inside.geometry inside.entries inside.volumes.items inside.held.items) + c.args.chunks ≤ inside.geometry.map_chunks + map.len =
    subst (λ k. shelf_entries (seen_shelf inside.geometry inside.entries inside.volumes.items inside.held.items) + c.args.chunks ≤ inside.geometry.map_chunks + k) (here_size inside.geometry inside.entries inside.volumes.items inside.held.items inside.total inside.promised inside.volumes.cap inside.held.cap c.place_of-at.result c.args.id.0 c.index_mut-row.result.now at c.index_mut-row.ensures.value c.self.invariant)
    (subst (λ (v : ShelfView). shelf_entries v.shelf + c.args.chunks ≤ v.shelf.geometry.map_chunks + size_in v.shelf c.args.id.0) (sym c.self.view_is) c.requires.few) in
    let sum = c.self.invariant.lists.summed in
    let most = row_few inside.geometry inside.entries inside.volumes.items inside.held.items inside.total inside.promised inside.volumes.cap inside.held.cap c.place_of-at.result c.args.id.0 c.index_mut-row.result.now at c.index_mut-row.ensures.value c.self.invariant in
    let before = c.len-before.ensures in
    let limit = inside.geometry.map_to in
    let ens = c.grow.ensures in
    let row_number = row_allocated inside.geometry inside.entries inside.volumes.items inside.held.items inside.total c.place_of-at.result c.args.id.0 c.index_mut-row.result.now c.index_mut-row.result.now at c.index_mut-row.ensures.value c.self.invariant.lists in
    let f = λ (es : List Entry). es ++ replicate (c.args.chunks - length es) unmapped_entry in
    let list = grown_seen inside.entries c.grow.new.self map c.grow.new.map c.args.chunks of ens.of more ens.list ens.len ens.others ens.taken ens.pages ens.same ens.alone in
    let own = grown_own inside.entries c.grow.new.self map c.grow.new.map c.args.chunks of ens.of more ens.list ens.len ens.others ens.taken ens.pages ens.same ens.alone in
    let new_size = list_len c.grow.new.self.store c.grow.new.map ens.of in
    let new_len = ens.len in
    let sizes : inside.total - c.len-before.result + c.args.chunks + length (list_of inside.entries.store map) ≡ inside.total + length (list_of c.grow.new.self.store c.grow.new.map) = omega arith in
    let fits : inside.total - c.len-before.result + c.args.chunks ≤ inside.geometry.map_chunks = omega arith in
    let allocated = row_number ∙ sym (ap allocated_in ens.list ∙ allocated_grown (list_of inside.entries.store map) (c.args.chunks - map.len)) in
    let fresh_is = fresh_kept inside.entries.pool c.grow.new.self.pool ens.pool in
    list_seen inside.geometry inside.entries inside.volumes.items inside.held.items inside.total inside.promised inside.volumes.cap inside.held.cap c.place_of-at.result c.args.id.0 c.index_mut-row.result.now at c.index_mut-row.ensures.value c.self.invariant c.grow.new.self c.grow.new.map c.index_mut-row.result.now.allocated (inside.total - c.len-before.result + c.args.chunks) f list ens.of ens.others ens.taken own ens.pool.size ens.pool.reserved fresh_is sizes fits allocated
    ∙ ap (λ (v : ShelfView). with_size v.shelf c.args.id.0 c.args.chunks) c.self.view_is

pub returns-clause-kept : goal.returns-clause-kept
returns-clause-kept g c =
    let inside = c.self.inside in
    let at = ap (position (is_row c.args.id.0)) (sym c.deref.ensures.value) ∙ c.place_of-at.ensures in
    let map = c.index_mut-row.result.now.map in
    let of = here_of inside.geometry inside.entries inside.volumes.items inside.held.items inside.total inside.promised inside.volumes.cap inside.held.cap c.place_of-at.result c.args.id.0 c.index_mut-row.result.now at c.index_mut-row.ensures.value c.self.invariant in
    let size = list_len inside.entries.store map of in
    let more : map.len ≤ c.args.chunks = subst (λ k. k ≤ c.args.chunks) (ap (λ (v : ShelfView). size_in v.shelf c.args.id.0) (sym c.self.view_is) ∙ here_size inside.geometry inside.entries inside.volumes.items inside.held.items inside.total inside.promised inside.volumes.cap inside.held.cap c.place_of-at.result c.args.id.0 c.index_mut-row.result.now at c.index_mut-row.ensures.value c.self.invariant) c.requires.more in
    let few : shelf_entries (seen_shelf inside.geometry inside.entries inside.volumes.items inside.held.items) + c.args.chunks ≤ inside.geometry.map_chunks + map.len =
    subst (λ k. shelf_entries (seen_shelf inside.geometry inside.entries inside.volumes.items inside.held.items) + c.args.chunks ≤ inside.geometry.map_chunks + k) (here_size inside.geometry inside.entries inside.volumes.items inside.held.items inside.total inside.promised inside.volumes.cap inside.held.cap c.place_of-at.result c.args.id.0 c.index_mut-row.result.now at c.index_mut-row.ensures.value c.self.invariant)
    (subst (λ (v : ShelfView). shelf_entries v.shelf + c.args.chunks ≤ v.shelf.geometry.map_chunks + size_in v.shelf c.args.id.0) (sym c.self.view_is) c.requires.few) in
    let sum = c.self.invariant.lists.summed in
    let most = row_few inside.geometry inside.entries inside.volumes.items inside.held.items inside.total inside.promised inside.volumes.cap inside.held.cap c.place_of-at.result c.args.id.0 c.index_mut-row.result.now at c.index_mut-row.ensures.value c.self.invariant in
    let before = c.len-before.ensures in
    let limit = inside.geometry.map_to in
    let ens = c.grow.ensures in
    let row_number = row_allocated inside.geometry inside.entries inside.volumes.items inside.held.items inside.total c.place_of-at.result c.args.id.0 c.index_mut-row.result.now c.index_mut-row.result.now at c.index_mut-row.ensures.value c.self.invariant.lists in
    let f = λ (es : List Entry). es ++ replicate (c.args.chunks - length es) unmapped_entry in
    let list = grown_seen inside.entries c.grow.new.self map c.grow.new.map c.args.chunks of ens.of more ens.list ens.len ens.others ens.taken ens.pages ens.same ens.alone in
    let own = grown_own inside.entries c.grow.new.self map c.grow.new.map c.args.chunks of ens.of more ens.list ens.len ens.others ens.taken ens.pages ens.same ens.alone in
    let new_size = list_len c.grow.new.self.store c.grow.new.map ens.of in
    let new_len = ens.len in
    let sizes : inside.total - c.len-before.result + c.args.chunks + length (list_of inside.entries.store map) ≡ inside.total + length (list_of c.grow.new.self.store c.grow.new.map) = omega arith in
    let fits : inside.total - c.len-before.result + c.args.chunks ≤ inside.geometry.map_chunks = omega arith in
    let allocated = row_number ∙ sym (ap allocated_in ens.list ∙ allocated_grown (list_of inside.entries.store map) (c.args.chunks - map.len)) in
    let fresh_is = fresh_kept inside.entries.pool c.grow.new.self.pool ens.pool in
    λ n k was_own. list_own_kept inside.geometry inside.entries inside.volumes.items inside.held.items inside.total inside.promised inside.volumes.cap inside.held.cap c.place_of-at.result c.args.id.0 c.index_mut-row.result.now at c.index_mut-row.ensures.value c.self.invariant c.grow.new.self c.grow.new.map c.index_mut-row.result.now.allocated (inside.total - c.len-before.result + c.args.chunks) f list ens.of ens.others ens.taken own ens.pool.size ens.pool.reserved fresh_is sizes fits allocated n k (ap (λ (v : ShelfView). is_own v n k) c.self.view_is ∙ was_own)

pub returns-clause-others : goal.returns-clause-others
returns-clause-others g c = λ given good.
    let rooms = ap (λ (v : ShelfView). v.rooms) c.self.view_is in
    let some = c.requires.rows in
    good_spent c.args.self.now _ c.args.chunks c.args.room given (returns-clause-kept g c) (omega arith) good
