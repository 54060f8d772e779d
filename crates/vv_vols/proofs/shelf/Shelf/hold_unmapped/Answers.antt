use Rattle.std.proofs.Common.{◌≡◌, ◌≤◌, ◌+◌, false, List, set, find, sym, subst, ap, ◌∙◌, arith}
use Rattle.std.specs.Prelude.{IsSome}
use Rattle.std.specs.List.{position, position_or_len}
use Rattle.vv_flat.proofs.Positions.{found_is, position_some}
use Rattle.vv_vols.specs.declared.row.HeldRow.{HeldRow}
use Rattle.vv_vols.specs.Shelf.{held_in, held_size, left_in, is_image_in, shelf_entries}
use Rattle.vv_vols.specs.Calls.{with_appended}
use Rattle.vv_vols.specs.Rows.{ShelfView, is_own, is_held_row}
use Rattle.vv_vols.proofs.Numbers.{pages_left}
use Rattle.vv_vols.proofs.HeldRead.{held_row_found, held_of, held_few, held_len_is, held_indexed, held_room}
use Rattle.vv_vols.proofs.HeldNone.{appended_left, appended_alone, appended_seen, appended_kept, appended_own}
use Rattle.vv_vols.proofs.GoodRooms.{good_kept}
use Rattle.vv_vols.proofs.shelf.Shelf.hold_unmapped.Goals as goal

pub held_place-at-requires : goal.held_place-at-requires
held_place-at-requires c =
    let n = c.args.held.now.number in
    subst (λ (rows : List HeldRow). IsSome (find (is_held_row n) rows)) (sym c.deref.ensures.value)
    (held_row_found c.self.inside.entries.store n c.self.inside.held.items (subst (λ (v : ShelfView). IsSome (held_in v.shelf n)) (sym c.self.view_is) c.requires.standing))

pub append_entry-requires-clause-of : goal.append_entry-requires-clause-of
append_entry-requires-clause-of c =
    let n = c.args.held.now.number in
    let inside = c.self.inside in
    let row = c.index_mut-row.result.now in
    let at = ap (position (is_held_row n)) (sym c.deref.ensures.value) ∙ c.held_place-at.ensures in
    let found = found_is (is_held_row n) inside.held.items c.held_place-at.result row at c.index_mut-row.ensures.value in
    held_of inside.geometry inside.entries inside.volumes.items inside.held.items inside.total inside.promised inside.volumes.cap inside.held.cap n row found c.self.invariant

pub append_entry-requires-clause-indexed : goal.append_entry-requires-clause-indexed
append_entry-requires-clause-indexed c =
    let n = c.args.held.now.number in
    let inside = c.self.inside in
    let row = c.index_mut-row.result.now in
    let at = ap (position (is_held_row n)) (sym c.deref.ensures.value) ∙ c.held_place-at.ensures in
    let found = found_is (is_held_row n) inside.held.items c.held_place-at.result row at c.index_mut-row.ensures.value in
    held_indexed inside.geometry inside.entries inside.volumes.items inside.held.items inside.total inside.promised inside.volumes.cap inside.held.cap n row found c.self.invariant

pub append_entry-requires-clause-room : goal.append_entry-requires-clause-room
append_entry-requires-clause-room c =
    let n = c.args.held.now.number in
    let inside = c.self.inside in
    let row = c.index_mut-row.result.now in
    let at = ap (position (is_held_row n)) (sym c.deref.ensures.value) ∙ c.held_place-at.ensures in
    let found = found_is (is_held_row n) inside.held.items c.held_place-at.result row at c.index_mut-row.ensures.value in
    held_room inside.geometry inside.entries inside.volumes.items inside.held.items inside.total inside.promised inside.volumes.cap inside.held.cap n row found c.self.invariant

pub append_entry-requires-clause-few : goal.append_entry-requires-clause-few
append_entry-requires-clause-few c =
    let n = c.args.held.now.number in
    let inside = c.self.inside in
    let row = c.index_mut-row.result.now in
    let at = ap (position (is_held_row n)) (sym c.deref.ensures.value) ∙ c.held_place-at.ensures in
    let found = found_is (is_held_row n) inside.held.items c.held_place-at.result row at c.index_mut-row.ensures.value in
    let few = subst (λ (v : ShelfView). shelf_entries v.shelf + 1 ≤ v.shelf.geometry.map_chunks) (sym c.self.view_is) c.requires.few in
    let sum = c.self.invariant.lists.summed in
    let fits : inside.total + 1 ≤ inside.geometry.map_chunks = omega arith in
    let most = held_few inside.geometry inside.entries inside.volumes.items inside.held.items inside.total inside.promised inside.volumes.cap inside.held.cap n row found c.self.invariant in
    let limit = inside.geometry.map_to in
    omega arith

pub append_entry-requires-clause-left : goal.append_entry-requires-clause-left
append_entry-requires-clause-left c =
    let n = c.args.held.now.number in
    let inside = c.self.inside in
    let row = c.index_mut-row.result.now in
    let at = ap (position (is_held_row n)) (sym c.deref.ensures.value) ∙ c.held_place-at.ensures in
    let found = found_is (is_held_row n) inside.held.items c.held_place-at.result row at c.index_mut-row.ensures.value in
    let left : 1 ≤ left_in c.args.self.now.shelf n = c.requires.left in
    let is = ap (λ (v : ShelfView). left_in v.shelf n) c.self.view_is in
    let further_is = appended_left inside.geometry inside.entries inside.volumes.items inside.held.items inside.total inside.promised inside.volumes.cap inside.held.cap n row found c.self.invariant in
    omega arith

pub append_entry-requires-clause-alone : goal.append_entry-requires-clause-alone
append_entry-requires-clause-alone c =
    let n = c.args.held.now.number in
    let inside = c.self.inside in
    let row = c.index_mut-row.result.now in
    let at = ap (position (is_held_row n)) (sym c.deref.ensures.value) ∙ c.held_place-at.ensures in
    let found = found_is (is_held_row n) inside.held.items c.held_place-at.result row at c.index_mut-row.ensures.value in
    appended_alone inside.geometry inside.entries inside.volumes.items inside.held.items inside.total inside.promised inside.volumes.cap inside.held.cap n row found c.self.invariant (subst (λ (v : ShelfView). is_image_in v.shelf n ≡ false) (sym c.self.view_is) c.requires.target)

pub append_entry-requires-clause-unused : goal.append_entry-requires-clause-unused
append_entry-requires-clause-unused c =
    let n = c.args.held.now.number in
    let inside = c.self.inside in
    let row = c.index_mut-row.result.now in
    let at = ap (position (is_held_row n)) (sym c.deref.ensures.value) ∙ c.held_place-at.ensures in
    let found = found_is (is_held_row n) inside.held.items c.held_place-at.result row at c.index_mut-row.ensures.value in
    let few = subst (λ (v : ShelfView). shelf_entries v.shelf + 1 ≤ v.shelf.geometry.map_chunks) (sym c.self.view_is) c.requires.few in
    let sum = c.self.invariant.lists.summed in
    let fits : inside.total + 1 ≤ inside.geometry.map_chunks = omega arith in
    let left = pages_left inside.geometry inside.entries inside.volumes.items inside.held.items inside.total inside.promised inside.volumes.cap inside.held.cap c.self.invariant in
    omega arith

pub lengthen-requires : goal.lengthen-requires
lengthen-requires c =
    let n = c.args.held.now.number in
    let inside = c.self.inside in
    let row = c.index_mut-row.result.now in
    let at = ap (position (is_held_row n)) (sym c.deref.ensures.value) ∙ c.held_place-at.ensures in
    let found = found_is (is_held_row n) inside.held.items c.held_place-at.result row at c.index_mut-row.ensures.value in
    let few = subst (λ (v : ShelfView). shelf_entries v.shelf + 1 ≤ v.shelf.geometry.map_chunks) (sym c.self.view_is) c.requires.few in
    let sum = c.self.invariant.lists.summed in
    let fits : inside.total + 1 ≤ inside.geometry.map_chunks = omega arith in
    let most = held_few inside.geometry inside.entries inside.volumes.items inside.held.items inside.total inside.promised inside.volumes.cap inside.held.cap n row found c.self.invariant in
    let limit = inside.geometry.map_to in
    let is : held_size c.args.self.now.shelf n ≡ row.map.len = ap (λ (v : ShelfView). held_size v.shelf n) (sym c.self.view_is) ∙ held_len_is inside.geometry inside.entries inside.volumes.items inside.held.items inside.total inside.promised inside.volumes.cap inside.held.cap n row found c.self.invariant in
    let len = c.requires.len in
    omega arith

pub invariant_of-self : goal.invariant_of-self
invariant_of-self c =
    let n = c.args.held.now.number in
    let inside = c.self.inside in
    let row = c.index_mut-row.result.now in
    let at = ap (position (is_held_row n)) (sym c.deref.ensures.value) ∙ c.held_place-at.ensures in
    let found = found_is (is_held_row n) inside.held.items c.held_place-at.result row at c.index_mut-row.ensures.value in
    let few = subst (λ (v : ShelfView). shelf_entries v.shelf + 1 ≤ v.shelf.geometry.map_chunks) (sym c.self.view_is) c.requires.few in
    let sum = c.self.invariant.lists.summed in
    let fits : inside.total + 1 ≤ inside.geometry.map_chunks = omega arith in
    let row' = c.append_entry.new.row in
    let rows' : List HeldRow = set inside.held.items c.held_place-at.result row' in
    let place = position_some (is_held_row n) inside.held.items c.held_place-at.result at in
    let is : rows' ≡ set inside.held.items (position_or_len (is_held_row n) inside.held.items) row' = ap (λ k. set inside.held.items k row') (sym place.0) in
    let ens = c.append_entry.ensures in
    appended_kept inside.geometry inside.entries inside.volumes.items inside.held.items inside.total inside.promised inside.volumes.cap inside.held.cap n row found c.self.invariant c.append_entry.new.entries rows' row' c.args.index is ens.number ens.image ens.allocated ens.list ens.len ens.of ens.others ens.taken ens.pool ens.indexes ens.left ens.room fits

pub returns-clause-shelf : goal.returns-clause-shelf
returns-clause-shelf c =
    let n = c.args.held.now.number in
    let inside = c.self.inside in
    let row = c.index_mut-row.result.now in
    let at = ap (position (is_held_row n)) (sym c.deref.ensures.value) ∙ c.held_place-at.ensures in
    let found = found_is (is_held_row n) inside.held.items c.held_place-at.result row at c.index_mut-row.ensures.value in
    let few = subst (λ (v : ShelfView). shelf_entries v.shelf + 1 ≤ v.shelf.geometry.map_chunks) (sym c.self.view_is) c.requires.few in
    let sum = c.self.invariant.lists.summed in
    let fits : inside.total + 1 ≤ inside.geometry.map_chunks = omega arith in
    let row' = c.append_entry.new.row in
    let rows' : List HeldRow = set inside.held.items c.held_place-at.result row' in
    let place = position_some (is_held_row n) inside.held.items c.held_place-at.result at in
    let is : rows' ≡ set inside.held.items (position_or_len (is_held_row n) inside.held.items) row' = ap (λ k. set inside.held.items k row') (sym place.0) in
    let ens = c.append_entry.ensures in
    appended_seen inside.geometry inside.entries inside.volumes.items inside.held.items inside.total inside.promised inside.volumes.cap inside.held.cap n row found c.self.invariant c.append_entry.new.entries rows' row' c.args.index is ens.number ens.image ens.allocated ens.list ens.len ens.of ens.others ens.taken ens.pool ens.indexes ens.left ens.room fits
    ∙ ap (λ (v : ShelfView). with_appended v.shelf n c.args.index) c.self.view_is

pub returns-clause-kept : goal.returns-clause-kept
returns-clause-kept c = λ v k own.
    let n = c.args.held.now.number in
    let inside = c.self.inside in
    let row = c.index_mut-row.result.now in
    let at = ap (position (is_held_row n)) (sym c.deref.ensures.value) ∙ c.held_place-at.ensures in
    let found = found_is (is_held_row n) inside.held.items c.held_place-at.result row at c.index_mut-row.ensures.value in
    let few = subst (λ (v : ShelfView). shelf_entries v.shelf + 1 ≤ v.shelf.geometry.map_chunks) (sym c.self.view_is) c.requires.few in
    let sum = c.self.invariant.lists.summed in
    let fits : inside.total + 1 ≤ inside.geometry.map_chunks = omega arith in
    let row' = c.append_entry.new.row in
    let rows' : List HeldRow = set inside.held.items c.held_place-at.result row' in
    let place = position_some (is_held_row n) inside.held.items c.held_place-at.result at in
    let is : rows' ≡ set inside.held.items (position_or_len (is_held_row n) inside.held.items) row' = ap (λ k. set inside.held.items k row') (sym place.0) in
    let ens = c.append_entry.ensures in
    appended_own inside.geometry inside.entries inside.volumes.items inside.held.items inside.total inside.promised inside.volumes.cap inside.held.cap n row found c.self.invariant c.append_entry.new.entries rows' row' c.args.index is ens.number ens.image ens.allocated ens.list ens.len ens.of ens.others ens.taken ens.pool ens.indexes ens.left ens.room fits v k (ap (λ (w : ShelfView). is_own w v k) c.self.view_is ∙ own)

pub returns-clause-others : goal.returns-clause-others
returns-clause-others c = λ given good.
    good_kept c.args.self.now _ given (returns-clause-kept c) (sym (ap (λ (v : ShelfView). v.rooms) c.self.view_is)) good
