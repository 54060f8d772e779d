use Rattle.std.proofs.Common.{ℕ, ◌≡◌, ◌+◌, ◌≤◌, Result, IfOk, OnOk, IsSome, sym, subst, ap, ◌∙◌, arith}
use Rattle.vv_vols.specs.Shelf.{volume_in, size_in, shelf_entries}
use Rattle.vv_vols.specs.Rows.{ShelfView}
use Rattle.vv_vols.proofs.tests.a_volume_grows.Goals as goal

pub grow_once-requires-clause-standing : goal.grow_once-requires-clause-standing
grow_once-requires-clause-standing g c =
    let is = subst (λ r. OnOk r (c.reserve_list.new.self ≡ record c.expect-shelf.result { rooms = c.expect-shelf.result.rooms + 1 })) c.expect-room.ensures c.reserve_list.ensures.ok in
    subst (λ (v : ShelfView). IsSome (volume_in v.shelf 1)) (sym is) (subst (λ r. IfOk r (λ (shelf : ShelfView). IsSome (volume_in shelf.shelf 1))) c.expect-shelf.ensures c.with_volume.ensures.standing)

pub grow_once-requires-clause-size : goal.grow_once-requires-clause-size
grow_once-requires-clause-size g c =
    let is = subst (λ r. OnOk r (c.reserve_list.new.self ≡ record c.expect-shelf.result { rooms = c.expect-shelf.result.rooms + 1 })) c.expect-room.ensures c.reserve_list.ensures.ok in
    subst (λ (v : ShelfView). size_in v.shelf 1 ≡ 4) (sym is) (subst (λ r. IfOk r (λ (shelf : ShelfView). size_in shelf.shelf 1 ≡ 4)) c.expect-shelf.ensures c.with_volume.ensures.size)

pub grow_once-requires-clause-few : goal.grow_once-requires-clause-few
grow_once-requires-clause-few g c =
    let is = subst (λ r. OnOk r (c.reserve_list.new.self ≡ record c.expect-shelf.result { rooms = c.expect-shelf.result.rooms + 1 })) c.expect-room.ensures c.reserve_list.ensures.ok in
    subst (λ (v : ShelfView). shelf_entries v.shelf + 2 ≤ v.shelf.geometry.map_chunks) (sym is)
    (subst (λ r. IfOk r (λ (shelf : ShelfView). shelf_entries shelf.shelf + 2 ≤ shelf.shelf.geometry.map_chunks)) c.expect-shelf.ensures c.with_volume.ensures.few)

pub grow_once-requires-clause-rows : goal.grow_once-requires-clause-rows
grow_once-requires-clause-rows g c =
    let is = subst (λ r. OnOk r (c.reserve_list.new.self ≡ record c.expect-shelf.result { rooms = c.expect-shelf.result.rooms + 1 })) c.expect-room.ensures c.reserve_list.ensures.ok in
    let rooms = ap (λ (v : ShelfView). v.rooms) is in
    omega arith
