use Rattle.std.proofs.Common.{◌≤◌, ◌/◌, ap, arith, not, ◌∷◌}
use Rattle.std.proofs.lemmas.List.Sums.{count_by-le-length}
use Rattle.vv_flat.specs.Lists.{numbers_from}
use Rattle.vv_vols.specs.Shelf.{size_in}
use Rattle.vv_vols.specs.Rows.{ShelfView, RoomView, IsChangeRoom, is_own, pages_touched}
use Rattle.vv_vols.specs.Rooms.{for_change, AreGood}
use Rattle.vv_vols.proofs.GoodRooms.{good_change}
use Rattle.vv_vols.proofs.Numbers.{size_few, length-numbers_from, if_ok_weaker}
use Rattle.vv_vols.proofs.shelf.Shelf.reserve_change.Goals as goal

pub pages_of_range-requires : goal.pages_of_range-requires
pages_of_range-requires c =
    let inside = c.self.inside in
    let few = size_few inside.geometry inside.entries inside.volumes.items inside.held.items inside.total inside.promised inside.volumes.cap inside.held.cap c.self.invariant c.args.volume.0 in
    let same = ap (λ (v : ShelfView). size_in v.shelf c.args.volume.0) c.self.view_is in
    let within = c.requires.within in
    omega arith

pub returns-clause-room : goal.returns-clause-room
returns-clause-room c =
    let first = c.args.first in
    let count = c.args.count in
    if_ok_weaker c.for_change.result (λ (room : RoomView). c.pages_of_range.result ≤ room.pages) (λ (room : RoomView). IsChangeRoom c.args.self.now c.args.volume.0 first count room)
    (λ room enough.
    let most = count_by-le-length (λ k. not (is_own c.args.self.now c.args.volume.0 k)) (numbers_from (first / 64) (pages_touched first count)) in
    let size = length-numbers_from (first / 64) (pages_touched first count) in
    let is = c.pages_of_range.ensures in
    omega arith)
    c.for_change.ensures

pub returns-clause-good : goal.returns-clause-good
returns-clause-good c = λ given good.
    let now = c.args.self.now in
    let first = c.args.first in
    let count = c.args.count in
    if_ok_weaker c.for_change.result (λ (room : RoomView). IsChangeRoom now c.args.volume.0 first count room) (λ (room : RoomView). AreGood now (for_change c.args.volume.0 first count room ∷ given))
    (λ room enough. good_change now c.args.volume.0 first count room given enough good)
    (returns-clause-room c)
