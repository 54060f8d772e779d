use Rattle.std.proofs.Common.{◌≡◌, ◌<◌, [], ◌∷◌, IfOk, IsSome, sym, subst, ap, ◌∙◌, arith}
use Rattle.std.specs.Prelude.{IsTrue}
use Rattle.vv_vols.specs.Shelf.{volume_in, size_in}
use Rattle.vv_vols.specs.Conditions.{is_new_stamp}
use Rattle.vv_vols.specs.Places.{with_taken}
use Rattle.vv_vols.specs.Rows.{ShelfView, RoomView, IsChangeRoom}
use Rattle.vv_vols.proofs.TakenPlaces.{one_in, one_is}
use Rattle.vv_bitmap.proofs.tests.one_chunk_is_allocated_and_unshared.Goals as goal

pub put_once-requires-clause-standing : goal.put_once-requires-clause-standing
put_once-requires-clause-standing g c =
    let taken = one_is c.reserve_change.new.self c.take_one.new.shelf c.take_one.result c.expect-fresh.result c.expect-fresh.ensures c.take_one.ensures.some in
    subst (λ (v : ShelfView). IsSome (volume_in v.shelf 1)) (sym (taken ∙ ap (λ (v : ShelfView). record v { shelf = with_taken v.shelf (c.expect-fresh.result ∷ []) }) c.reserve_change.ensures.same))
    (subst (λ r. IfOk r (λ (shelf : ShelfView). IsSome (volume_in shelf.shelf 1))) c.expect-shelf.ensures c.with_volumes.ensures.standing)

pub put_once-requires-clause-within : goal.put_once-requires-clause-within
put_once-requires-clause-within g c =
    let taken = one_is c.reserve_change.new.self c.take_one.new.shelf c.take_one.result c.expect-fresh.result c.expect-fresh.ensures c.take_one.ensures.some in
    let size : size_in c.expect-shelf.result.shelf 1 ≡ 60 = subst (λ r. IfOk r (λ (shelf : ShelfView). size_in shelf.shelf 1 ≡ 60)) c.expect-shelf.ensures c.with_volumes.ensures.size in
    subst (λ (v : ShelfView). 1 < size_in v.shelf 1) (sym (taken ∙ ap (λ (v : ShelfView). record v { shelf = with_taken v.shelf (c.expect-fresh.result ∷ []) }) c.reserve_change.ensures.same)) (omega arith)

pub put_once-requires-clause-fresh : goal.put_once-requires-clause-fresh
put_once-requires-clause-fresh g c = one_in c.reserve_change.new.self c.take_one.new.shelf c.take_one.result c.expect-fresh.result c.expect-fresh.ensures c.take_one.ensures.some

pub put_once-requires-clause-stamp : goal.put_once-requires-clause-stamp
put_once-requires-clause-stamp g c =
    let taken = one_is c.reserve_change.new.self c.take_one.new.shelf c.take_one.result c.expect-fresh.result c.expect-fresh.ensures c.take_one.ensures.some in
    subst (λ (v : ShelfView). IsTrue (is_new_stamp v.shelf 1 3)) (sym (taken ∙ ap (λ (v : ShelfView). record v { shelf = with_taken v.shelf (c.expect-fresh.result ∷ []) }) c.reserve_change.ensures.same))
    (subst (λ r. IfOk r (λ (shelf : ShelfView). IsTrue (is_new_stamp shelf.shelf 1 3))) c.expect-shelf.ensures c.with_volumes.ensures.stamp)

pub put_once-requires-clause-room : goal.put_once-requires-clause-room
put_once-requires-clause-room g c =
    let taken = one_is c.reserve_change.new.self c.take_one.new.shelf c.take_one.result c.expect-fresh.result c.expect-fresh.ensures c.take_one.ensures.some in
    subst (λ (v : ShelfView). IsChangeRoom v 1 1 1 c.expect-room.result) (sym (taken ∙ ap (λ (v : ShelfView). record v { shelf = with_taken v.shelf (c.expect-fresh.result ∷ []) }) c.reserve_change.ensures.same))
    (subst (λ r. IfOk r (λ (room : RoomView). IsChangeRoom c.expect-shelf.result 1 1 1 room)) c.expect-room.ensures c.reserve_change.ensures.room)
