use Rattle.std.proofs.Common.{◌∷◌, None, sym, subst}
use Rattle.vv_vols.specs.Shelf.{size_in}
use Rattle.vv_vols.specs.Rows.{RoomView}
use Rattle.vv_vols.specs.Rooms.{for_list, AreGood}
use Rattle.vv_vols.proofs.GoodRooms.{good_head}
use Rattle.vv_snap.proofs.copies.copy_volume.Goals as goal

pub returns-clause-others : goal.returns-clause-others
returns-clause-others g c = λ given others good.
    c.copy_list.ensures.others given others
    (subst (λ (r : RoomView). AreGood c.args.shelf.now (for_list (size_in c.args.shelf.now.shelf c.args.volume.0) r ∷ given)) (sym c.take_head-vtype.ensures.room)
    (good_head c.args.shelf.now (size_in c.args.shelf.now.shelf c.args.volume.0) c.args.room None given good))
