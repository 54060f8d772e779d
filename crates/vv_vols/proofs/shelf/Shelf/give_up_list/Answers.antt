use Rattle.std.proofs.Common.{◌-◌, ap, ◌∙◌, arith}
use Rattle.vv_vols.specs.Rows.{ShelfView, seen_view, is_own}
use Rattle.vv_vols.proofs.GoodRooms.{good_spent}
use Rattle.vv_vols.proofs.shelf.Shelf.give_up_list.Goals as goal

pub returns-clause-others : goal.returns-clause-others
returns-clause-others c = λ chunks given good.
    let inside = c.self.inside in
    let now = seen_view inside.geometry inside.entries inside.volumes.items inside.held.items (inside.promised - 1) in
    let some = c.requires in
    let rooms = ap (λ (v : ShelfView). v.rooms) c.self.view_is in
    good_spent c.args.self.now now chunks c.args.room given (λ n k own. ap (λ (v : ShelfView). is_own v n k) c.self.view_is ∙ own) (omega arith) good
