use Rattle.std.proofs.Common.{◌+◌, List, map, ap, ◌∙◌, arith}
use Rattle.vv_vols.specs.declared.row.VolumeRow.{VolumeRow}
use Rattle.vv_vols.specs.Rows.{ShelfView, seen_view, seen_pages, is_own, own_in}
use Rattle.vv_vols.proofs.GoodRooms.{good_reserved}
use Rattle.vv_vols.proofs.shelf.Shelf.reserve_list.Goals as goal

pub returns-clause-good : goal.returns-clause-good
returns-clause-good c = λ given good.
    let inside = c.self.inside in
    let now = seen_view inside.geometry inside.entries c.reserve.new.self.items c.reserve-2.new.self.items (inside.promised + 1) in
    let rooms = ap (λ (v : ShelfView). v.rooms) c.self.view_is in
    good_reserved c.args.self.now now c.args.chunks c.in_ok-room.room given
    (λ n k own. ap (λ (vs : List VolumeRow). own_in (map (seen_pages inside.entries.store) vs) n k) c.reserve.ensures.items ∙ ap (λ (v : ShelfView). is_own v n k) c.self.view_is ∙ own)
    (omega arith) c.in_ok-room.ensures.good good
