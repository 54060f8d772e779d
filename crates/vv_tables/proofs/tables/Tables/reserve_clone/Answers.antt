use Rattle.std.proofs.Common.{subst}
use Rattle.vv_tables.specs.CopyRooms.{CloneRoomView, IsCloneRoom}
use Rattle.vv_tables.specs.Seen.{TablesView}
use Rattle.vv_tables.proofs.CopyRoomLaws.{clone_room}
use Rattle.vv_tables.proofs.Inner.{durable_of}
use Rattle.vv_tables.proofs.tables.Tables.reserve_clone.Goals as goal

pub returns-clause-room : goal.returns-clause-room
returns-clause-room c =
    let r : CloneRoomView = record { head = c.in_ok-head.head; image = c.in_ok-image.image; target = c.in-Ok.target } in
    subst (λ (t : TablesView). IsCloneRoom t c.args.volume.0 r) c.self.view_is
    (clone_room (durable_of c.self.inside) c.args.volume.0 c.entries-chunks.result c.in_ok-head.head c.in_ok-image.image c.in-Ok.target
    c.entries-chunks.ensures c.in_ok-image.ensures.room c.in-Ok.ensures.room c.in_ok-head.ensures)
