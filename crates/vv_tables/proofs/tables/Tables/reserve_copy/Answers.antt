use Rattle.std.proofs.Common.{sym, subst}
use Rattle.vv_flat.specs.State.{Durable}
use Rattle.vv_flat.specs.Chunks.{Entry}
use Rattle.vv_tables.specs.Seen.{TablesView, seen_durable}
use Rattle.vv_tables.specs.CopyRooms.{IsCopyRoom, HasCopy}
use Rattle.vv_tables.proofs.CopyRoomLaws.{copy_room}
use Rattle.vv_tables.proofs.tables.Tables.reserve_copy.Goals as goal

pub returns-clause-room : goal.returns-clause-room
returns-clause-room c =
    let i = c.self.inside in
    let d : Durable Entry = seen_durable i.lsn i.shelf.shelf i.containers i.bindings i.tasks i.clones.items i.copies.items in
    subst (λ (t : TablesView). IsCopyRoom t c.args.volume.0 c.with_head.result) c.self.view_is
    (subst (λ r. HasCopy d c.args.volume.0 r) (sym c.with_head.ensures)
    (copy_room d c.args.volume.0 c.entries-chunks.result c.in_ok-head.head c.in_ok-room.room c.entries-chunks.ensures c.in_ok-room.ensures.room c.in_ok-head.ensures))
