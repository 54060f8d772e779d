use Rattle.vv_flat.specs.Chunks.{shape_of_tables}
use Rattle.vv_flat.specs.Changes.{room_checks}
use Rattle.vv_event.specs.Events.{change_of}
use Rattle.vv_judge.proofs.Writes.{write_has_blocks, write_fits}
use Rattle.vv_judge.proofs.events.room_check.Goals as goal

pub write_room-requires-clause-some : goal.write_room-requires-clause-some
unfolding change_of
write_room-requires-clause-some c =
    write_has_blocks (shape_of_tables c.args.tables.now.durable) c.in-Write.volume.0 c.in-Write.first_block c.in-Write.blocks (rw c.in-Write.is at c.requires.something)

pub write_room-requires-clause-within : goal.write_room-requires-clause-within
unfolding change_of
write_room-requires-clause-within c =
    write_fits (shape_of_tables c.args.tables.now.durable) c.in-Write.volume.0 c.in-Write.first_block c.in-Write.blocks (rw c.in-Write.is at c.requires.right)

pub returns-in-MakeContainer : goal.returns-in-MakeContainer
unfolding change_of room_checks
returns-in-MakeContainer c m is =
    rw c.in-MakeContainer.is (c.make_container_room.ensures c.in-MakeContainer.quota c.in-MakeContainer.offers)

pub returns-in-MakeVolume : goal.returns-in-MakeVolume
unfolding change_of room_checks
returns-in-MakeVolume c m is =
    rw c.in-MakeVolume.is (c.make_volume_room.ensures m is c.in-MakeVolume.container.0 c.in-MakeVolume.vtype c.in-MakeVolume.needs)

pub returns-in-Write : goal.returns-in-Write
unfolding change_of room_checks
returns-in-Write c m is = rw c.in-Write.is c.write_room.ensures

pub returns-in-StartCopy : goal.returns-in-StartCopy
unfolding change_of room_checks
returns-in-StartCopy c m is = rw c.in-StartCopy.is c.start_copy_room.ensures
