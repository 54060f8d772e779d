use Rattle.std.proofs.Common.{refl}
use Rattle.std.proofs.Common.{sym, subst}
use Rattle.vv_tables.specs.Rooms.{IsWriteRoom}
use Rattle.vv_change.specs.Rooms.{IsRoomFor}
use Rattle.vv_change.specs.declared.room.Room.TheVariants as room
use Rattle.vv_change.proofs.Enough.{container_enough, write_enough, range_enough}
use Rattle.vv_change.proofs.Events.{event_snapshot, event_fast_clone, event_unmap, event_clone, event_write, event_blocks, event_inside, event_source, event_base, event_turn}
use Rattle.vv_change.proofs.preparing.prepare.Goals as goal

pub reserve_write-requires-clause-standing : goal.reserve_write-requires-clause-standing
reserve_write-requires-clause-standing c =
    event_write c.args.tables.now.durable c.args.event.now c.requires.fits c.in-Write.volume c.in-Write.first_block c.in-Write.blocks c.in-Write.places c.in-Write.is

pub reserve_write-requires-clause-some : goal.reserve_write-requires-clause-some
reserve_write-requires-clause-some c =
    event_blocks c.args.tables.now.durable c.args.event.now c.requires.fits c.in-Write.volume c.in-Write.first_block c.in-Write.blocks c.in-Write.places c.in-Write.is

pub reserve_write-requires-clause-within : goal.reserve_write-requires-clause-within
reserve_write-requires-clause-within c =
    event_inside c.args.tables.now.durable c.args.event.now c.requires.fits c.in-Write.volume c.in-Write.first_block c.in-Write.blocks c.in-Write.places c.in-Write.is

pub reserve_change-requires-clause-standing : goal.reserve_change-requires-clause-standing
reserve_change-requires-clause-standing c =
    event_unmap c.args.tables.now.durable c.args.event.now c.requires.fits c.in-Unmap.volume c.in-Unmap.ranges c.in-Unmap.is

pub reserve_clone-requires : goal.reserve_clone-requires
reserve_clone-requires c = event_clone c.args.tables.now.durable c.args.event.now c.requires.fits c.in-StartClone.volume c.in-StartClone.is

pub reserve_turn-requires : goal.reserve_turn-requires
reserve_turn-requires c = event_turn c.args.tables.now.durable c.args.event.now c.requires.fits c.in-Turn.task c.in-Turn.copies c.in-Turn.is

pub reserve_copy-requires : goal.reserve_copy-requires
reserve_copy-requires c = event_snapshot c.args.tables.now.durable c.args.event.now c.requires.fits c.in-Snapshot.volume c.in-Snapshot.is

pub reserve_copy-requires-in-FastClone : goal.reserve_copy-requires-in-FastClone
reserve_copy-requires-in-FastClone c = event_fast_clone c.args.tables.now.durable c.args.event.now c.requires.fits c.in-FastClone.volume c.in-FastClone.is

pub piece_count-pieces-requires-clause-source : goal.piece_count-pieces-requires-clause-source
piece_count-pieces-requires-clause-source c =
    event_source c.args.tables.now.durable c.args.event.now c.requires.fits c.in-StartCopy.source c.in-StartCopy.base c.in-StartCopy.target c.in-StartCopy.is

pub piece_count-pieces-requires-clause-base : goal.piece_count-pieces-requires-clause-base
piece_count-pieces-requires-clause-base c =
    event_base c.args.tables.now.durable c.args.event.now c.requires.fits c.in-StartCopy.source c.in-StartCopy.base c.in-StartCopy.target c.in-StartCopy.is

pub returns-in_ok-new_container-in-MakeContainer-clause-room : goal.returns-in_ok-new_container-in-MakeContainer-clause-room
returns-in_ok-new_container-in-MakeContainer-clause-room c =
    container_enough c.args.tables.now c.args.event.now c.in-MakeContainer.quota c.in-MakeContainer.offers _ c.in-MakeContainer.is
    c.in_ok-new_container-in-MakeContainer.ensures.0 c.in_ok-new_container-in-MakeContainer.ensures.1

pub returns-in_ok-write-in-Write-clause-room : goal.returns-in_ok-write-in-Write-clause-room
returns-in_ok-write-in-Write-clause-room c =
    write_enough c.reserve_write.new.self c.args.event.now c.in-Write.volume c.in-Write.first_block c.in-Write.blocks c.in-Write.places _ c.in-Write.is
    (subst (λ t. IsWriteRoom t c.in-Write.volume.0 c.in-Write.first_block c.in-Write.blocks c.in_ok-write-in-Write.write) (sym c.reserve_write.ensures.same) c.in_ok-write-in-Write.ensures.room)

pub returns-in_ok-reserve_change-in-Unmap-clause-room : goal.returns-in_ok-reserve_change-in-Unmap-clause-room
returns-in_ok-reserve_change-in-Unmap-clause-room c =
    subst (λ t. IsRoomFor t c.args.event.now (room.Range c.in_ok-reserve_change-in-Unmap.field-0)) (sym c.reserve_change.ensures.same)
    (range_enough c.args.tables.now c.args.event.now c.in-Unmap.volume c.in-Unmap.ranges _ c.size-chunks-in-Unmap.result c.in-Unmap.is c.size-chunks-in-Unmap.ensures
    c.in_ok-reserve_change-in-Unmap.ensures.room)
