use Rattle.vv_event.specs.Events.{change_of}
use Rattle.vv_core.proofs.FittingEvents.{write_told, turn_told}
use Rattle.vv_core.proofs.fitting.has_its_places.Goals as goal

pub write_has_its_places-requires : goal.write_has_its_places-requires
unfolding change_of
write_has_its_places-requires c = rw c.in-Write.is at c.requires

pub returns-in-Write : goal.returns-in-Write
returns-in-Write c =
    write_told c.args.tables.now.durable c.args.event.now c.in-Write.volume c.in-Write.first_block c.in-Write.blocks c.items.result.now c.in-Write.places
    c.write_has_its_places.result c.in-Write.is c.items.ensures c.write_has_its_places.ensures

pub returns-in-Turn : goal.returns-in-Turn
returns-in-Turn c =
    turn_told c.args.tables.now.durable c.args.event.now c.in-Turn.task c.items-in-Turn.result.now c.in-Turn.copies c.turn_has_its_places.result c.in-Turn.is
    c.items-in-Turn.ensures c.turn_has_its_places.ensures
