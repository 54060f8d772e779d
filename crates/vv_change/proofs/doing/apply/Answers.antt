use Rattle.std.proofs.Common.{ap, ◌∙◌}
use Rattle.vv_tables.specs.Filling.{copy_indexes}
use Rattle.vv_change.proofs.Forms.{turn_indexes}
use Rattle.vv_change.proofs.Enough.{container_room, pieces_room}
use Rattle.vv_change.proofs.doing.apply.Goals as goal

pub into_container-requires : goal.into_container-requires
into_container-requires g c = container_room c.args.tables.now c.args.event.now c.args.room _ _ c.in-MakeContainer.is c.requires.room

pub start_copy-requires-clause-enough : goal.start_copy-requires-clause-enough
start_copy-requires-clause-enough g c =
    pieces_room c.args.tables.now c.args.event.now c.args.room c.in-StartCopy.source c.in-StartCopy.base c.in-StartCopy.target c.into_list-in-StartCopy.result
    c.in-StartCopy.is c.requires.room c.into_list-in-StartCopy.ensures

pub turn-requires-clause-indexes : goal.turn-requires-clause-indexes
turn-requires-clause-indexes g c =
    ap copy_indexes c.items-in-Turn.ensures ∙ turn_indexes c.args.tables.now.durable c.args.event.now c.in-Turn.task c.in-Turn.copies c.in-Turn.is c.requires.indexes
