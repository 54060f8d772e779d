use Rattle.std.proofs.Common.{List, ◌<◌, ◌^◌, sym, subst, arith}
use Rattle.vv_units.specs.declared.numbers.Place.{Place as place}
use Rattle.vv_flat.specs.Chunks.{shape_of_tables}
use Rattle.vv_flat.specs.Changes.{Write}
use Rattle.vv_record.specs.declared.record.Event.TheVariants as event
use Rattle.vv_tables.proofs.AcceptedWrites.{some_blocks, blocks_inside}
use Rattle.vv_core.specs.Placed.{IsPlacedEvent}
use Rattle.vv_core.proofs.PlacedEvents.{write_placed}
use Rattle.vv_core.proofs.placing.write_event.Goals as goal

pub touched_chunks-count-requires-clause-some : goal.touched_chunks-count-requires-clause-some
touched_chunks-count-requires-clause-some c =
    some_blocks (shape_of_tables c.args.tables.now.durable) c.args.volume.0 c.args.first_block c.args.blocks c.requires.accepted

pub touched_chunks-count-requires-clause-within : goal.touched_chunks-count-requires-clause-within
touched_chunks-count-requires-clause-within c =
    blocks_inside (shape_of_tables c.args.tables.now.durable) c.args.volume.0 c.args.first_block c.args.blocks c.requires.accepted

pub returns : goal.returns
returns c =
    let d = c.args.tables.now.durable in
    let placed : c.args.first_block < 2 ^ 64 = omega (arith, c.ranges.first_block.fits) in
    subst (λ (ps : List place). IsPlacedEvent d (Write c.args.volume.0 c.args.first_block c.args.blocks) (event.Write c.args.volume c.args.first_block c.args.blocks ps))
    (sym c.of.ensures)
    (write_placed d c.args.volume c.args.first_block c.args.blocks c.touched_chunks-count.result c.in_ok-places.places.items
    c.lsn-well_formed.ensures.well c.requires.accepted c.is_wide.ensures placed
    (some_blocks (shape_of_tables d) c.args.volume.0 c.args.first_block c.args.blocks c.requires.accepted) c.requires.few c.touched_chunks-count.ensures
    c.in_ok-places.ensures)
