use Rattle.vv_area.proofs.Gathered.{places_go_on}
use Rattle.vv_area.proofs.rules.clones.allocated_places.Goals as goal

pub loop-index-preserved : goal.loop-index-preserved
loop-index-preserved c =
    places_go_on c.args.entries.now c.loop-index.index c.index-entries-index.result c.loop-index.places.items c.put_if_allocated.new.places.items
    c.loop-index-test.true c.index-entries-index.is c.loop-index.invariant c.in_ok-put_if_allocated.ensures
