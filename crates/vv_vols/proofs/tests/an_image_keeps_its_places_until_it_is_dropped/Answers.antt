use Rattle.vv_vols.proofs.TakenPlaces.{one_in}
use Rattle.vv_vols.proofs.tests.an_image_keeps_its_places_until_it_is_dropped.Goals as goal

pub make_filled-filled-requires-clause-fresh : goal.make_filled-filled-requires-clause-fresh
make_filled-filled-requires-clause-fresh g c =
    one_in c.reserve_list-2.new.self c.take_one.new.shelf c.take_one.result c.expect-fresh.result c.expect-fresh.ensures c.take_one.ensures.some
