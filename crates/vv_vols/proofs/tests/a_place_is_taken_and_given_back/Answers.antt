use Rattle.vv_vols.proofs.TakenPlaces.{one_in}
use Rattle.vv_vols.proofs.tests.a_place_is_taken_and_given_back.Goals as goal

pub give_back-requires : goal.give_back-requires
give_back-requires g c = one_in c.reserve-2.new.self c.take_one.new.shelf c.take_one.result c.expect-fresh.result c.expect-fresh.ensures c.take_one.ensures.some
