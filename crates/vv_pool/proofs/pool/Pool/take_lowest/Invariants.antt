use Rattle.std.proofs.Common.{◌≡◌, ◌+◌, drop}
use Rattle.vv_pool.specs.FreshPlaces.{appended}
use Rattle.vv_pool.specs.Pool.{free_of, free_places, lowest_places, with_fresh}
use Rattle.vv_pool.proofs.pool.Pool.take_lowest.Given as goal

abbrev pub invariant-loop-taken : goal.invariant-loop-taken
invariant-loop-taken l = record {
  taken : l.self ≡ with_fresh l.fn.self (lowest_places l.fn.self l._taken);
  out : l.out ≡ appended l.fn.out (lowest_places l.fn.self l._taken);
  rest : free_places l.self ≡ drop l._taken (free_places l.fn.self);
  free : free_of l.self + l._taken ≡ free_of l.fn.self;
}
