use Rattle.std.proofs.Common.{map}
use Rattle.vv_units.specs.declared.numbers.Place.{Place as place}
use Rattle.vv_flat.specs.Plans.{fresh_places}
use Rattle.vv_core.proofs.LowestPlaces.{AreTaken}
use Rattle.vv_core.proofs.placing.lowest_places.Given as goal

abbrev pub invariant-loop : goal.invariant-loop
invariant-loop l = AreTaken (fresh_places l.tables.durable) (map (λ (p : place). p.0) l.places.items) l.from l.counter
