use Rattle.std.proofs.Common.{◌≡◌, map, take}
use Rattle.vv_units.specs.declared.numbers.Place.{Place as place}
use Rattle.vv_core.proofs.places.numbers_of.Given as goal

abbrev pub invariant-loop-place : goal.invariant-loop-place
invariant-loop-place l = l.numbers.items ≡ map (λ (p : place). p.0) (take l.place-index l.places)
