use Rattle.std.proofs.Common.{◌≡◌, true, take}
use Rattle.std.specs.List.{list_all}
use Rattle.vv_units.specs.declared.numbers.Place.{Place as place}
use Rattle.vv_flat.specs.Replay.{is_fresh}
use Rattle.vv_core.proofs.places.are_fresh.Given as goal

abbrev pub invariant-loop-place : goal.invariant-loop-place
invariant-loop-place l = list_all (λ (p : place). is_fresh l.tables.durable p.0) (take l.place-index l.places) ≡ true
