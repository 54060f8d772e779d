use Rattle.std.proofs.Common.{◌≡◌, take}
use Rattle.vv_area.specs.Ruled.{allocated_places}
use Rattle.vv_area.proofs.rules.clones.allocated_places.Given as goal

abbrev pub invariant-loop-index : goal.invariant-loop-index
invariant-loop-index l = l.places.items ≡ allocated_places (take l.index l.entries)
