use Rattle.std.proofs.Common.{◌≡◌, map, take}
use Rattle.vv_units.specs.declared.numbers.Place.{Place as place}
use Rattle.vv_record.specs.declared.record.ChunkCopy.{ChunkCopy as copy}
use Rattle.vv_core.proofs.placing.copies_of.Given as goal

abbrev pub invariant-loop-at : goal.invariant-loop-at
invariant-loop-at l = record {
  indexes : map (λ (c : copy). c.index) l.copies.items ≡ take l.at l.indexes;
  places : map (λ (c : copy). c.place.0) l.copies.items ≡ map (λ (p : place). p.0) (take l.at l.places);
}
