use Rattle.std.proofs.Common.{◌≡◌, map, take}
use Rattle.vv_record.specs.declared.record.ChunkCopy.{ChunkCopy}
use Rattle.vv_core.proofs.fitting.places_of.Given as goal

abbrev pub invariant-loop-copy : goal.invariant-loop-copy
invariant-loop-copy l = l.places.items ≡ map (λ (c : ChunkCopy). c.place) (take l.copy-index l.copies)
