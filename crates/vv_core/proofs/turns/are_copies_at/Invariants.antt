use Rattle.std.proofs.Common.{◌≡◌, drop, map}
use Rattle.vv_record.specs.declared.record.ChunkCopy.{ChunkCopy}
use Rattle.vv_flat.specs.Lists.{numbers_eq}
use Rattle.vv_core.proofs.turns.are_copies_at.Given as goal

abbrev pub invariant-loop-i : goal.invariant-loop-i
invariant-loop-i l =
    numbers_eq (drop l.i (map (λ (c : ChunkCopy). c.index) l.copies)) (drop l.i l.indexes)
    ≡ numbers_eq (map (λ (c : ChunkCopy). c.index) l.copies) l.indexes
