use Rattle.std.proofs.Common.{◌≡◌, ◌+◌, ◌++◌, take, drop}
use Rattle.vv_flat.specs.Bits.{unshared_bits}
use Rattle.vv_bitmap.specs.Stamps.{stamps_of}
use Rattle.vv_bitmap.proofs.part.put_bits.Given as goal

abbrev pub invariant-loop-i : goal.invariant-loop-i
invariant-loop-i l = take (l.at + l.i) l.out ≡ take l.at l.initial.out ++ take l.i (drop l.part.from (unshared_bits (stamps_of l.page) (stamps_of l.base)))
