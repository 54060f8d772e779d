use Rattle.std.proofs.Common.{◌≡◌, ◌+◌, ◌++◌, take, replicate, false}
use Rattle.vv_bitmap.proofs.part.put_clear.Given as goal

abbrev pub invariant-loop-i : goal.invariant-loop-i
invariant-loop-i l = take (l.at + l.i) l.out ≡ take l.at l.initial.out ++ replicate l.i false
