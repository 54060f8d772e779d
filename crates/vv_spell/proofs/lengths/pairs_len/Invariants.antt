use Rattle.std.proofs.Common.{◌≡◌, take}
use Rattle.vv_area.specs.Lengths.{metadata_length}
use Rattle.vv_spell.proofs.lengths.pairs_len.Given as goal

abbrev pub invariant-loop-i : goal.invariant-loop-i
invariant-loop-i l = l.bytes ≡ metadata_length (take l.i l.pairs)
