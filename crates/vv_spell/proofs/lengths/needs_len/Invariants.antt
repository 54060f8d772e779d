use Rattle.std.proofs.Common.{◌≡◌, take}
use Rattle.vv_area.specs.Lengths.{needs_length}
use Rattle.vv_spell.proofs.lengths.needs_len.Given as goal

abbrev pub invariant-loop-need : goal.invariant-loop-need
invariant-loop-need l = l.bytes ≡ needs_length (take l.need-index l.needs)
