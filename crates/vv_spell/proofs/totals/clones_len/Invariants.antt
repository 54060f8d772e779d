use Rattle.std.proofs.Common.{◌≡◌, take}
use Rattle.std.specs.Prelude.{sum_by}
use Rattle.vv_area.specs.Lengths.{clone_length}
use Rattle.vv_spell.proofs.totals.clones_len.Given as goal

abbrev pub invariant-loop-i : goal.invariant-loop-i
invariant-loop-i l = l.bytes ≡ sum_by clone_length (take l.i l.tables.durable.clones)
