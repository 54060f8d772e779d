use Rattle.std.proofs.Common.{◌≡◌, ◌+◌, take}
use Rattle.std.specs.Prelude.{sum_by}
use Rattle.vv_area.specs.Lengths.{volume_length}
use Rattle.vv_spell.proofs.totals.volumes_len.Given as goal

abbrev pub invariant-loop-i : goal.invariant-loop-i
invariant-loop-i l = l.bytes ≡ 2 + sum_by (volume_length 2) (take l.i l.tables.durable.volumes)
