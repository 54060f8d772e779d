use Rattle.std.proofs.Common.{◌≡◌, ◌+◌, take}
use Rattle.std.specs.Prelude.{sum_by}
use Rattle.vv_area.specs.Lengths.{container_length}
use Rattle.vv_spell.proofs.totals.containers_len.Given as goal

abbrev pub invariant-loop-i : goal.invariant-loop-i
invariant-loop-i l = l.bytes ≡ 1 + sum_by container_length (take l.i l.tables.durable.containers)
