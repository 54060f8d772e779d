use Rattle.std.proofs.Common.{◌≡◌, ◌+◌, take}
use Rattle.std.specs.Prelude.{sum_by}
use Rattle.vv_area.specs.Lengths.{task_length}
use Rattle.vv_spell.proofs.totals.tasks_len.Given as goal

abbrev pub invariant-loop-i : goal.invariant-loop-i
invariant-loop-i l = l.bytes ≡ 2 + sum_by task_length (take l.i l.tables.durable.tasks)
