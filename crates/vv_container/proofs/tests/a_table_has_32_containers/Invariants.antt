use Rattle.std.proofs.Common.{◌≡◌, true}
use Rattle.vv_container.specs.Table.{is_above_all}
use Rattle.vv_container.proofs.tests.a_table_has_32_containers.Given as goal

abbrev pub invariant-loop-number : goal.invariant-loop-number
invariant-loop-number g l = is_above_all l.number l.table ≡ true
