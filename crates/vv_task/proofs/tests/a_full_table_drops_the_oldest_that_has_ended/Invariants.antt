use Rattle.std.proofs.Common.{◌≡◌, true, length}
use Rattle.vv_task.specs.Table.{is_above_all}
use Rattle.vv_task.proofs.tests.a_full_table_drops_the_oldest_that_has_ended.Given as goal

abbrev pub invariant-loop-number : goal.invariant-loop-number
invariant-loop-number g l = record {
  above : is_above_all l.number l.table ≡ true;
  count : length l.table ≡ l.number;
}
