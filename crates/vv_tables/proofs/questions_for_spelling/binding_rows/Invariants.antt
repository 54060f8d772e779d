use Rattle.std.proofs.Common.{◌≤◌, ◌-◌, length}
use Rattle.vv_tables.proofs.questions_for_spelling.binding_rows.Given as goal

abbrev pub invariant-loop-bounds : goal.invariant-loop-bounds
invariant-loop-bounds l = record {
  low : l.bounds.low ≤ length l.bindings.bindings;
  high : length l.bindings.bindings ≤ l.bounds.high;
  few : l.bounds.high ≤ 1024;
}

abbrev pub decreases-loop-bounds : goal.decreases-loop-bounds
decreases-loop-bounds l = l.bounds.high - l.bounds.low
