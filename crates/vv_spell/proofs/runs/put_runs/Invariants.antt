use Rattle.std.proofs.Common.{◌≡◌, ◌≤◌}
use Rattle.vv_area.specs.Spelling.{runs_spelling}
use Rattle.vv_spell.specs.Window.{seen, behind}
use Rattle.vv_spell.specs.Runs.{rest_from}
use Rattle.vv_spell.proofs.runs.put_runs.Given as goal

abbrev pub invariant-loop-i : goal.invariant-loop-i
invariant-loop-i l = record {
  text : behind (seen l.window l.into) (rest_from l.tables.durable l.i l.next) ≡ behind (seen l.fn.window l.fn.into) (runs_spelling l.tables.durable.tasks l.tables.durable.clones l.tables.durable.copies);
  clones : l.next.clones ≤ l.i;
  copies : l.next.copies ≤ l.i;
}
