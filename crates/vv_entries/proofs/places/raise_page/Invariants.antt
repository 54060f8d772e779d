use Rattle.std.proofs.Common.{◌≤◌, ◌+◌, take}
use Rattle.vv_entries.specs.Changes.{Raises}
use Rattle.vv_entries.proofs.places.raise_page.Given as goal

abbrev pub invariant-loop-entry : goal.invariant-loop-entry
invariant-loop-entry g l = record {
  raised : Raises l.fn.pool l.pool (take l.entry-index l.page);
  steps : l.steps ≤ l.fn.steps + l.entry-index;
  rise : l.fn.steps ≤ l.steps;
}
