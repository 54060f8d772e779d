use Rattle.std.proofs.Common.{◌≡◌, ◌+◌, ◌≤◌, length}
use Rattle.vv_vols.specs.Shelf.{next_held}
use Rattle.vv_vols.specs.Rows.{KeepsOwn}
use Rattle.vv_diff.proofs.DifferenceSteps.{so_far, so_far_state}
use Rattle.vv_diff.proofs.differing.difference.Given as goal

abbrev pub invariant-loop-index : goal.invariant-loop-index
invariant-loop-index g l = record {
  shelf : l.shelf.shelf ≡ so_far_state l.fn.shelf.shelf l.fn.src.0 l.fn.base.0 l.fn.room.indexes l.index;
  number : l.held.number ≡ next_held l.fn.shelf.shelf;
  len : l.held.len ≡ length (so_far l.fn.shelf.shelf l.fn.src.0 l.fn.base.0 l.fn.room.indexes l.index);
  rooms : l.shelf.rooms + 1 ≡ l.fn.shelf.rooms;
  kept : KeepsOwn l.fn.shelf l.shelf;
  rise : l.fn.steps ≤ l.steps;
  steps : l.steps ≤ l.fn.steps + length (so_far l.fn.shelf.shelf l.fn.src.0 l.fn.base.0 l.fn.room.indexes l.index);
}
