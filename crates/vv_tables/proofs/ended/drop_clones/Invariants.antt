use Rattle.std.proofs.Common.{◌≡◌, vec_capacity}
use Rattle.vv_tables.specs.Kept.{AreHeld}
use Rattle.vv_tables.proofs.Emptied.{Emptied}
use Rattle.vv_tables.proofs.ended.drop_clones.Given as goal

abbrev pub invariant-loop-row : goal.invariant-loop-row
invariant-loop-row l = record {
  held : AreHeld l.shelf.shelf l.rows.items l.copies;
  emptied : Emptied l.initial.shelf l.shelf;
  capacity : vec_capacity l.rows ≡ vec_capacity l.initial.rows;
}

abbrev pub decreases-loop-row : goal.decreases-loop-row
decreases-loop-row l = goal.left-loop-row l
