use Rattle.std.proofs.Common.{map}
use Rattle.vv_entries.specs.Owners.{AreAllLists}
use Rattle.vv_vols.specs.Rows.{held_map}
use Rattle.vv_vols.proofs.shelf_close.end_held.Given as goal

abbrev pub invariant-loop-row : goal.invariant-loop-row
invariant-loop-row l = AreAllLists l.entries.store (map held_map l.held.items)

abbrev pub decreases-loop-row : goal.decreases-loop-row
decreases-loop-row l = goal.left-loop-row l
