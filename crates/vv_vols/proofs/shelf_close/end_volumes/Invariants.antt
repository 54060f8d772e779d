use Rattle.std.proofs.Common.{map, ◌++◌}
use Rattle.vv_entries.specs.Owners.{AreAllLists}
use Rattle.vv_vols.specs.Rows.{volume_map, held_map}
use Rattle.vv_vols.proofs.shelf_close.end_volumes.Given as goal

abbrev pub invariant-loop-row : goal.invariant-loop-row
invariant-loop-row l = AreAllLists l.entries.store (map volume_map l.volumes.items ++ map held_map l.held)

abbrev pub decreases-loop-row : goal.decreases-loop-row
decreases-loop-row l = goal.left-loop-row l
