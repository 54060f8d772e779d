use Rattle.std.proofs.Common.{◌≤◌, length}
use Rattle.vv_tables.proofs.counts.volume_rows.Given as goal

abbrev pub invariant-loop-i : goal.invariant-loop-i
invariant-loop-i l = l.i ≤ length l.shelf.shelf.volumes
