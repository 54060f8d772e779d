use Rattle.std.proofs.Common.{◌≡◌, ◌≤◌, length, take}
use Rattle.vv_tables.specs.Counts.{volume_pairs}
use Rattle.vv_tables.proofs.counts.pairs_of_volumes.Given as goal

abbrev pub invariant-loop-i : goal.invariant-loop-i
invariant-loop-i l = record {
  within : l.i ≤ length l.shelf.shelf.volumes;
  counted : l.pairs ≡ volume_pairs (take l.i l.shelf.shelf.volumes);
}
