use Rattle.std.proofs.Common.{◌≡◌, take, length}
use Rattle.vv_cdb.specs.UnmapLists.{descriptors}
use Rattle.vv_cdb.proofs.unmaps.first_ranges.Given as goal

abbrev pub invariant-loop-i : goal.invariant-loop-i
invariant-loop-i l = record {
  read : take l.i l.ranges ≡ descriptors l.i l.fn.bytes;
  size : length l.ranges ≡ 64;
}
