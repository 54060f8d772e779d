use Rattle.std.proofs.Common.{◌≡◌, ◌≤◌, ◌-◌, map, length, take}
use Rattle.vv_flat.specs.Chunks.{unmap_ranges}
use Rattle.vv_plan.specs.CommandAsks.{pair_of}
use Rattle.vv_plan.proofs.asks.unmap_ranges.Given as goal

abbrev pub invariant-loop-first : goal.invariant-loop-first
invariant-loop-first l = record {
  within : l.i ≤ length l.unmaps;
  done : map pair_of l.ranges.items ≡ unmap_ranges l.geometry.chunk_blocks (take l.i l.unmaps);
}

abbrev pub decreases-loop-first : goal.decreases-loop-first
decreases-loop-first l = length l.unmaps - l.i
