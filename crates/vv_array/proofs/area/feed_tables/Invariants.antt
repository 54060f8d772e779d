use Rattle.std.proofs.Common.{◌≤◌, ◌-◌}
use Rattle.vv_array.specs.OpeningSteps.{OnlyReads, IsFed}
use Rattle.vv_array.proofs.area.feed_tables.Given as goal

abbrev pub invariant-loop-at : goal.invariant-loop-at
invariant-loop-at g l =
    let disk = g.D.Disk in
    record {
      within : l.at ≤ l.head.area_len;
      fed : IsFed l.reader l.head l.at (disk.content l.fn.disk);
      reads : OnlyReads disk.size disk.content disk.is_image disk.is_honest disk.moment disk.left_since disk.read_faults disk.write_faults l.fn.disk l.disk;
    }

abbrev pub decreases-loop-at : goal.decreases-loop-at
decreases-loop-at g l = l.head.area_len - l.at
