use Rattle.std.proofs.Common.{◌≡◌, IfSome}
use Rattle.vv_flat.specs.State.{empty_volatile}
use Rattle.vv_array.specs.OpeningSteps.{OnlyReads, HasComeTo}
use Rattle.vv_array.proofs.slots.replay_slots.Given as goal

abbrev pub invariant-loop-slot : goal.invariant-loop-slot
invariant-loop-slot g l =
    let disk = g.D.Disk in
    record {
      geometry : l.journal.geometry ≡ l.fn.journal.geometry;
      half : l.journal.half ≡ l.fn.journal.half;
      records : l.journal.records ≡ l.slot;
      waiting : l.core.array.volatile ≡ empty_volatile;
      sizes : l.core.array.durable.geometry ≡ l.fn.core.array.durable.geometry;
      come : IfSome (disk.content l.fn.disk) (HasComeTo l.fn.journal l.journal l.fn.core.array.durable l.core.array.durable);
      reads : OnlyReads disk.size disk.content disk.is_image disk.is_honest disk.moment disk.left_since disk.read_faults disk.write_faults l.fn.disk l.disk;
    }
