use Rattle.std.proofs.Common.{◌≡◌, ◌↔◌, ℕ, List, map}
use Rattle.vv_record.specs.declared.record.ChunkCopy.{ChunkCopy}
use Rattle.vv_disk.specs.Images.{EachImage, LeavesOnly}
use Rattle.vv_array.specs.Chunks.{ToldAt}
use Rattle.vv_array.specs.ChunkBytes.{image_chunk, ChangedAt}
use Rattle.vv_array.proofs.ChunkValues.{Fronts}
use Rattle.vv_array.proofs.copying.write_copies.Given as goal

abbrev pub invariant-loop-copy : goal.invariant-loop-copy
invariant-loop-copy g l =
    let disk = g.D.Disk in
    let d = l.core.array.durable in
    let places : List ℕ = map (λ (c : ChunkCopy). c.place.0) l.copies in
    record {
      len : disk.size l.disk ≡ disk.size l.fn.disk;
      honesty : disk.is_honest l.disk ↔ disk.is_honest l.fn.disk;
      reads : disk.read_faults l.disk ≡ disk.read_faults l.fn.disk;
      writes : disk.write_faults l.disk ≡ disk.write_faults l.fn.disk;
      told : ToldAt d.geometry places (disk.content l.fn.disk) (disk.content l.disk);
      each : disk.is_honest l.fn.disk → EachImage (ChangedAt d.geometry places (disk.is_image l.fn.disk)) (disk.is_image l.disk);
      any_moment : disk.is_honest l.fn.disk → LeavesOnly disk.moment disk.left_since l.fn.disk l.disk (ChangedAt d.geometry places (disk.is_image l.fn.disk));
      new : Fronts d places (map (λ (c : ChunkCopy). c.index) l.copies) (λ flat i. image_chunk flat l.task.0 i) (disk.content l.fn.disk) (disk.content l.disk) l.copy-index;
    }
