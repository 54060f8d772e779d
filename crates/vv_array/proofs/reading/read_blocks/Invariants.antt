use Rattle.std.proofs.Common.{◌≡◌, ◌↔◌, ◌≤◌, ◌*◌, ◌-◌, ℕ, List, take, IfSome}
use Rattle.vv_disk.specs.Images.{LeavesOnly}
use Rattle.vv_flat.specs.Chunks.{filled_tables}
use Rattle.vv_image.specs.Standing.{bytes_at_place}
use Rattle.vv_meaning.specs.Meaning.{blocks_at}
use Rattle.vv_array.proofs.reading.read_blocks.Given as goal

abbrev pub invariant-loop-done : goal.invariant-loop-done
invariant-loop-done g l =
    let disk = g.D.Disk in
    let d = l.core.array.durable in
    record {
      within : l.done ≤ l.blocks;
      read : IfSome (disk.content l.fn.disk) (λ c. take (l.done * 512) l.into ≡ blocks_at (filled_tables (bytes_at_place d.geometry c) d) l.volume.0 l.first l.done);
      len : disk.size l.disk ≡ disk.size l.fn.disk;
      content : disk.content l.disk ≡ disk.content l.fn.disk;
      reads : disk.read_faults l.disk ≡ disk.read_faults l.fn.disk;
      writes : disk.write_faults l.disk ≡ disk.write_faults l.fn.disk;
      images : (image : List ℕ) → disk.is_image l.disk image ↔ disk.is_image l.fn.disk image;
      any_moment : LeavesOnly disk.moment disk.left_since l.fn.disk l.disk (disk.is_image l.fn.disk);
      honesty : disk.is_honest l.disk ↔ disk.is_honest l.fn.disk;
    }

abbrev pub decreases-loop-done : goal.decreases-loop-done
decreases-loop-done g l = l.blocks - l.done
