use Rattle.std.proofs.Common.{◌≡◌, ◌≤◌, ◌-◌, ◌↔◌}
use Rattle.vv_disk.specs.Images.{ToldWithin}
use Rattle.vv_data.specs.Layout.{chunks_at}
use Rattle.vv_flat.specs.State.{Array}
use Rattle.vv_flat.specs.Chunks.{ChunkValue}
use Rattle.vv_journal.specs.Calls.{JournalState}
use Rattle.vv_array.specs.Standing.{UpOn}
use Rattle.vv_array.specs.SwitchSteps.{IsSwitchOf, HasFirst, KeepsUp}
use Rattle.vv_array.proofs.switching.put_tables.Given as goal

abbrev pub invariant-loop-at : goal.invariant-loop-at
invariant-loop-at g l =
    let disk = g.D.Disk in
    record {
      within : l.at ≤ l.len;
      counted : l.switching ≡ record l.fn.switching { done = l.at };
      size : disk.size l.disk ≡ disk.size l.fn.disk;
      honesty : disk.is_honest l.disk ↔ disk.is_honest l.fn.disk;
      told : ToldWithin 0 (chunks_at l.fn.switching.geometry) (disk.content l.fn.disk) (disk.content l.disk);
      writes : disk.write_faults l.disk ≡ disk.write_faults l.fn.disk;
      reads : disk.read_faults l.disk ≡ disk.read_faults l.fn.disk;
      tables : HasFirst l.fn.switching l.core.array.durable (disk.content l.fn.disk) → HasFirst l.switching l.core.array.durable (disk.content l.disk);
      keeps : disk.is_honest l.fn.disk → (journal : JournalState) → (m : Array ChunkValue) → IsSwitchOf journal l.fn.switching
          → UpOn journal l.core.array (disk.content l.fn.disk) (disk.is_image l.fn.disk) m
          → KeepsUp disk.content disk.is_image disk.moment disk.left_since l.fn.disk l.disk journal l.core.array m;
    }

abbrev pub decreases-loop-at : goal.decreases-loop-at
decreases-loop-at g l = l.len - l.at
