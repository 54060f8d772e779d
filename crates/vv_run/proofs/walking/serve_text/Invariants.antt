use Rattle.std.proofs.Common.{◌≡◌, ◌≤◌, ◌+◌, ◌↔◌, length}
use Rattle.vv_data.specs.Layout.{disk_len}
use Rattle.vv_profile.specs.Known.{all_known}
use Rattle.vv_array.specs.Seen.{geometry_of}
use Rattle.vv_array.specs.Standing.{StandsFor}
use Rattle.vv_run.specs.Tallies.{none_counted, Counts, LastFits}
use Rattle.vv_run.proofs.LoadingLemmas.{Served}
use Rattle.vv_run.proofs.walking.serve_text.Given as goal

abbrev pub invariant-loop-rest : goal.invariant-loop-rest
invariant-loop-rest g l =
    let disk = g.D.Disk in
    record {
      served : Served disk.moment disk.left_since disk.read_faults disk.write_faults (all_known l.capabilities) l.text l.rest (Counts none_counted l.tally)
          (λ start. disk.is_honest l.fn.disk × StandsFor l.fn.array (disk.content l.fn.disk) (disk.is_image l.fn.disk) start)
          (StandsFor l.array (disk.content l.disk) (disk.is_image l.disk)) l.fn.disk l.disk;
      small : l.tally.accepted + l.tally.refused + length l.rest ≤ length l.text;
      fits : LastFits l.tally;
      sizes : disk.size l.disk ≡ disk_len (geometry_of l.array);
      len : disk.size l.disk ≡ disk.size l.fn.disk;
      honesty : disk.is_honest l.disk ↔ disk.is_honest l.fn.disk;
      reads : disk.read_faults l.fn.disk ≤ disk.read_faults l.disk;
      writes : disk.write_faults l.fn.disk ≤ disk.write_faults l.disk;
    }

abbrev pub decreases-loop-rest : goal.decreases-loop-rest
decreases-loop-rest g l = length l.rest
