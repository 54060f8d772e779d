use Rattle.std.proofs.Common.{◌≡◌, ◌≤◌, ◌↔◌}
use Rattle.vv_data.specs.Layout.{disk_len}
use Rattle.vv_profile.specs.Known.{all_known}
use Rattle.vv_array.specs.Seen.{geometry_of}
use Rattle.vv_array.specs.Standing.{StandsFor}
use Rattle.vv_run.proofs.ReadingLemmas.{lines_left}
use Rattle.vv_run.proofs.ServingLemmas.{Progress}
use Rattle.vv_run.proofs.serving.serve_script.Given as goal

abbrev pub invariant-lines : goal.invariant-lines
invariant-lines g l =
    let source = g.S.Source in
    let sink = g.K.Sink in
    let disk = g.D.Disk in
    record {
      progress : Progress disk.moment disk.left_since disk.read_faults disk.write_faults (all_known l.capabilities) l.buffers.lines (source.left l.fn.source) (source.left l.source) (sink.taken l.fn.sink) (sink.taken l.sink)
          (λ start. disk.is_honest l.fn.disk × StandsFor l.fn.array (disk.content l.fn.disk) (disk.is_image l.fn.disk) start)
          (StandsFor l.array (disk.content l.disk) (disk.is_image l.disk)) l.fn.disk l.disk;
      kept_source : source.faults l.source ≡ source.faults l.fn.source;
      kept_sink : sink.faults l.sink ≡ sink.faults l.fn.sink;
      sizes : disk.size l.disk ≡ disk_len (geometry_of l.array);
      len : disk.size l.disk ≡ disk.size l.fn.disk;
      honesty : disk.is_honest l.disk ↔ disk.is_honest l.fn.disk;
      reads : disk.read_faults l.fn.disk ≤ disk.read_faults l.disk;
      writes : disk.write_faults l.fn.disk ≤ disk.write_faults l.disk;
    }

abbrev pub decreases-lines : goal.decreases-lines
decreases-lines g l = lines_left l.buffers.lines
