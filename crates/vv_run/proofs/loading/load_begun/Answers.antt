use Rattle.std.proofs.Common.{List, ℕ}
use Rattle.std.specs.Io.KnownBytes.{Appends}
use Rattle.vv_disk.specs.Images.{EachImage, LeavesOnly}
use Rattle.vv_profile.specs.Known.{all_known}
use Rattle.vv_array.specs.Standing.{StandsFor}
use Rattle.vv_array.specs.Moments.{StandsForOne}
use Rattle.vv_array.proofs.StateImages.{stands_each}
use Rattle.vv_run.specs.Bounds.{AreBounded}
use Rattle.vv_run.specs.Lines.{lines_of}
use Rattle.vv_run.specs.Loading.{loaded_text}
use Rattle.vv_run.specs.Tallies.{none_counted, Counts}
use Rattle.vv_run.specs.Writing.{StopsWithin}
use Rattle.vv_run.proofs.LoadingLemmas.{reported_over}
use Rattle.vv_run.proofs.LoadedLemmas.{wrote_tally}
use Rattle.vv_run.proofs.loading.load_begun.Goals as goal

pub returns-in-Ok-clause-ends : goal.returns-in-Ok-clause-ends
returns-in-Ok-clause-ends g c = λ honest start stands.
    let sink = g.K.Sink in
    let disk = g.D.Disk in
    let text = c.serve_text-tally in
    reported_over (all_known c.args.capabilities.now) start (Counts none_counted text.result) (λ reports. Appends (sink.taken c.args.sink.now) (sink.taken c.write_tally.new.sink) (loaded_text reports))
    (StandsFor text.new.array (disk.content text.new.disk) (disk.is_image text.new.disk)) (λ state. EachImage (StandsForOne state) (disk.is_image text.new.disk))
    (LeavesOnly disk.moment disk.left_since c.args.disk.now text.new.disk) (LeavesOnly disk.moment disk.left_since c.args.disk.now text.new.disk)
    (AreBounded (disk.read_faults c.args.disk.now) (disk.read_faults text.new.disk) (disk.write_faults c.args.disk.now) (disk.write_faults text.new.disk))
    (AreBounded (disk.read_faults c.args.disk.now) (disk.read_faults text.new.disk) (disk.write_faults c.args.disk.now) (disk.write_faults text.new.disk))
    (lines_of c.args.text.now)
    (λ reports counts. wrote_tally (λ (bytes : List ℕ). Appends (sink.taken c.args.sink.now) (sink.taken c.write_tally.new.sink) bytes) text.result reports counts c.in-Ok.ensures.ok)
    (λ state stood. stands_each text.new.array (disk.content text.new.disk) (disk.is_image text.new.disk) state stood) (λ P weaker leaves. leaves) (λ reports so. so)
    (text.ensures.served honest start stands)

pub returns-in-Err-clause-ends : goal.returns-in-Err-clause-ends
returns-in-Err-clause-ends g c = λ honest start stands.
    let sink = g.K.Sink in
    let disk = g.D.Disk in
    let text = c.serve_text-tally in
    reported_over (all_known c.args.capabilities.now) start (Counts none_counted text.result) (λ reports. StopsWithin (sink.taken c.args.sink.now) (sink.taken c.write_tally.new.sink) (loaded_text reports))
    (StandsFor text.new.array (disk.content text.new.disk) (disk.is_image text.new.disk)) (λ state. EachImage (StandsForOne state) (disk.is_image text.new.disk))
    (LeavesOnly disk.moment disk.left_since c.args.disk.now text.new.disk) (LeavesOnly disk.moment disk.left_since c.args.disk.now text.new.disk)
    (AreBounded (disk.read_faults c.args.disk.now) (disk.read_faults text.new.disk) (disk.write_faults c.args.disk.now) (disk.write_faults text.new.disk))
    (AreBounded (disk.read_faults c.args.disk.now) (disk.read_faults text.new.disk) (disk.write_faults c.args.disk.now) (disk.write_faults text.new.disk))
    (lines_of c.args.text.now)
    (λ reports counts. wrote_tally (λ (bytes : List ℕ). StopsWithin (sink.taken c.args.sink.now) (sink.taken c.write_tally.new.sink) bytes) text.result reports counts c.in-Err.ensures.err)
    (λ state stood. stands_each text.new.array (disk.content text.new.disk) (disk.is_image text.new.disk) state stood) (λ P weaker leaves. leaves) (λ reports so. so)
    (text.ensures.served honest start stands)
