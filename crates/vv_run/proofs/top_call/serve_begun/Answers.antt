use Rattle.std.proofs.Common.{ℕ, List, take, inl}
use Rattle.vv_profile.specs.Known.{all_known}
use Rattle.vv_io.specs.Reading.{script_limit}
use Rattle.vv_array.proofs.StateImages.{stands_each}
use Rattle.vv_run.specs.Bounds.{AreBounded}
use Rattle.vv_run.specs.Lines.{lines_of, ended_lines_of, lines_answered}
use Rattle.vv_run.specs.Replies.{recovered_line}
use Rattle.vv_run.proofs.TopLemmas.{some_of, head_cut, answered_headed, front_headed, cut_headed}
use Rattle.vv_run.proofs.top_call.serve_begun.Goals as goal

pub returns-in-Ok-clause-done : goal.returns-in-Ok-clause-done
returns-in-Ok-clause-done g c = λ is honest start stands.
    let source = g.S.Source in
    let sink = g.K.Sink in
    let disk = g.D.Disk in
    let script = c.serve_script-status in
    answered_headed disk.moment disk.left_since disk.is_image (all_known c.args.capabilities.now) start (recovered_line c.args.begun.recovered)
    (sink.taken c.args.sink.now) (sink.taken c.write_recovered.new.sink) (sink.taken script.new.sink) script.new.array (disk.content script.new.disk) c.args.disk.now script.new.disk
    (AreBounded (disk.read_faults c.args.disk.now) (disk.read_faults script.new.disk) (disk.write_faults c.args.disk.now) (disk.write_faults script.new.disk))
    c.in-Ok.ensures.ok (source.left c.args.source.now) lines_of (script.ensures.done is honest start stands)

pub returns-in-Ok-clause-before_source_fault : goal.returns-in-Ok-clause-before_source_fault
returns-in-Ok-clause-before_source_fault g c = λ is honest start stands.
    let source = g.S.Source in
    let sink = g.K.Sink in
    let disk = g.D.Disk in
    let script = c.serve_script-status in
    front_headed disk.moment disk.left_since disk.is_image (all_known c.args.capabilities.now) start (recovered_line c.args.begun.recovered)
    (sink.taken c.args.sink.now) (sink.taken c.write_recovered.new.sink) (sink.taken script.new.sink) script.new.array (disk.content script.new.disk) c.args.disk.now script.new.disk
    (AreBounded (disk.read_faults c.args.disk.now) (disk.read_faults script.new.disk) (disk.write_faults c.args.disk.now) (disk.write_faults script.new.disk))
    c.in-Ok.ensures.ok (source.left c.args.source.now) (source.left script.new.source) (script.ensures.before_source_fault is honest start stands)

pub returns-in-Ok-clause-too_much : goal.returns-in-Ok-clause-too_much
returns-in-Ok-clause-too_much g c = λ is honest start stands.
    let source = g.S.Source in
    let sink = g.K.Sink in
    let disk = g.D.Disk in
    let script = c.serve_script-status in
    answered_headed disk.moment disk.left_since disk.is_image (all_known c.args.capabilities.now) start (recovered_line c.args.begun.recovered)
    (sink.taken c.args.sink.now) (sink.taken c.write_recovered.new.sink) (sink.taken script.new.sink) script.new.array (disk.content script.new.disk) c.args.disk.now script.new.disk
    (AreBounded (disk.read_faults c.args.disk.now) (disk.read_faults script.new.disk) (disk.write_faults c.args.disk.now) (disk.write_faults script.new.disk))
    c.in-Ok.ensures.ok (source.left c.args.source.now) (λ (told : List ℕ). ended_lines_of (take script_limit told)) (script.ensures.too_much is honest start stands)

pub returns-in-Ok-clause-before_sink_fault : goal.returns-in-Ok-clause-before_sink_fault
returns-in-Ok-clause-before_sink_fault g c = λ is honest start stands.
    let source = g.S.Source in
    let sink = g.K.Sink in
    let disk = g.D.Disk in
    let script = c.serve_script-status in
    cut_headed disk.moment disk.left_since disk.is_image (all_known c.args.capabilities.now) start (recovered_line c.args.begun.recovered)
    (sink.taken c.args.sink.now) (sink.taken c.write_recovered.new.sink) (sink.taken script.new.sink) script.new.array (disk.content script.new.disk) c.args.disk.now script.new.disk
    (AreBounded (disk.read_faults c.args.disk.now) (disk.read_faults script.new.disk) (disk.write_faults c.args.disk.now) (disk.write_faults script.new.disk))
    c.in-Ok.ensures.ok (source.left c.args.source.now) lines_answered (script.ensures.before_sink_fault is honest start stands)

pub returns-in-Err-clause-before_sink_fault : goal.returns-in-Err-clause-before_sink_fault
returns-in-Err-clause-before_sink_fault g c = λ is honest start stands.
    let source = g.S.Source in
    let sink = g.K.Sink in
    let disk = g.D.Disk in
    some_of (source.left c.args.source.now) _ (λ told. inl (
    head_cut disk.moment disk.left_since disk.is_image start (recovered_line c.args.begun.recovered) (sink.taken c.args.sink.now) (sink.taken c.write_recovered.new.sink) c.args.disk.now
    c.in-Err.ensures.err (stands_each c.args.begun.array (disk.content c.args.disk.now) (disk.is_image c.args.disk.now) start stands)
    (λ image left. g.met.D.Disk.only_now c.args.disk.now image left)))
