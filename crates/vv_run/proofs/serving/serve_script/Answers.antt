use Rattle.std.proofs.Common.{◌∙◌, Some, None, refl, arith}
use Rattle.vv_calls.specs.declared.call.LineFault.TheVariants.{LineTooLong}
use Rattle.vv_profile.specs.Known.{all_known}
use Rattle.vv_reply.specs.declared.reply.Reply.TheVariants as a_reply
use Rattle.vv_meaning.specs.Steps.{State}
use Rattle.vv_array.specs.Standing.{StandsFor}
use Rattle.vv_array.proofs.StateImages.{stands_each}
use Rattle.vv_run.proofs.ReadingLemmas.{gave_as, fewer_left}
use Rattle.vv_run.proofs.BoundLemmas.{too_long_cause}
use Rattle.vv_run.proofs.ServingLemmas.{progress_none, progress_line, line_answered, line_cut, too_long, served_cut, served_all, served_within, served_past, went_past, served_front}
use Rattle.vv_run.proofs.serving.serve_script.Goals as goal

pub lines-init : goal.lines-init
lines-init g c =
    let source = g.S.Source in
    let sink = g.K.Sink in
    let disk = g.D.Disk in
    record {
      progress = progress_none disk.moment disk.left_since disk.read_faults disk.write_faults (all_known c.args.capabilities.now) c.args.buffers.now.lines (source.left c.args.source.now) (sink.taken c.args.sink.now)
          (λ start. disk.is_honest c.args.disk.now × StandsFor c.args.array.now (disk.content c.args.disk.now) (disk.is_image c.args.disk.now) start)
          (StandsFor c.args.array.now (disk.content c.args.disk.now) (disk.is_image c.args.disk.now)) c.args.disk.now c.requires.buffers
          (λ start at_entry. (
            at_entry.1,
            λ image left.
                stands_each c.args.array.now (disk.content c.args.disk.now) (disk.is_image c.args.disk.now) start at_entry.1 image (g.met.D.Disk.only_now c.args.disk.now image left),
          ));
      kept_source = refl;
      kept_sink = refl;
      sizes = c.requires.disk;
      len = refl;
      honesty = (λ is. is, λ is. is);
      reads = omega arith;
      writes = omega arith;
    }

pub lines-preserved-in_default : goal.lines-preserved-in_default
lines-preserved-in_default g c =
    let source = g.S.Source in
    let sink = g.K.Sink in
    let disk = g.D.Disk in
    let given = rw c.in-Ok-Line.field-0-is at c.in-Ok-Line.ensures in
    let so_far = c.lines.invariant in
    let served = c.in_default.ensures in
    record {
      progress = progress_line disk.moment disk.left_since disk.read_faults disk.write_faults (all_known c.args.capabilities.now) c.lines.buffers.lines c.next_line.new.lines (Some c.line-line.result.now)
          (source.left c.args.source.now) (source.left c.lines.source) (source.left c.next_line.new.source)
          (sink.taken c.args.sink.now) (sink.taken c.lines.sink) (sink.taken c.answer_line.new.sink)
          (λ start. disk.is_honest c.args.disk.now × StandsFor c.args.array.now (disk.content c.args.disk.now) (disk.is_image c.args.disk.now) start)
          (StandsFor c.lines.array (disk.content c.lines.disk) (disk.is_image c.lines.disk))
          (StandsFor c.answer_line.new.array (disk.content c.answer_line.new.disk) (disk.is_image c.answer_line.new.disk))
          c.args.disk.now c.lines.disk c.answer_line.new.disk so_far.progress
          (gave_as c.lines.buffers.lines c.next_line.new.lines c.next_line.new.lines.line c.line-line.result.now _ _ given.answer c.line-line.ensures)
          (λ start at_entry state stands. served.ok (so_far.honesty.1 at_entry.0) state stands) served.reads served.writes;
      kept_source = given.cause.kept ∙ so_far.kept_source;
      kept_sink = served.cause.kept ∙ so_far.kept_sink;
      sizes = served.sizes;
      len = served.len ∙ so_far.len;
      honesty = (λ is. so_far.honesty.0 (served.honesty.0 is), λ is. served.honesty.1 (so_far.honesty.1 is));
      reads = omega (arith, so_far.reads, served.reads);
      writes = omega (arith, so_far.writes, served.writes);
    }

pub lines-preserved : goal.lines-preserved
lines-preserved g c =
    let source = g.S.Source in
    let sink = g.K.Sink in
    let disk = g.D.Disk in
    let given = rw c.in-Ok-TooLong.field-0-is at c.in-Ok-TooLong.ensures in
    let so_far = c.lines.invariant in
    let refused = c.in_default-refuse_line.ensures in
    let stands_now : State → Type 0 = StandsFor c.lines.array (disk.content c.lines.disk) (disk.is_image c.lines.disk) in
    let no_fault = too_long_cause (disk.read_faults c.lines.disk) (disk.write_faults c.lines.disk) in
    record {
      progress = progress_line disk.moment disk.left_since disk.read_faults disk.write_faults (all_known c.args.capabilities.now) c.lines.buffers.lines c.next_line.new.lines None
          (source.left c.args.source.now) (source.left c.lines.source) (source.left c.next_line.new.source)
          (sink.taken c.args.sink.now) (sink.taken c.lines.sink) (sink.taken c.refuse_line.new.sink)
          (λ start. disk.is_honest c.args.disk.now × StandsFor c.args.array.now (disk.content c.args.disk.now) (disk.is_image c.args.disk.now) start)
          stands_now stands_now c.args.disk.now c.lines.disk c.lines.disk so_far.progress given.answer
          (λ start at_entry state stands.
          line_answered disk.moment disk.left_since disk.read_faults disk.write_faults (all_known c.args.capabilities.now) state None (record { recovered = None; answer = a_reply.Line LineTooLong })
          (sink.taken c.lines.sink) (sink.taken c.refuse_line.new.sink) stands_now c.lines.disk c.lines.disk
          (too_long disk.moment disk.left_since disk.read_faults disk.write_faults (all_known c.args.capabilities.now) state stands_now c.lines.disk stands
          (λ image left. stands_each c.lines.array (disk.content c.lines.disk) (disk.is_image c.lines.disk) state stands image (g.met.D.Disk.only_now c.lines.disk image left)))
          no_fault refused.ok) (omega arith) (omega arith);
      kept_source = given.cause.kept ∙ so_far.kept_source;
      kept_sink = refused.cause.kept ∙ so_far.kept_sink;
      sizes = so_far.sizes;
      len = so_far.len;
      honesty = so_far.honesty;
      reads = so_far.reads;
      writes = so_far.writes;
    }

pub lines-smaller-in_default : goal.lines-smaller-in_default
lines-smaller-in_default g c =
    let given = rw c.in-Ok-Line.field-0-is at c.in-Ok-Line.ensures.answer in
    fewer_left c.lines.buffers.lines c.next_line.new.lines (Some c.next_line.new.lines.line) _ _ given

pub lines-smaller : goal.lines-smaller
lines-smaller g c =
    let given = rw c.in-Ok-TooLong.field-0-is at c.in-Ok-TooLong.ensures.answer in
    fewer_left c.lines.buffers.lines c.next_line.new.lines None _ _ given

pub returns-in-Err-answer_line-clause-before_sink_fault : goal.returns-in-Err-answer_line-clause-before_sink_fault
returns-in-Err-answer_line-clause-before_sink_fault g c = λ is honest start at_start.
    let source = g.S.Source in
    let sink = g.K.Sink in
    let disk = g.D.Disk in
    let given = rw c.in-Ok-Line.field-0-is at c.in-Ok-Line.ensures.answer in
    let so_far = c.lines.invariant in
    served_cut disk.moment disk.left_since disk.read_faults disk.write_faults (all_known c.args.capabilities.now) c.lines.buffers.lines c.next_line.new.lines (Some c.line-line.result.now)
    (source.left c.args.source.now) (source.left c.lines.source) (source.left c.next_line.new.source)
    (sink.taken c.args.sink.now) (sink.taken c.lines.sink) (sink.taken c.answer_line.new.sink)
    (λ start. disk.is_honest c.args.disk.now × StandsFor c.args.array.now (disk.content c.args.disk.now) (disk.is_image c.args.disk.now) start)
    (StandsFor c.lines.array (disk.content c.lines.disk) (disk.is_image c.lines.disk))
    (StandsFor c.answer_line.new.array (disk.content c.answer_line.new.disk) (disk.is_image c.answer_line.new.disk))
    c.args.disk.now c.lines.disk c.answer_line.new.disk so_far.progress
    (gave_as c.lines.buffers.lines c.next_line.new.lines c.next_line.new.lines.line c.line-line.result.now _ _ given c.line-line.ensures)
    (λ begun at_entry state stands. c.in-Err-answer_line.ensures.err (so_far.honesty.1 at_entry.0) state stands)
    c.in-Err-answer_line.ensures.reads c.in-Err-answer_line.ensures.writes start (honest, at_start)

pub returns-in-Err-refuse_line-clause-before_sink_fault : goal.returns-in-Err-refuse_line-clause-before_sink_fault
returns-in-Err-refuse_line-clause-before_sink_fault g c = λ is honest start at_start.
    let source = g.S.Source in
    let sink = g.K.Sink in
    let disk = g.D.Disk in
    let given = rw c.in-Ok-TooLong.field-0-is at c.in-Ok-TooLong.ensures.answer in
    let stands_now : State → Type 0 = StandsFor c.lines.array (disk.content c.lines.disk) (disk.is_image c.lines.disk) in
    let no_fault = too_long_cause (disk.read_faults c.lines.disk) (disk.write_faults c.lines.disk) in
    served_cut disk.moment disk.left_since disk.read_faults disk.write_faults (all_known c.args.capabilities.now) c.lines.buffers.lines c.next_line.new.lines None
    (source.left c.args.source.now) (source.left c.lines.source) (source.left c.next_line.new.source)
    (sink.taken c.args.sink.now) (sink.taken c.lines.sink) (sink.taken c.refuse_line.new.sink)
    (λ start. disk.is_honest c.args.disk.now × StandsFor c.args.array.now (disk.content c.args.disk.now) (disk.is_image c.args.disk.now) start)
    stands_now stands_now c.args.disk.now c.lines.disk c.lines.disk c.lines.invariant.progress given
    (λ begun at_entry state stands.
    line_cut disk.moment disk.left_since disk.read_faults disk.write_faults (all_known c.args.capabilities.now) state None (record { recovered = None; answer = a_reply.Line LineTooLong })
    (sink.taken c.lines.sink) (sink.taken c.refuse_line.new.sink) stands_now c.lines.disk c.lines.disk
    (too_long disk.moment disk.left_since disk.read_faults disk.write_faults (all_known c.args.capabilities.now) state stands_now c.lines.disk stands
    (λ image left. stands_each c.lines.array (disk.content c.lines.disk) (disk.is_image c.lines.disk) state stands image (g.met.D.Disk.only_now c.lines.disk image left)))
    no_fault c.in-Err-refuse_line.ensures.err) (omega arith) (omega arith)
    start (honest, at_start)

pub returns-in-Ok-End-clause-done : goal.returns-in-Ok-End-clause-done
returns-in-Ok-End-clause-done g c = λ is honest start at_start.
    let source = g.S.Source in
    let sink = g.K.Sink in
    let disk = g.D.Disk in
    let given = rw c.in-Ok-End.field-0-is at c.in-Ok-End.ensures.answer in
    served_all disk.moment disk.left_since disk.read_faults disk.write_faults (all_known c.args.capabilities.now) c.lines.buffers.lines c.next_line.new.lines
    (source.left c.args.source.now) (source.left c.lines.source) (source.left c.next_line.new.source) (sink.taken c.args.sink.now) (sink.taken c.lines.sink) _ _
    c.args.disk.now c.lines.disk c.lines.invariant.progress given start (honest, at_start)

pub returns-in-Ok-End-clause-done_within : goal.returns-in-Ok-End-clause-done_within
returns-in-Ok-End-clause-done_within g c = λ is.
    let source = g.S.Source in
    let sink = g.K.Sink in
    let disk = g.D.Disk in
    let given = rw c.in-Ok-End.field-0-is at c.in-Ok-End.ensures.answer in
    served_within disk.moment disk.left_since disk.read_faults disk.write_faults (all_known c.args.capabilities.now) c.lines.buffers.lines c.next_line.new.lines
    (source.left c.args.source.now) (source.left c.lines.source) (source.left c.next_line.new.source) (sink.taken c.args.sink.now) (sink.taken c.lines.sink) _ _
    c.args.disk.now c.lines.disk c.lines.invariant.progress given

pub returns-in-Ok-TooMuch-clause-too_much : goal.returns-in-Ok-TooMuch-clause-too_much
returns-in-Ok-TooMuch-clause-too_much g c = λ is honest start at_start.
    let source = g.S.Source in
    let sink = g.K.Sink in
    let disk = g.D.Disk in
    let given = rw c.in-Ok-TooMuch.field-0-is at c.in-Ok-TooMuch.ensures.answer in
    served_past disk.moment disk.left_since disk.read_faults disk.write_faults (all_known c.args.capabilities.now) c.lines.buffers.lines c.next_line.new.lines
    (source.left c.args.source.now) (source.left c.lines.source) (source.left c.next_line.new.source) (sink.taken c.args.sink.now) (sink.taken c.lines.sink) _ _
    c.args.disk.now c.lines.disk c.lines.invariant.progress given start (honest, at_start)

pub returns-in-Ok-TooMuch-clause-past_the_limit : goal.returns-in-Ok-TooMuch-clause-past_the_limit
returns-in-Ok-TooMuch-clause-past_the_limit g c = λ is.
    let source = g.S.Source in
    let sink = g.K.Sink in
    let disk = g.D.Disk in
    let given = rw c.in-Ok-TooMuch.field-0-is at c.in-Ok-TooMuch.ensures.answer in
    went_past disk.moment disk.left_since disk.read_faults disk.write_faults (all_known c.args.capabilities.now) c.lines.buffers.lines c.next_line.new.lines
    (source.left c.args.source.now) (source.left c.lines.source) (source.left c.next_line.new.source) (sink.taken c.args.sink.now) (sink.taken c.lines.sink) _ _
    c.args.disk.now c.lines.disk c.lines.invariant.progress given

pub returns-in-Err-clause-before_source_fault : goal.returns-in-Err-clause-before_source_fault
returns-in-Err-clause-before_source_fault g c = λ is honest start at_start.
    let source = g.S.Source in
    let sink = g.K.Sink in
    let disk = g.D.Disk in
    served_front disk.moment disk.left_since disk.read_faults disk.write_faults (all_known c.args.capabilities.now) c.lines.buffers.lines c.next_line.new.lines
    (source.left c.args.source.now) (source.left c.lines.source) (source.left c.next_line.new.source) (sink.taken c.args.sink.now) (sink.taken c.lines.sink) _ _
    c.args.disk.now c.lines.disk c.lines.invariant.progress c.in-Err.ensures.answer start (honest, at_start)
