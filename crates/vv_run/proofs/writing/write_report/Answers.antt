use Rattle.vv_reply.specs.Replies.{text_of}
use Rattle.vv_run.specs.Replies.{recovered_line}
use Rattle.vv_run.proofs.StreamLemmas.{report_cut_later, cut_first}
use Rattle.vv_run.proofs.writing.write_report.Goals as goal

pub returns-in-Ok-clause-err : goal.returns-in-Ok-clause-err
returns-in-Ok-clause-err g c =
    let sink = g.K.Sink in
    report_cut_later c.write_reply.result (sink.taken c.args.sink.now) (sink.taken c.write_recovered.new.sink) (sink.taken c.write_reply.new.sink)
    (recovered_line c.args.recovered) (text_of c.args.reply.now) c.in-Ok.ensures.ok c.write_reply.ensures.err

pub returns-in-Err-clause-err : goal.returns-in-Err-clause-err
returns-in-Err-clause-err g c =
    let sink = g.K.Sink in
    cut_first (sink.taken c.args.sink.now) (sink.taken c.write_recovered.new.sink) (recovered_line c.args.recovered) (text_of c.args.reply.now) c.in-Err.ensures.err
