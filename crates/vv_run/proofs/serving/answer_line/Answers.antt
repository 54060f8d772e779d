use Rattle.std.proofs.Common.{Some}
use Rattle.vv_profile.specs.Known.{all_known}
use Rattle.vv_array.specs.Standing.{StandsFor}
use Rattle.vv_run.proofs.ServingLemmas.{answered_so, cut_so}
use Rattle.vv_run.proofs.serving.answer_line.Goals as goal

pub returns-clause-ok : goal.returns-clause-ok
returns-clause-ok g c =
    let sink = g.K.Sink in
    let disk = g.D.Disk in
    answered_so disk.moment disk.left_since disk.read_faults disk.write_faults c.write_served.result (all_known c.args.capabilities.now) (Some c.args.line.now) (record { recovered = c.serve_line-served.result.recovered; answer = c.serve_line-served.result.reply })
    (sink.taken c.args.sink.now) (sink.taken c.write_served.new.sink) (disk.is_honest c.args.disk.now) (StandsFor c.args.array.now (disk.content c.args.disk.now) (disk.is_image c.args.disk.now))
    (StandsFor c.serve_line-served.new.array (disk.content c.serve_line-served.new.disk) (disk.is_image c.serve_line-served.new.disk)) c.args.disk.now c.serve_line-served.new.disk
    c.serve_line-served.ensures.step c.serve_line-served.ensures.cause c.write_served.ensures.ok

pub returns-clause-err : goal.returns-clause-err
returns-clause-err g c =
    let sink = g.K.Sink in
    let disk = g.D.Disk in
    cut_so disk.moment disk.left_since disk.read_faults disk.write_faults c.write_served.result (all_known c.args.capabilities.now) (Some c.args.line.now) (record { recovered = c.serve_line-served.result.recovered; answer = c.serve_line-served.result.reply })
    (sink.taken c.args.sink.now) (sink.taken c.write_served.new.sink) (disk.is_honest c.args.disk.now) (StandsFor c.args.array.now (disk.content c.args.disk.now) (disk.is_image c.args.disk.now))
    (StandsFor c.serve_line-served.new.array (disk.content c.serve_line-served.new.disk) (disk.is_image c.serve_line-served.new.disk)) c.args.disk.now c.serve_line-served.new.disk
    c.serve_line-served.ensures.step c.serve_line-served.ensures.cause c.write_served.ensures.err
