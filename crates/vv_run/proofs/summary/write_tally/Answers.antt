use Rattle.std.proofs.Common.{◌+◌}
use Rattle.vv_run.specs.Loading.{last_text, summary_text}
use Rattle.vv_run.specs.Tallies.{seen_last}
use Rattle.vv_run.proofs.StreamLemmas.{report_cut_later}
use Rattle.vv_run.proofs.summary.write_tally.Goals as goal

pub returns-in-Ok-clause-err : goal.returns-in-Ok-clause-err
returns-in-Ok-clause-err g c =
    let sink = g.K.Sink in
    report_cut_later c.write_summary.result (sink.taken c.args.sink.now) (sink.taken c.write_last.new.sink) (sink.taken c.write_summary.new.sink)
    (last_text (seen_last c.args.tally.last)) (summary_text (c.args.tally.accepted + c.args.tally.refused) c.args.tally.accepted c.args.tally.refused)
    c.in-Ok.ensures.ok c.write_summary.ensures.err
