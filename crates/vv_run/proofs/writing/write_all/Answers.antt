use Rattle.std.proofs.Common.{◌∙◌}
use Rattle.vv_run.proofs.StreamLemmas.{wrote_more}
use Rattle.vv_run.proofs.writing.write_all.Goals as goal

pub loop-rest-preserved : goal.loop-rest-preserved
loop-rest-preserved g c =
    let sink = g.K.Sink in
    record {
      written = wrote_more (sink.taken c.args.sink.now) (sink.taken c.loop-rest.sink) (sink.taken c.write.new.self) c.args.bytes.now
          c.loop-rest.rest.now c.split_at.result.1.now c.in_ok-count.count c.loop-rest.invariant.written c.in_ok-count.ensures.bytes.0 c.split_at.ensures.back;
      kept = c.in_ok-count.ensures.cause.kept ∙ c.loop-rest.invariant.kept;
    }
