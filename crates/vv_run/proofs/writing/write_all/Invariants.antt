use Rattle.std.proofs.Common.{◌≡◌, length}
use Rattle.vv_run.proofs.StreamLemmas.{Wrote}
use Rattle.vv_run.proofs.writing.write_all.Given as goal

abbrev pub invariant-loop-rest : goal.invariant-loop-rest
invariant-loop-rest g l =
    let sink = g.K.Sink in
    record {
      written : Wrote (sink.taken l.fn.sink) (sink.taken l.sink) l.bytes l.rest;
      kept : sink.faults l.sink ≡ sink.faults l.fn.sink;
    }

abbrev pub decreases-loop-rest : goal.decreases-loop-rest
decreases-loop-rest g l = length l.rest
