use Rattle.std.proofs.Common.{◌≡◌, ◌∙◌, List, ℕ, decimal, subst}
use Rattle.std.specs.Prelude.{OnErr}
use Rattle.vv_run.specs.Writing.{StopsWithin}
use Rattle.vv_run.proofs.StreamLemmas.{report_cut_later}
use Rattle.vv_run.proofs.summary.write_count.Goals as goal

pub returns-in-Ok-clause-err : goal.returns-in-Ok-clause-err
returns-in-Ok-clause-err g c =
    let sink = g.K.Sink in
    let same : c.as_bytes.result.now ≡ decimal c.args.count = c.as_bytes.ensures.value ∙ c.format.ensures.text in
    let P : List ℕ → Type 0 = λ bytes. OnErr c.write_all-in-Ok.result (StopsWithin (sink.taken c.write_all.new.sink) (sink.taken c.write_all-in-Ok.new.sink) bytes) in
    report_cut_later c.write_all-in-Ok.result (sink.taken c.args.sink.now) (sink.taken c.write_all.new.sink) (sink.taken c.write_all-in-Ok.new.sink) c.args.ahead.now (decimal c.args.count)
    c.in-Ok.ensures.ok (subst P same c.write_all-in-Ok.ensures.err)
