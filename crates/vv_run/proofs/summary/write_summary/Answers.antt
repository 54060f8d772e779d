use Rattle.std.proofs.Common.{ℕ, ◌+◌, ◌++◌, List, subst}
use Rattle.std.specs.Prelude.{codes, OnOk, OnErr}
use Rattle.std.specs.Io.KnownBytes.{Appends}
use Rattle.vv_run.specs.Writing.{StopsWithin}
use Rattle.vv_run.proofs.StreamLemmas.{report_cut_later}
use Rattle.vv_run.proofs.LoadedLemmas.{lines_part, ok_part, refused_part, summary_parts, on_err, ok_later, cut_at_first, cut_at_second, cut_at_third, three_appended}
use Rattle.vv_run.proofs.summary.write_summary.Goals as goal

pub returns-in_err-write_count-clause-err : goal.returns-in_err-write_count-clause-err
returns-in_err-write_count-clause-err g c =
    let sink = g.K.Sink in
    let n : ℕ = c.args.accepted + c.args.refused in
    let P : List ℕ → Type 0 = λ text. OnErr c.from_residual.result (StopsWithin (sink.taken c.args.sink.now) (sink.taken c.write_count.new.sink) text) in
    subst P (summary_parts n c.args.accepted c.args.refused)
    (on_err c.from_residual.result _
    (cut_at_first (sink.taken c.args.sink.now) (sink.taken c.write_count.new.sink)
    (lines_part n) (ok_part c.args.accepted) (refused_part c.args.refused) (codes "}\n") c.in_err-write_count.ensures.err))

pub returns-in_err-write_count-2-clause-err : goal.returns-in_err-write_count-2-clause-err
returns-in_err-write_count-2-clause-err g c =
    let sink = g.K.Sink in
    let n : ℕ = c.args.accepted + c.args.refused in
    let P : List ℕ → Type 0 = λ text. OnErr c.from_residual-in_err-write_count-2.result (StopsWithin (sink.taken c.args.sink.now) (sink.taken c.write_count-2.new.sink) text) in
    subst P (summary_parts n c.args.accepted c.args.refused)
    (on_err c.from_residual-in_err-write_count-2.result _
    (cut_at_second (sink.taken c.args.sink.now) (sink.taken c.write_count.new.sink) (sink.taken c.write_count-2.new.sink)
    (lines_part n) (ok_part c.args.accepted) (refused_part c.args.refused) (codes "}\n") c.in_ok-write_count.ensures.ok c.in_err-write_count-2.ensures.err))

pub returns-in_err-write_count-3-clause-err : goal.returns-in_err-write_count-3-clause-err
returns-in_err-write_count-3-clause-err g c =
    let sink = g.K.Sink in
    let n : ℕ = c.args.accepted + c.args.refused in
    let P : List ℕ → Type 0 = λ text. OnErr c.from_residual-in_err-write_count-3.result (StopsWithin (sink.taken c.args.sink.now) (sink.taken c.write_count-3.new.sink) text) in
    subst P (summary_parts n c.args.accepted c.args.refused)
    (on_err c.from_residual-in_err-write_count-3.result _
    (cut_at_third (sink.taken c.args.sink.now) (sink.taken c.write_count.new.sink) (sink.taken c.write_count-2.new.sink) (sink.taken c.write_count-3.new.sink)
    (lines_part n) (ok_part c.args.accepted) (refused_part c.args.refused) (codes "}\n") c.in_ok-write_count.ensures.ok c.in_ok-write_count-2.ensures.ok c.in_err-write_count-3.ensures.err))

pub returns-clause-ok : goal.returns-clause-ok
returns-clause-ok g c =
    let sink = g.K.Sink in
    let n : ℕ = c.args.accepted + c.args.refused in
    let P : List ℕ → Type 0 = λ text. OnOk c.write_all.result (Appends (sink.taken c.args.sink.now) (sink.taken c.write_all.new.sink) text) in
    subst P (summary_parts n c.args.accepted c.args.refused)
    (ok_later c.write_all.result (sink.taken c.args.sink.now) (sink.taken c.write_count-3.new.sink) (sink.taken c.write_all.new.sink)
    ((lines_part n ++ ok_part c.args.accepted) ++ refused_part c.args.refused) (codes "}\n")
    (three_appended (sink.taken c.args.sink.now) (sink.taken c.write_count.new.sink) (sink.taken c.write_count-2.new.sink) (sink.taken c.write_count-3.new.sink)
    (lines_part n) (ok_part c.args.accepted) (refused_part c.args.refused)
    c.in_ok-write_count.ensures.ok c.in_ok-write_count-2.ensures.ok c.in_ok-write_count-3.ensures.ok) c.write_all.ensures.ok)

pub returns-clause-err : goal.returns-clause-err
returns-clause-err g c =
    let sink = g.K.Sink in
    let n : ℕ = c.args.accepted + c.args.refused in
    let P : List ℕ → Type 0 = λ text. OnErr c.write_all.result (StopsWithin (sink.taken c.args.sink.now) (sink.taken c.write_all.new.sink) text) in
    subst P (summary_parts n c.args.accepted c.args.refused)
    (report_cut_later c.write_all.result (sink.taken c.args.sink.now) (sink.taken c.write_count-3.new.sink) (sink.taken c.write_all.new.sink)
    ((lines_part n ++ ok_part c.args.accepted) ++ refused_part c.args.refused) (codes "}\n")
    (three_appended (sink.taken c.args.sink.now) (sink.taken c.write_count.new.sink) (sink.taken c.write_count-2.new.sink) (sink.taken c.write_count-3.new.sink)
    (lines_part n) (ok_part c.args.accepted) (refused_part c.args.refused)
    c.in_ok-write_count.ensures.ok c.in_ok-write_count-2.ensures.ok c.in_ok-write_count-3.ensures.ok) c.write_all.ensures.err)
