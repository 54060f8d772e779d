use Rattle.std.proofs.Common.{ap}
use Rattle.vv_run.proofs.ReadingLemmas.{next_is}
use Rattle.vv_run.proofs.reading.next_line.Goals as goal

pub returns-clause-answer : goal.returns-clause-answer
returns-clause-answer g c =
    let source = g.S.Source in
    let e = c.next.ensures in
    next_is c.next.result c.args.lines.now c.next.new.self (source.left c.args.source.now) (source.left c.next.new.source)
    e.took e.end e.at_end (λ is. let behind = e.after_end is in (ap source.left behind.0, behind.1, behind.2)) e.too_much e.past e.one_past e.failed c.requires
