use Rattle.std.proofs.Common.{rules, ◌≡◌, sym, arith}
use Rattle.vv_record.specs.Spelling.{spelling}
use Rattle.vv_record.proofs.Lengths.{length-spelling}
use Rattle.vv_record.proofs.writing.encode.Goals as goal

pub returns-clause-limited : goal.returns-clause-limited
returns-clause-limited c =
    let exact : c.finish.result.items ≡ spelling c.args.record.now = search rules in
    let short = length-spelling c.args.record.now c.requires in
    omega (arith, rw (sym exact) at short, c.finish.result.ok.0)
