use Rattle.std.proofs.Common.{◌+◌, arith}
use Rattle.vv_journal.specs.Half.{second_spelling}
use Rattle.vv_journal.proofs.Bytes.{number_of_eight}
use Rattle.vv_journal.proofs.half.length_field.Goals as goal

pub returns-clause-number : goal.returns-clause-number
returns-clause-number c = number_of_eight c.to_be_bytes.result (second_spelling + c.args.len) c.to_be_bytes.ensures (omega (arith, c.requires))
