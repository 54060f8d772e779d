use Rattle.std.proofs.Common.{arith, sym, ◌∙◌}
use Rattle.vv_run.proofs.WordLemmas.{not_empty, parsed_number}
use Rattle.vv_run.proofs.words.number.Goals as goal

pub returns : goal.returns
returns c = c.ok.ensures.value ∙ parsed_number c.args.word.now c.parse.result c.parse.ensures.value.0 (not_empty c.args.word.now c.is_empty.result c.is_empty.ensures c.if-is_empty.false) (omega arith) (sym c.has_digits.ensures ∙ c.if-not-has_digits.false)
