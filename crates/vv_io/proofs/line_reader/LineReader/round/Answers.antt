use Rattle.std.proofs.Common.{ap, ◌∙◌, ◌++◌}
use Rattle.vv_io.specs.Reading.{given_as, lines_ahead}
use Rattle.vv_io.proofs.TakingLemmas.{took_none}
use Rattle.vv_io.proofs.line_reader.LineReader.round.Goals as goal

pub returns-then-self-clause-took : goal.returns-then-self-clause-took
returns-then-self-clause-took g c =
    took_none c.args.self.now c.next_waiting.new.self c.last.new.self _ _ (g.S.Source.left c.args.source.now)
    (λ rest end. c.next_waiting.ensures.lines rest end ∙ ap (λ answer. given_as answer c.next_waiting.new.self.line ++ lines_ahead c.next_waiting.new.self rest) c.in_default.is)
    c.last.ensures.lines c.last.ensures.ended
    (c.last.ensures.taken ∙ c.next_waiting.ensures.taken) (c.last.ensures.limit ∙ c.next_waiting.ensures.limit)
