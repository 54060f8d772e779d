use Rattle.std.proofs.Common.{ap, ◌∙◌}
use Rattle.vv_io.specs.Reading.{ReaderState, given_as}
use Rattle.vv_io.proofs.LineLemmas.{given_none}
use Rattle.vv_io.proofs.ReaderLemmas.{last_gives, nothing_ahead}
use Rattle.vv_io.proofs.line_reader.LineReader.last.Goals as goal

pub returns-in-Some-clause-lines : goal.returns-in-Some-clause-lines
returns-in-Some-clause-lines c =
    last_gives c.args.self.now c.end_line.new.self _ c.requires.none c.requires.ended c.requires.begun
    (record {
      gives = c.end_line.ensures.given ∙ ap (λ answer. given_as answer c.end_line.new.self.line) c.in-Some.is;
      begins = c.end_line.ensures.begun;
      limit = ap (λ (s : ReaderState). s.limit) c.end_line.ensures.same;
      waiting = ap (λ (s : ReaderState). s.waiting) c.end_line.ensures.same;
      taken = ap (λ (s : ReaderState). s.taken) c.end_line.ensures.same;
      ended = ap (λ (s : ReaderState). s.is_ended) c.end_line.ensures.same;
    }) (given_none c.end_line.new.self.limit)

pub returns-in-None-clause-lines : goal.returns-in-None-clause-lines
returns-in-None-clause-lines c =
    last_gives c.args.self.now c.end_line.new.self _ c.requires.none c.requires.ended c.requires.begun
    (record {
      gives = c.end_line.ensures.given ∙ ap (λ answer. given_as answer c.end_line.new.self.line) c.in-None.is;
      begins = c.end_line.ensures.begun;
      limit = ap (λ (s : ReaderState). s.limit) c.end_line.ensures.same;
      waiting = ap (λ (s : ReaderState). s.waiting) c.end_line.ensures.same;
      taken = ap (λ (s : ReaderState). s.taken) c.end_line.ensures.same;
      ended = ap (λ (s : ReaderState). s.is_ended) c.end_line.ensures.same;
    }) (given_none c.end_line.new.self.limit)

pub returns-in-Some-clause-end : goal.returns-in-Some-clause-end
returns-in-Some-clause-end c =
    nothing_ahead c.end_line.new.self c.end_line.ensures.begun (ap (λ (s : ReaderState). s.waiting) c.end_line.ensures.same ∙ c.requires.none)

pub returns-in-None-clause-end : goal.returns-in-None-clause-end
returns-in-None-clause-end c =
    nothing_ahead c.end_line.new.self c.end_line.ensures.begun (ap (λ (s : ReaderState). s.waiting) c.end_line.ensures.same ∙ c.requires.none)
