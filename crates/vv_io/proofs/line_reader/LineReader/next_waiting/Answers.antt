use Rattle.std.proofs.Common.{ap, ◌∙◌}
use Rattle.std.specs.Option.{is_some}
use Rattle.vv_io.specs.Reading.{ReaderState, given_as}
use Rattle.vv_io.proofs.LineLemmas.{front_bound}
use Rattle.vv_io.proofs.ReaderLemmas.{is_found, is_none, round_gives, round_goes_on, round_ends}
use Rattle.vv_io.proofs.line_reader.LineReader.next_waiting.Goals as goal

pub returns-in-Some-clause-lines : goal.returns-in-Some-clause-lines
returns-in-Some-clause-lines c =
    round_gives c.args.self.now c.loop-self.self c.cut_line.new.self c.end_line.new.self _ c.loop-self.invariant c.cut_line.ensures.after
    (is_found _ _ _ c.cut_line.ensures.found c.loop-self-test.true)
    (record {
      gives = c.end_line.ensures.given ∙ ap (λ answer. given_as answer c.end_line.new.self.line) c.in-Some.is;
      begins = c.end_line.ensures.begun;
      limit = ap (λ (s : ReaderState). s.limit) c.end_line.ensures.same;
      waiting = ap (λ (s : ReaderState). s.waiting) c.end_line.ensures.same;
      taken = ap (λ (s : ReaderState). s.taken) c.end_line.ensures.same;
      ended = ap (λ (s : ReaderState). s.is_ended) c.end_line.ensures.same;
    })

pub loop-self-preserved : goal.loop-self-preserved
loop-self-preserved c =
    round_goes_on c.args.self.now c.loop-self.self c.cut_line.new.self c.end_line.new.self c.loop-self.invariant c.cut_line.ensures.after
    (is_found _ _ _ c.cut_line.ensures.found c.loop-self-test.true)
    (record {
      gives = c.end_line.ensures.given ∙ ap (λ answer. given_as answer c.end_line.new.self.line) c.in_default.is;
      begins = c.end_line.ensures.begun;
      limit = ap (λ (s : ReaderState). s.limit) c.end_line.ensures.same;
      waiting = ap (λ (s : ReaderState). s.waiting) c.end_line.ensures.same;
      taken = ap (λ (s : ReaderState). s.taken) c.end_line.ensures.same;
      ended = ap (λ (s : ReaderState). s.is_ended) c.end_line.ensures.same;
    })
    (ap (λ (s : ReaderState). s.is_given) c.end_line.ensures.same ∙ ap (λ answer. is_some answer) c.in_default.is)

pub returns-clause-lines : goal.returns-clause-lines
returns-clause-lines c =
    (round_ends c.args.self.now c.loop-self.self c.cut_line.new.self c.loop-self.invariant c.cut_line.ensures.after
    (is_none _ _ _ c.cut_line.ensures.found c.loop-self-test.false (front_bound c.loop-self.self.waiting))).lines
