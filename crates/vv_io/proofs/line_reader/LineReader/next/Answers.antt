use Rattle.std.proofs.Common.{◌≡◌, ap, ◌∙◌, arith, Ok, false}
use Rattle.vv_io.specs.Reading.{ReaderState}
use Rattle.vv_io.proofs.TakingLemmas.{progress_round, progress_past}
use Rattle.vv_io.proofs.line_reader.LineReader.next.Goals as goal

pub loop-self-preserved : goal.loop-self-preserved
loop-self-preserved g c =
    let source = g.S.Source in
    let more = c.in_ok-next.ensures in
    let none = ap (λ next. Ok next) c.in_default.is in
    let before_end : c.loop-self.self.is_ended ≡ false = (more.ungiven none).1 in
    record {
      progress = progress_round c.args.self.now c.loop-self.self c.round.new.self c.in_ok-next.field-0
          (source.left c.args.source.now) (source.left c.loop-self.source) (source.left c.round.new.source)
          c.loop-self.invariant.progress more.took c.in_default.is before_end;
      ungiven = (more.ungiven none).0;
      kept = more.cause.kept ∙ c.loop-self.invariant.kept;
      at_end = λ ended before. more.at_end ended before_end;
      after_end = λ ended. let was = (c.loop-self.invariant.after_end ended).1 in absurd (cc);
      one_past = λ over within. progress_past c.args.self.now c.loop-self.self c.round.new.self
          (source.left c.args.source.now) (source.left c.loop-self.source) (source.left c.round.new.source)
          c.loop-self.invariant.progress before_end (more.past none over);
      after_past = λ past. let count = c.loop-self.invariant.progress.counted in let within = c.loop-self-test.true in let seen = ap (λ (s : ReaderState). s.taken) c.self.view_is in absurd (omega arith);
    }
