use Rattle.std.proofs.Common.{◌≡◌, ◌+◌, ◌-◌, ◌<◌, ◌≤◌, true, false, cond}
use Rattle.std.specs.Io.KnownBytes.{IsAtEnd}
use Rattle.vv_io.specs.Reading.{script_limit, OnePast}
use Rattle.vv_io.proofs.TakingLemmas.{Progress}
use Rattle.vv_io.proofs.line_reader.LineReader.next.Given as goal

abbrev pub invariant-loop-self : goal.invariant-loop-self
invariant-loop-self g l =
    let source = g.S.Source in
    record {
      progress : Progress l.fn.self l.self (source.left l.fn.source) (source.left l.source);
      ungiven : l.self.is_given ≡ false;
      kept : source.faults l.source ≡ source.faults l.fn.source;
      at_end : l.self.is_ended ≡ true → l.fn.self.is_ended ≡ false → IsAtEnd (source.left l.source);
      after_end : l.fn.self.is_ended ≡ true → (l.source ≡ l.fn.source) × (l.self.is_ended ≡ true) × (l.self.taken ≡ l.fn.self.taken);
      one_past : script_limit < l.self.taken → l.fn.self.taken ≤ script_limit
          → OnePast l.fn.self l.self (source.left l.fn.source) (source.left l.source);
      after_past : script_limit < l.fn.self.taken → l.source ≡ l.fn.source;
    }

abbrev pub decreases-loop-self : goal.decreases-loop-self
decreases-loop-self g l = (script_limit + 1 - l.self.taken) + cond l.self.is_ended 0 1
