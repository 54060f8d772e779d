use Rattle.std.proofs.Common.{length}
use Rattle.vv_io.proofs.ReaderLemmas.{Rounds}
use Rattle.vv_io.proofs.line_reader.LineReader.next_waiting.Given as goal

abbrev pub invariant-loop-self : goal.invariant-loop-self
invariant-loop-self l = Rounds l.initial.self l.self

abbrev pub decreases-loop-self : goal.decreases-loop-self
decreases-loop-self l = length l.self.waiting
