use Rattle.std.proofs.Common.{◌≡◌, ℕ, List, ◌++◌, ◌<◌, length}
use Rattle.vv_area_reader.specs.Told.{told}
use Rattle.vv_area_reader.specs.Making.{step_limit}
use Rattle.vv_area_reader.proofs.reader.RawReader.feed.Given as goal

abbrev pub invariant-loop-rest : goal.invariant-loop-rest
invariant-loop-rest l = record {
  told : (coming : List ℕ) → told l.fn.self (l.piece ++ coming) ≡ told l.self (l.rest ++ coming);
  few : length l.fn.self.waiting < step_limit → length l.self.waiting < step_limit;
}

abbrev pub decreases-loop-rest : goal.decreases-loop-rest
decreases-loop-rest l = length l.rest
