use Rattle.std.proofs.Common.{◌≡◌, ℕ, List}
use Rattle.vv_area_reader.specs.Told.{told}
use Rattle.vv_area_reader.proofs.reader.RawReader.make_steps.Given as goal

abbrev pub invariant-loop : goal.invariant-loop
invariant-loop l = (coming : List ℕ) → told l.fn.self coming ≡ told l.self coming
