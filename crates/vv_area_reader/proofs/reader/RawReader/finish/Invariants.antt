use Rattle.std.proofs.Common.{◌≡◌, []}
use Rattle.vv_area_reader.specs.Told.{told}
use Rattle.vv_area_reader.proofs.reader.RawReader.finish.Given as goal

abbrev pub invariant-loop : goal.invariant-loop
invariant-loop l = told l.fn.self [] ≡ told l.reader []
