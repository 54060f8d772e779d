use Rattle.std.proofs.Common.{◌++◌, ℕ, List, subst}
use Rattle.std.specs.Prelude.{OnOk}
use Rattle.vv_units.specs.declared.geometry.Geometry.{Geometry}
use Rattle.vv_area_reader.specs.Told.{AreaReading}
use Rattle.vv_core.specs.Areas.{IsReading}
use Rattle.vv_core.proofs.reader.AreaReader.feed.Goals as goal

pub returns-clause-ok : goal.returns-clause-ok
returns-clause-ok c =
    subst (λ (x : AreaReading). OnOk c.feed.result ((geometry : Geometry) → (spelling : ℕ) → (area : List ℕ) → IsReading x geometry spelling area
    → IsReading c.feed.new.self geometry spelling (area ++ c.args.piece.now))) c.self.view_is c.feed.ensures.ok
