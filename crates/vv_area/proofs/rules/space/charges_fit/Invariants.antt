use Rattle.std.proofs.Common.{◌≡◌, true, take}
use Rattle.std.specs.Prelude.{nat_le}
use Rattle.std.specs.List.{list_all}
use Rattle.vv_flat.specs.State.{Container}
use Rattle.vv_flat.specs.Chunks.{shape_of_tables}
use Rattle.vv_flat.specs.Space.{charge}
use Rattle.vv_area.specs.Area.{tables_of}
use Rattle.vv_area.proofs.rules.space.charges_fit.Given as goal

abbrev pub invariant-loop-container : goal.invariant-loop-container
invariant-loop-container l =
    list_all (λ (k : Container). nat_le (charge (shape_of_tables (tables_of l.tables)) k.number) k.quota) (take l.container-index l.container-items) ≡ true
