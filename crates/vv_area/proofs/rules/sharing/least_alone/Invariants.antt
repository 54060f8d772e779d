use Rattle.std.proofs.Common.{◌≡◌, drop}
use Rattle.vv_rules.specs.Least.{sooner, least_failing, place_of}
use Rattle.vv_area.specs.Area.{tables_of}
use Rattle.vv_area.specs.Ruled.{is_right_alone}
use Rattle.vv_area.proofs.rules.sharing.least_alone.Given as goal

abbrev pub invariant-loop-entry : goal.invariant-loop-entry
invariant-loop-entry l =
    sooner l.least (least_failing (is_right_alone (tables_of l.tables)) place_of (drop l.entry-index l.entries))
    ≡ least_failing (is_right_alone (tables_of l.tables)) place_of l.entries
