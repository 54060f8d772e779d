use Rattle.std.proofs.Common.{◌≡◌, ◌-◌, drop}
use Rattle.vv_rules.specs.Least.{sooner}
use Rattle.vv_rules.specs.Rows.{is_mixed_place, least_wrong}
use Rattle.vv_rules.proofs.rows.least_mixed_place.Given as goal

abbrev pub invariant-loop-i : goal.invariant-loop-i
invariant-loop-i l = sooner l.least (least_wrong is_mixed_place (drop (l.i - 1) l.rows)) ≡ least_wrong is_mixed_place l.rows
