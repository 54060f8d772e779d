use Rattle.std.proofs.Common.{◌≡◌, ◌-◌, drop}
use Rattle.vv_rules.specs.Least.{sooner}
use Rattle.vv_rules.specs.Rows.{is_mixed_key, least_wrong}
use Rattle.vv_rules.proofs.rows.least_mixed_key.Given as goal

abbrev pub invariant-loop-i : goal.invariant-loop-i
invariant-loop-i l = sooner l.least (least_wrong is_mixed_key (drop (l.i - 1) l.rows)) ≡ least_wrong is_mixed_key l.rows
