use Rattle.std.proofs.Common.{◌≡◌, ◌-◌, drop}
use Rattle.vv_flat.specs.Lists.{all_rising}
use Rattle.vv_rules.proofs.numbers.all_rising.Given as goal

abbrev pub invariant-loop-i : goal.invariant-loop-i
invariant-loop-i l = all_rising (drop (l.i - 1) l.numbers) ≡ all_rising l.numbers
