use Rattle.std.proofs.Common.{◌≡◌, drop}
use Rattle.vv_flat.specs.Lists.{numbers_eq}
use Rattle.vv_bind.specs.Table.{numbers}
use Rattle.vv_tables.proofs.questions_for_judge.are_same.Given as goal

abbrev pub invariant-loop-i : goal.invariant-loop-i
invariant-loop-i l = numbers_eq (drop l.i (numbers l.endpoints)) (drop l.i (numbers l.others)) ≡ numbers_eq (numbers l.endpoints) (numbers l.others)
