use Rattle.std.proofs.Common.{◌≡◌, map, drop}
use Rattle.vv_judge.specs.Seen.{seen_check, refused_by}
use Rattle.vv_judge.proofs.answer.first_refusal.Given as goal

abbrev pub invariant-loop-check : goal.invariant-loop-check
invariant-loop-check l = refused_by (map seen_check (drop l.check-index l.checks)) ≡ refused_by (map seen_check l.checks)
