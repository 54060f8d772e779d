use Rattle.std.proofs.Common.{◌≡◌, take}
use Rattle.vv_area.specs.Area.{tables_of}
use Rattle.vv_restore.proofs.RunningRowLaws.{with_copies}
use Rattle.vv_restore.proofs.running.add_copies.Given as goal

abbrev pub invariant-loop-copy : goal.invariant-loop-copy
invariant-loop-copy l = l.restored ≡ with_copies (tables_of l.raw) (take l.copy-index l.copies)
