use Rattle.std.proofs.Common.{◌≡◌, take}
use Rattle.vv_area.specs.Area.{tables_of}
use Rattle.vv_restore.proofs.RunningRowLaws.{with_clones}
use Rattle.vv_restore.proofs.running.add_clones.Given as goal

abbrev pub invariant-loop-clone : goal.invariant-loop-clone
invariant-loop-clone l = l.restored ≡ with_clones (tables_of l.raw) (take l.clone-index l.clones)
