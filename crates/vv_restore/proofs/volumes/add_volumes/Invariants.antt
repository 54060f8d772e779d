use Rattle.std.proofs.Common.{◌≡◌, take}
use Rattle.vv_area.specs.Area.{tables_of}
use Rattle.vv_restore.proofs.VolumeRowLaws.{with_volumes}
use Rattle.vv_restore.proofs.volumes.add_volumes.Given as goal

abbrev pub invariant-loop-volume : goal.invariant-loop-volume
invariant-loop-volume l = l.restored ≡ with_volumes (tables_of l.raw) (take l.volume-index l.volumes)
