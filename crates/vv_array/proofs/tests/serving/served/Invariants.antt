use Rattle.std.proofs.Common.{◌≡◌}
use Rattle.vv_data.specs.Layout.{disk_len}
use Rattle.vv_array.specs.Seen.{geometry_of}
use Rattle.vv_array.proofs.tests.serving.served.Given as goal

abbrev pub invariant-loop-line : goal.invariant-loop-line
invariant-loop-line g l = g.D.Disk.size l.disk ≡ disk_len (geometry_of l.array)
