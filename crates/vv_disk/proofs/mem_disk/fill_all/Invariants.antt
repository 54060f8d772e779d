use Rattle.std.proofs.Common.{◌≡◌, take}
use Rattle.vv_disk.specs.MemDisk.{filled}
use Rattle.vv_disk.proofs.mem_disk.fill_all.Given as goal

abbrev pub invariant-loop-span : goal.invariant-loop-span
invariant-loop-span l = l.disk ≡ filled l.byte l.initial.disk (take l.span-index l.spans)
