use Rattle.std.proofs.Common.{◌≡◌, take}
use Rattle.vv_disk.specs.MemDisk.{after}
use Rattle.vv_disk.specs.Record.{done_of}
use Rattle.vv_disk.proofs.record.replay.Given as goal

abbrev pub invariant-loop-entry : goal.invariant-loop-entry
invariant-loop-entry l = l.disk ≡ (after l.initial.disk (take l.entry-index (done_of l.entries l.bytes))).content
