use Rattle.std.proofs.Common.{◌≡◌, ◌-◌, length, take}
use Rattle.vv_tables.specs.Counts.{AreChargedFor}
use Rattle.vv_tables.specs.Seen.{plain_containers}
use Rattle.vv_tables.proofs.ended.charge_volumes.Given as goal

abbrev pub invariant-loop-id : goal.invariant-loop-id
invariant-loop-id l = record {
  plain : plain_containers l.containers ≡ plain_containers l.initial.containers;
  charged : AreChargedFor l.shelf.shelf.volumes (take l.i l.containers);
}

abbrev pub decreases-loop-id : goal.decreases-loop-id
decreases-loop-id l = length l.containers - l.i
