use Rattle.std.proofs.Common.{◌≡◌, ◌-◌, length, take}
use Rattle.std.specs.List.{All}
use Rattle.vv_container.specs.Table.{ChargedContainer}
use Rattle.vv_tables.specs.Seen.{plain_containers}
use Rattle.vv_tables.specs.Charges.{charge_in}
use Rattle.vv_tables.proofs.charges.charge_all.Given as goal

abbrev pub invariant-loop-id : goal.invariant-loop-id
invariant-loop-id l = record {
  plain : plain_containers l.containers ≡ plain_containers l.initial.containers;
  charged : All (λ (r : ChargedContainer). r.charged ≡ charge_in l.shelf.shelf l.tasks l.clones l.copies r.container.number) (take l.i l.containers);
}

abbrev pub decreases-loop-id : goal.decreases-loop-id
decreases-loop-id l = length l.containers - l.i
