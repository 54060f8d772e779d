use Rattle.std.proofs.Common.{◌≡◌, ◌-◌, []}
use Rattle.vv_record.specs.Reading.{items}
use Rattle.vv_area.specs.Forms.{container}
use Rattle.vv_area.proofs.lists.container_items.Given as goal

abbrev pub invariant-loop : goal.invariant-loop
invariant-loop l = items container (l.count - l.counter) l.containers.items l.fields ≡ items container l.count [] l.fn.fields
