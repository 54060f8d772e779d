use Rattle.std.proofs.Common.{◌≡◌, ◌-◌, []}
use Rattle.vv_record.specs.Reading.{items}
use Rattle.vv_record.specs.Forms.{range}
use Rattle.vv_record.proofs.lists.range_items.Given as goal

abbrev pub invariant-loop : goal.invariant-loop
invariant-loop l = items (λ before. range) (l.count - l.counter) l.ranges.items l.fields ≡ items (λ before. range) l.count [] l.fn.fields
