use Rattle.std.proofs.Common.{◌≡◌, ◌-◌, []}
use Rattle.vv_record.specs.Reading.{items}
use Rattle.vv_record.specs.Forms.{copy}
use Rattle.vv_record.proofs.lists.copy_items.Given as goal

abbrev pub invariant-loop : goal.invariant-loop
invariant-loop l = items (λ before. copy) (l.count - l.counter) l.copies.items l.fields ≡ items (λ before. copy) l.count [] l.fn.fields
