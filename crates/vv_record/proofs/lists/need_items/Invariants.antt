use Rattle.std.proofs.Common.{◌≡◌, ◌-◌, []}
use Rattle.vv_record.specs.Reading.{items}
use Rattle.vv_record.specs.Forms.{need}
use Rattle.vv_record.proofs.lists.need_items.Given as goal

abbrev pub invariant-loop : goal.invariant-loop
invariant-loop l = items need (l.count - l.counter) l.needs.items l.fields ≡ items need l.count [] l.fn.fields
