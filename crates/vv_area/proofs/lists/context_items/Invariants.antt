use Rattle.std.proofs.Common.{◌≡◌, ◌-◌, []}
use Rattle.vv_record.specs.Reading.{items}
use Rattle.vv_area.specs.Forms.{context}
use Rattle.vv_area.proofs.lists.context_items.Given as goal

abbrev pub invariant-loop : goal.invariant-loop
invariant-loop l = items context (l.count - l.counter) l.contexts.items l.fields ≡ items context l.count [] l.fn.fields
