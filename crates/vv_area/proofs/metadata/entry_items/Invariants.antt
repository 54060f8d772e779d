use Rattle.std.proofs.Common.{◌≡◌, ◌-◌, []}
use Rattle.vv_record.specs.Reading.{items}
use Rattle.vv_area.specs.Forms.{entry}
use Rattle.vv_area.proofs.metadata.entry_items.Given as goal

abbrev pub invariant-loop : goal.invariant-loop
invariant-loop l = items (λ before. entry) (l.count - l.counter) l.entries.items l.fields ≡ items (λ before. entry) l.count [] l.fn.fields
