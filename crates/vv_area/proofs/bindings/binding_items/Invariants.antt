use Rattle.std.proofs.Common.{◌≡◌, ◌-◌, []}
use Rattle.vv_record.specs.Reading.{items}
use Rattle.vv_area.specs.Forms.{binding}
use Rattle.vv_area.proofs.bindings.binding_items.Given as goal

abbrev pub invariant-loop : goal.invariant-loop
invariant-loop l = items binding (l.count - l.counter) l.bindings.items l.fields ≡ items binding l.count [] l.fn.fields
