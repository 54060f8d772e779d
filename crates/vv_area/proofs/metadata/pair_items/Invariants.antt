use Rattle.std.proofs.Common.{◌≡◌, ◌-◌, []}
use Rattle.vv_record.specs.Reading.{items}
use Rattle.vv_area.specs.Forms.{pair}
use Rattle.vv_area.proofs.metadata.pair_items.Given as goal

abbrev pub invariant-loop : goal.invariant-loop
invariant-loop l = items pair (l.count - l.counter) l.pairs.items l.fields ≡ items pair l.count [] l.fn.fields
