use Rattle.std.proofs.Common.{◌≡◌, ◌-◌, []}
use Rattle.vv_record.specs.Reading.{items}
use Rattle.vv_record.specs.Forms.{offer}
use Rattle.vv_record.proofs.lists.offer_items.Given as goal

abbrev pub invariant-loop : goal.invariant-loop
invariant-loop l = items offer (l.count - l.counter) l.offers.items l.fields ≡ items offer l.count [] l.fn.fields
