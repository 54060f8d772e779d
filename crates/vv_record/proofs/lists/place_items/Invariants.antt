use Rattle.std.proofs.Common.{◌≡◌, ◌-◌, []}
use Rattle.vv_record.specs.Reading.{items}
use Rattle.vv_record.specs.Forms.{place}
use Rattle.vv_record.proofs.lists.place_items.Given as goal

abbrev pub invariant-loop : goal.invariant-loop
invariant-loop l = items (λ before. place) (l.count - l.counter) l.places.items l.fields ≡ items (λ before. place) l.count [] l.fn.fields
