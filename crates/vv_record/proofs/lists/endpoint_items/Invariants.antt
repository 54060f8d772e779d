use Rattle.std.proofs.Common.{◌≡◌, ◌-◌, []}
use Rattle.vv_record.specs.Reading.{items}
use Rattle.vv_record.specs.Forms.{other_endpoint}
use Rattle.vv_record.proofs.lists.endpoint_items.Given as goal

abbrev pub invariant-loop : goal.invariant-loop
invariant-loop l = items other_endpoint (l.count - l.counter) l.endpoints.items l.fields ≡ items other_endpoint l.count [] l.fn.fields
