use Rattle.std.proofs.Common.{◌≡◌, ◌-◌, []}
use Rattle.vv_record.specs.Reading.{items}
use Rattle.vv_area.specs.Forms.{volume}
use Rattle.vv_area.proofs.lists.volume_items.Given as goal

abbrev pub invariant-loop : goal.invariant-loop
invariant-loop l = items (volume l.spelling) (l.count - l.counter) l.volumes.items l.fields ≡ items (volume l.spelling) l.count [] l.fn.fields
