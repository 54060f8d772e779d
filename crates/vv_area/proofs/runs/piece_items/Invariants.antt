use Rattle.std.proofs.Common.{◌≡◌, ◌-◌, []}
use Rattle.vv_record.specs.Reading.{items}
use Rattle.vv_area.specs.Forms.{piece}
use Rattle.vv_area.proofs.runs.piece_items.Given as goal

abbrev pub invariant-loop : goal.invariant-loop
invariant-loop l = items (λ before. piece) (l.count - l.counter) l.pieces.items l.fields ≡ items (λ before. piece) l.count [] l.fn.fields
