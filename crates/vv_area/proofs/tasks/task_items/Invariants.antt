use Rattle.std.proofs.Common.{◌≡◌, ◌-◌, []}
use Rattle.vv_record.specs.Reading.{items}
use Rattle.vv_area.specs.Forms.{task}
use Rattle.vv_area.proofs.tasks.task_items.Given as goal

abbrev pub invariant-loop : goal.invariant-loop
invariant-loop l = items task (l.count - l.counter) l.tasks.items l.fields ≡ items task l.count [] l.fn.fields
