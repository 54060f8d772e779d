use Rattle.std.proofs.Common.{◌≡◌, take}
use Rattle.std.specs.List.{flat_map}
use Rattle.vv_record.specs.Spelling.{need_spelling}
use Rattle.vv_spell.specs.Window.{seen, behind}
use Rattle.vv_spell.proofs.fields.put_each_need.Given as goal

abbrev pub invariant-loop-need : goal.invariant-loop-need
invariant-loop-need l = seen l.window l.into ≡ behind (seen l.fn.window l.fn.into) (flat_map need_spelling (take l.need-index l.needs))
