use Rattle.std.proofs.Common.{◌≡◌, take}
use Rattle.std.specs.List.{flat_map}
use Rattle.vv_area.specs.Spelling.{pair_spelling}
use Rattle.vv_spell.specs.Window.{seen, behind}
use Rattle.vv_spell.proofs.fields.put_each_pair.Given as goal

abbrev pub invariant-loop-i : goal.invariant-loop-i
invariant-loop-i l = seen l.window l.into ≡ behind (seen l.fn.window l.fn.into) (flat_map pair_spelling (take l.i l.pairs))
