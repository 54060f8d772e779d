use Rattle.std.proofs.Common.{◌≡◌, take}
use Rattle.std.specs.List.{flat_map}
use Rattle.vv_area.specs.Spelling.{volume_spelling}
use Rattle.vv_spell.specs.Window.{seen, behind}
use Rattle.vv_spell.proofs.volumes.put_each_volume.Given as goal

abbrev pub invariant-loop-i : goal.invariant-loop-i
invariant-loop-i l = seen l.window l.into ≡ behind (seen l.fn.window l.fn.into) (flat_map (volume_spelling 2) (take l.i l.tables.durable.volumes))
