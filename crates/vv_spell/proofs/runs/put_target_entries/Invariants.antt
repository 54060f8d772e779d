use Rattle.std.proofs.Common.{◌≡◌, take}
use Rattle.std.specs.List.{flat_map}
use Rattle.vv_area.specs.Spelling.{entry_spelling}
use Rattle.vv_spell.specs.Window.{seen, behind}
use Rattle.vv_spell.specs.Runs.{target_at}
use Rattle.vv_spell.proofs.runs.put_target_entries.Given as goal

abbrev pub invariant-loop-k : goal.invariant-loop-k
invariant-loop-k l = seen l.window l.into ≡ behind (seen l.fn.window l.fn.into) (flat_map entry_spelling (take l.k (target_at l.tables.durable l.fn.i)))
