use Rattle.std.proofs.Common.{◌≡◌, take}
use Rattle.std.specs.List.{flat_map}
use Rattle.vv_vols.specs.Rows.{seen_entry}
use Rattle.vv_area.specs.Spelling.{entry_spelling}
use Rattle.vv_spell.specs.Window.{seen, behind}
use Rattle.vv_spell.proofs.volumes.put_page.Given as goal

abbrev pub invariant-loop-entry : goal.invariant-loop-entry
invariant-loop-entry l = seen l.window l.into ≡ behind (seen l.fn.window l.fn.into) (flat_map (λ e. entry_spelling (seen_entry e)) (take l.entry-index l.page))
