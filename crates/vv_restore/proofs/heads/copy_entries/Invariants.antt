use Rattle.std.proofs.Common.{◌≡◌, take}
use Rattle.vv_vols.specs.Rows.{seen_entries}
use Rattle.vv_restore.proofs.heads.copy_entries.Given as goal

abbrev pub invariant-loop-entry : goal.invariant-loop-entry
invariant-loop-entry l = seen_entries l.copies.items ≡ take l.entry-index l.entries
