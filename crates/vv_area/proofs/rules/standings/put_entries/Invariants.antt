use Rattle.std.proofs.Common.{◌≡◌, ◌++◌, take}
use Rattle.vv_flat.specs.State.{indexed}
use Rattle.vv_flat.specs.Sharing.{standing}
use Rattle.vv_area.proofs.rules.standings.put_entries.Given as goal

abbrev pub invariant-loop-index : goal.invariant-loop-index
invariant-loop-index l = l.all.items ≡ l.initial.all.items ++ standing l.target_of (indexed (take l.index l.entries))
