use Rattle.std.proofs.Common.{◌≡◌, ◌++◌, take, None}
use Rattle.std.specs.List.{flat_map}
use Rattle.vv_flat.specs.State.{RunningCopy}
use Rattle.vv_flat.specs.Chunks.{Entry}
use Rattle.vv_flat.specs.Sharing.{standing}
use Rattle.vv_area.proofs.rules.standings.put_copies.Given as goal

abbrev pub invariant-loop-copy : goal.invariant-loop-copy
invariant-loop-copy l = l.all.items ≡ l.initial.all.items ++ flat_map (λ (c : RunningCopy Entry). standing None c.pieces) (take l.copy-index l.copy-items)
