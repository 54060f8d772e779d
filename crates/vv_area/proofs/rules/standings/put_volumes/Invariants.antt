use Rattle.std.proofs.Common.{◌≡◌, ◌++◌, take, None}
use Rattle.std.specs.List.{flat_map}
use Rattle.vv_flat.specs.State.{Volume, indexed}
use Rattle.vv_flat.specs.Chunks.{Entry}
use Rattle.vv_flat.specs.Sharing.{standing}
use Rattle.vv_area.proofs.rules.standings.put_volumes.Given as goal

abbrev pub invariant-loop-volume : goal.invariant-loop-volume
invariant-loop-volume l = l.all.items ≡ l.initial.all.items ++ flat_map (λ (v : Volume Entry). standing None (indexed v.chunks)) (take l.volume-index l.volume-items)
