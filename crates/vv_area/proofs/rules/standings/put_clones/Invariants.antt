use Rattle.std.proofs.Common.{◌≡◌, ◌++◌, take, None, Some}
use Rattle.std.specs.List.{flat_map}
use Rattle.vv_flat.specs.State.{RunningClone, indexed}
use Rattle.vv_flat.specs.Chunks.{Entry}
use Rattle.vv_flat.specs.Sharing.{standing}
use Rattle.vv_area.proofs.rules.standings.put_clones.Given as goal

abbrev pub invariant-loop-clone : goal.invariant-loop-clone
invariant-loop-clone l = l.all.items ≡ l.initial.all.items ++ flat_map (λ (c : RunningClone Entry). standing None (indexed c.image) ++ standing (Some c.number) (indexed c.target)) (take l.clone-index l.clone-items)
