use Rattle.std.proofs.Common.{◌≡◌, true, false, take}
use Rattle.std.specs.List.{list_all}
use Rattle.vv_flat.specs.Lists.{if_found}
use Rattle.vv_flat.specs.State.{RunningClone, task_of}
use Rattle.vv_flat.specs.Chunks.{Entry}
use Rattle.vv_area.specs.Area.{tables_of}
use Rattle.vv_area.specs.Ruled.{is_clone_done}
use Rattle.vv_area.proofs.rules.clones.are_clones_kept.Given as goal

abbrev pub invariant-loop-clone : goal.invariant-loop-clone
invariant-loop-clone l =
    list_all (λ (c : RunningClone Entry). if_found (task_of (tables_of l.tables) c.number) (is_clone_done c) false) (take l.clone-index l.clone-items) ≡ true
