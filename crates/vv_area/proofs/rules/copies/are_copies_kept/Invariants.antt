use Rattle.std.proofs.Common.{◌≡◌, true, false, take}
use Rattle.std.specs.List.{list_all}
use Rattle.vv_flat.specs.Lists.{if_found}
use Rattle.vv_flat.specs.State.{RunningCopy, task_of}
use Rattle.vv_flat.specs.Chunks.{Entry}
use Rattle.vv_area.specs.Area.{tables_of}
use Rattle.vv_area.specs.Ruled.{is_copy_done}
use Rattle.vv_area.proofs.rules.copies.are_copies_kept.Given as goal

abbrev pub invariant-loop-copy : goal.invariant-loop-copy
invariant-loop-copy l =
    list_all (λ (c : RunningCopy Entry). if_found (task_of (tables_of l.tables) c.number) (is_copy_done (tables_of l.tables) c) false) (take l.copy-index l.copy-items) ≡ true
