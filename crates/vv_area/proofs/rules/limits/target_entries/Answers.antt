use Rattle.std.proofs.Common.{rules, length}
use Rattle.std.proofs.lemmas.Iterator.{items_from_collect, YieldsList-from_map, YieldsList-from_slice}
use Rattle.vv_flat.specs.State.{RunningClone}
use Rattle.vv_flat.specs.Chunks.{Entry}
use Rattle.vv_area.proofs.rules.limits.target_entries.Goals as goal

pub returns : goal.returns
returns c = rw (← c.items-clones.ensures) (
    items_from_collect _ c.collect.ensures.ran
    (YieldsList-from_map _ (λ (v : RunningClone Entry). length v.target) (YieldsList-from_slice c.items-clones.result.now cc) c.map.ensures.closure (λ x r q k. search rules)))
