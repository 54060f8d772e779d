use Rattle.std.proofs.Common.{rules, length}
use Rattle.std.proofs.lemmas.Iterator.{items_from_collect, YieldsList-from_map, YieldsList-from_slice}
use Rattle.vv_flat.specs.State.{Volume}
use Rattle.vv_flat.specs.Chunks.{Entry}
use Rattle.vv_area.proofs.rules.limits.volume_pairs.Goals as goal

pub returns : goal.returns
returns c = rw (← c.items-volumes.ensures) (
    items_from_collect _ c.collect.ensures.ran
    (YieldsList-from_map _ (λ (v : Volume Entry). length v.metadata) (YieldsList-from_slice c.items-volumes.result.now cc) c.map.ensures.closure (λ x r q k. search rules)))
