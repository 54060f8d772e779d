use Rattle.std.proofs.Common.{rules, tests}
use Rattle.std.proofs.lemmas.Iterator.{items_from_collect, YieldsList-from_map, YieldsList-from_slice}
use Rattle.std.proofs.lemmas.Iterator.Consumers.{YieldsList-from_filter, YieldsList-at}
use Rattle.vv_flat.specs.State.{Volume}
use Rattle.vv_flat.specs.Chunks.{Entry}
use Rattle.vv_flat.specs.Changes.{is_snapshot_kind}
use Rattle.vv_area.proofs.rules.names.snapshot_numbers.Goals as goal

pub returns : goal.returns
returns c = rw (← c.items-volumes.ensures) (
    items_from_collect _ c.collect.ensures.ran
    (YieldsList-from_map _ (λ (v : Volume Entry). v.number)
    (YieldsList-at c.map.ensures.source (YieldsList-from_filter _ (λ (v : Volume Entry). is_snapshot_kind v.kind) (YieldsList-from_slice c.items-volumes.result.now cc) c.filter.ensures.closure (λ x r q k. search (rules, tests))))
    c.map.ensures.closure (λ x r q k. search rules)))
