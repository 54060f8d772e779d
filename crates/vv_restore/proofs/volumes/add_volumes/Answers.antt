use Rattle.std.proofs.Common.{List, [], ◌∷◌, ◌++◌, ap, sym, subst, ◌∙◌}
use Rattle.std.proofs.lemmas.List.{take_all}
use Rattle.vv_flat.specs.State.{Volume, Durable}
use Rattle.vv_flat.specs.Chunks.{Entry}
use Rattle.vv_area.specs.Area.{tables_of}
use Rattle.vv_restore.proofs.TakenItems.{item_next}
use Rattle.vv_restore.proofs.VolumeRowLaws.{with_volumes, MayAddVolume, may_add_volume}
use Rattle.vv_restore.proofs.volumes.add_volumes.Goals as goal

pub add_volume-requires : goal.add_volume-requires
add_volume-requires c =
    let at = c.loop-volume in
    let v = c.volume-item.result in
    let d = tables_of c.args.raw.now in
    let may : MayAddVolume at.restored v =
    subst (λ (r : Durable Entry). MayAddVolume r v) (sym at.invariant)
    (may_add_volume d c.requires.well c.items-volumes.result.now c.items-volumes.ensures at.volume-index v c.loop-volume-test.true c.volume-item.is) in
    record { pairs = may.pairs; above = may.above; few = may.few; shares = may.shares }

pub loop-volume-preserved : goal.loop-volume-preserved
loop-volume-preserved c =
    let at = c.loop-volume in
    let v = c.volume-item.result in
    let d = tables_of c.args.raw.now in
    c.in_ok-add_volume.ensures
    ∙ ap (λ (r : Durable Entry). record r { volumes = r.volumes ++ v ∷ [] }) at.invariant
    ∙ ap (λ (vs : List (Volume Entry)). with_volumes d vs) (item_next c.items-volumes.result.now at.volume-index v c.loop-volume-test.true c.volume-item.is)

pub returns : goal.returns
returns c =
    let at = c.loop-volume in
    let d = tables_of c.args.raw.now in
    at.invariant
    ∙ ap (λ (vs : List (Volume Entry)). with_volumes d vs) (take_all at.volume-index c.items-volumes.result.now c.loop-volume-test.false ∙ c.items-volumes.ensures)
