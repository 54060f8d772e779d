use Rattle.std.proofs.Common.{List, [], ◌∷◌, ◌++◌, ap, sym, subst, ◌∙◌}
use Rattle.std.proofs.lemmas.List.{take_all}
use Rattle.vv_flat.specs.State.{RunningClone, Durable}
use Rattle.vv_flat.specs.Chunks.{Entry}
use Rattle.vv_area.specs.Area.{tables_of}
use Rattle.vv_restore.proofs.TakenItems.{item_next}
use Rattle.vv_restore.proofs.RunningRowLaws.{with_clones, MayAddClone, may_add_clone}
use Rattle.vv_restore.proofs.running.add_clones.Goals as goal

pub add_clone-requires : goal.add_clone-requires
add_clone-requires c =
    let at = c.loop-clone in
    let v = c.clone-item.result in
    let d = tables_of c.args.raw.now in
    let may : MayAddClone at.restored v =
    subst (λ (r : Durable Entry). MayAddClone r v) (sym at.invariant)
    (may_add_clone d c.requires.well c.items-clones.result.now c.items-clones.ensures at.clone-index v c.loop-clone-test.true c.clone-item.is) in
    record { pairs = may.pairs; room = may.room; unused = may.unused; size = may.size; few = may.few; shares = may.shares }

pub loop-clone-preserved : goal.loop-clone-preserved
loop-clone-preserved c =
    let at = c.loop-clone in
    let v = c.clone-item.result in
    let d = tables_of c.args.raw.now in
    c.in_ok-add_clone.ensures
    ∙ ap (λ (r : Durable Entry). record r { clones = r.clones ++ v ∷ [] }) at.invariant
    ∙ ap (λ (cs : List (RunningClone Entry)). with_clones d cs) (item_next c.items-clones.result.now at.clone-index v c.loop-clone-test.true c.clone-item.is)

pub returns : goal.returns
returns c =
    let at = c.loop-clone in
    let d = tables_of c.args.raw.now in
    at.invariant
    ∙ ap (λ (cs : List (RunningClone Entry)). with_clones d cs) (take_all at.clone-index c.items-clones.result.now c.loop-clone-test.false ∙ c.items-clones.ensures)
