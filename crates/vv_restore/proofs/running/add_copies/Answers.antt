use Rattle.std.proofs.Common.{List, [], ◌∷◌, ◌++◌, ap, sym, subst, ◌∙◌}
use Rattle.std.proofs.lemmas.List.{take_all}
use Rattle.vv_flat.specs.State.{RunningCopy, Durable}
use Rattle.vv_flat.specs.Chunks.{Entry}
use Rattle.vv_area.specs.Area.{tables_of}
use Rattle.vv_restore.proofs.TakenItems.{item_next}
use Rattle.vv_restore.proofs.RunningRowLaws.{with_copies, MayAddCopy, may_add_copy}
use Rattle.vv_restore.proofs.running.add_copies.Goals as goal

pub add_copy-requires : goal.add_copy-requires
add_copy-requires c =
    let at = c.loop-copy in
    let v = c.copy-item.result in
    let d = tables_of c.args.raw.now in
    let may : MayAddCopy at.restored v =
    subst (λ (r : Durable Entry). MayAddCopy r v) (sym at.invariant)
    (may_add_copy d c.requires.well c.items-copies.result.now c.items-copies.ensures at.copy-index v c.loop-copy-test.true c.copy-item.is) in
    record { room = may.room; few = may.few; rising = may.rising; shares = may.shares }

pub loop-copy-preserved : goal.loop-copy-preserved
loop-copy-preserved c =
    let at = c.loop-copy in
    let v = c.copy-item.result in
    let d = tables_of c.args.raw.now in
    c.in_ok-add_copy.ensures
    ∙ ap (λ (r : Durable Entry). record r { copies = r.copies ++ v ∷ [] }) at.invariant
    ∙ ap (λ (cs : List (RunningCopy Entry)). with_copies d cs) (item_next c.items-copies.result.now at.copy-index v c.loop-copy-test.true c.copy-item.is)

pub returns : goal.returns
returns c =
    let at = c.loop-copy in
    let d = tables_of c.args.raw.now in
    at.invariant
    ∙ ap (λ (cs : List (RunningCopy Entry)). with_copies d cs) (take_all at.copy-index c.items-copies.result.now c.loop-copy-test.false ∙ c.items-copies.ensures)
