use Rattle.std.proofs.Common.{◌≡◌, ◌+◌, true, sym, ap, subst, ◌∙◌, arith}
use Rattle.vv_vols.specs.Shelf.{ShelfState}
use Rattle.vv_vols.specs.Calls.{with_put}
use Rattle.vv_vols.specs.Conditions.{is_new_stamp}
use Rattle.vv_vols.specs.Rows.{ShelfView}
use Rattle.vv_snap.proofs.Filling.{Fills, fills_fresh, fills_stamp, fills_put}
use Rattle.vv_snap.proofs.tests.fill.Goals as goal

pub returns-in_default-clause-stamps : goal.returns-in_default-clause-stamps
returns-in_default-clause-stamps g c =
    let taken = fills_fresh c.args.shelf.now.shelf c.loop-index.shelf.shelf c.take_place.new.shelf.shelf c.loop-index.index (ap (λ (v : ShelfView). v.shelf) c.take_place.ensures.shelf) c.loop-index.invariant.fills in
    let within = c.loop-index.invariant.within in
    λ a at. let most = taken.stamps a at in omega arith

pub put_fresh-requires-clause-stamp : goal.put_fresh-requires-clause-stamp
put_fresh-requires-clause-stamp g c =
    let taken = fills_fresh c.args.shelf.now.shelf c.loop-index.shelf.shelf c.take_place.new.shelf.shelf c.loop-index.index (ap (λ (v : ShelfView). v.shelf) c.take_place.ensures.shelf) c.loop-index.invariant.fills in
    subst (λ k. is_new_stamp c.take_place.new.shelf.shelf c.loop-index.index (k + 1) ≡ true) (sym c.from.ensures)
    (fills_stamp c.args.shelf.now.shelf c.take_place.new.shelf.shelf c.loop-index.index c.loop-index.index taken)

pub loop-index-preserved : goal.loop-index-preserved
loop-index-preserved g c =
    let taken = fills_fresh c.args.shelf.now.shelf c.loop-index.shelf.shelf c.take_place.new.shelf.shelf c.loop-index.index (ap (λ (v : ShelfView). v.shelf) c.take_place.ensures.shelf) c.loop-index.invariant.fills in
    let left = c.put_fresh.ensures.left in
    let room = c.loop-index.invariant.room in
    record {
      fills = subst (λ (s : ShelfState). Fills c.args.shelf.now.shelf s (c.loop-index.index + 1))
          (sym (c.put_fresh.ensures.shelf ∙ ap (λ k. with_put c.take_place.new.shelf.shelf 1 c.loop-index.index c.in-Some.fresh (k + 1)) c.from.ensures))
          (fills_put c.args.shelf.now.shelf c.take_place.new.shelf.shelf c.loop-index.index c.loop-index.index c.in-Some.fresh taken);
      rooms = c.put_fresh.ensures.rooms ∙ ap (λ (v : ShelfView). v.rooms) c.take_place.ensures.shelf ∙ c.loop-index.invariant.rooms;
      out = c.take_place.ensures.out ∙ c.loop-index.invariant.out;
      room = omega arith;
      within = omega arith;
    }
