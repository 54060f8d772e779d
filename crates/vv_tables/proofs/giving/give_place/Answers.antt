use Rattle.std.proofs.Common.{◌≡◌, true, sym, subst}
use Rattle.vv_vols.specs.Shelf.{index_at}
use Rattle.vv_vols.specs.Calls.{placed_at}
use Rattle.vv_vols.specs.Conditions.{is_new_stamp, Stands}
use Rattle.vv_vols.specs.Rows.{ShelfView}
use Rattle.vv_tables.proofs.GivenPlaces.{given_stamp, given_stands}
use Rattle.vv_tables.proofs.giving.give_place.Goals as goal

pub put_held-requires-clause-stamp : goal.put_held-requires-clause-stamp
put_held-requires-clause-stamp g c =
    let n = c.args.held.now.number in
    subst (λ (v : ShelfView). is_new_stamp v.shelf (index_at v.shelf n c.args.at) c.args.stamp ≡ true) (sym c.if-take_free.ensures.taken)
    (given_stamp c.args.shelf.now.shelf n c.args.at c.args.place.0 c.args.stamp c.requires.may c.keeps_sharing.ensures (sym c.if-take_free.ensures.free))

pub share_held-requires-clause-stands : goal.share_held-requires-clause-stands
share_held-requires-clause-stands g c =
    let n = c.args.held.now.number in
    subst (λ (v : ShelfView). Stands v.shelf (record { index = index_at v.shelf n c.args.at; chunk = placed_at c.args.place.0 c.args.stamp })) (sym c.if-take_free.ensures.refused)
    (given_stands c.args.shelf.now.shelf n c.args.at c.args.place.0 c.args.stamp c.requires.may c.keeps_sharing.ensures (sym c.if-take_free.ensures.free))
