use Rattle.std.proofs.Common.{◌≡◌, ◌∷◌, [], ◌++◌, List, ℕ, sym, ap, ◌∙◌}
use Rattle.vv_pool.specs.FreshPlaces.{FreshPlaces}
use Rattle.vv_vols.specs.Shelf.{ShelfState}
use Rattle.vv_vols.specs.Calls.{with_put}
use Rattle.vv_vols.specs.Places.{with_taken}
use Rattle.vv_vols.specs.Rows.{ShelfView}
use Rattle.vv_vols.specs.Rooms.{for_change}
use Rattle.vv_vols.proofs.GoodRooms.{good_same}
use Rattle.vv_tables.proofs.PutEntries.{put_enough}
use Rattle.vv_tables.proofs.putting.put_place.Goals as goal

pub returns-clause-enough : goal.returns-clause-enough
returns-clause-enough g c =
    let s : ShelfState = c.args.shelf.now.shelf in
    let p : ℕ = c.args.place.0 in
    let taken : c.take_at.new.self ≡ record c.args.shelf.now { shelf = with_taken s (p ∷ []) } = c.if-not-take_at.ensures.taken in
    let out : c.take_at.new.out.places ≡ c.args.taken.now.places ++ p ∷ [] = ap (λ (f : FreshPlaces). f.places) c.if-not-take_at.ensures.out in
    let first : c.take_at.new.out.places ≡ c.in-Some.fresh ∷ c.next.new.self.places = ap (λ (f : FreshPlaces). f.places) c.in-Some.ensures.some in
    let one : c.in-Some.fresh ∷ c.next.new.self.places ≡ p ∷ [] = sym first ∙ out ∙ ap (λ (ps : List ℕ). ps ++ p ∷ []) c.requires.empty in
    let is : c.in-Some.fresh ≡ p = cc in
    put_enough s c.put_fresh.new.self.shelf c.args.volume.0 c.args.index p c.args.stamp c.requires.fresh
    (c.put_fresh.ensures.shelf ∙ ap (λ (v : ShelfView). with_put v.shelf c.args.volume.0 c.args.index c.in-Some.fresh c.args.stamp) taken
    ∙ ap (λ q. with_put (with_taken s (p ∷ [])) c.args.volume.0 c.args.index q c.args.stamp) is)
    c.keeps_sharing.ensures c.keeps_sharing-2.ensures

pub returns-clause-good : goal.returns-clause-good
returns-clause-good g c first count low high good =
    let s : ShelfState = c.args.shelf.now.shelf in
    c.put_fresh.ensures.good first count [] low high
    (good_same c.args.shelf.now c.take_at.new.self (with_taken s (c.args.place.0 ∷ [])) (for_change c.args.volume.0 first count c.args.room.now ∷ []) c.if-not-take_at.ensures.taken good)
