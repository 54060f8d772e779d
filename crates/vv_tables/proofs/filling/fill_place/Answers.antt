use Rattle.std.proofs.Common.{◌≡◌, ◌-◌, ◌∷◌, [], ◌++◌, List, ℕ, sym, ap, ◌∙◌}
use Rattle.vv_pool.specs.FreshPlaces.{FreshPlaces}
use Rattle.vv_vols.specs.Shelf.{ShelfState}
use Rattle.vv_vols.specs.Calls.{with_piece, with_reserve, without_fresh, placed_at}
use Rattle.vv_vols.specs.Places.{with_taken}
use Rattle.vv_vols.specs.Rows.{ShelfView}
use Rattle.vv_tables.proofs.HeldPuts.{filled_is, filled_within}
use Rattle.vv_tables.proofs.filling.fill_place.Goals as goal

pub returns-clause-shelf : goal.returns-clause-shelf
returns-clause-shelf c =
    let s : ShelfState = c.args.shelf.now.shelf in
    let n : ℕ = c.args.target.now.number in
    let p : ℕ = c.args.place.0 in
    let out : c.take_at.new.out.places ≡ c.args.taken.now.places ++ p ∷ [] = ap (λ (f : FreshPlaces). f.places) c.if-not-take_at.ensures.out in
    let first : c.take_at.new.out.places ≡ c.in-Some.fresh ∷ c.next.new.self.places = ap (λ (f : FreshPlaces). f.places) c.in-Some.ensures.some in
    let one : c.in-Some.fresh ∷ c.next.new.self.places ≡ p ∷ [] = sym first ∙ out ∙ ap (λ (ps : List ℕ). ps ++ p ∷ []) c.requires.empty in
    let is : c.in-Some.fresh ≡ p = cc in
    let taken : c.take_at.new.self.shelf ≡ with_taken (with_reserve s (s.reserved - 1)) (p ∷ []) =
    ap (λ (v : ShelfView). v.shelf) c.if-not-take_at.ensures.taken ∙ ap (λ (v : ShelfView). with_taken v.shelf (p ∷ [])) c.unreserve.ensures in
    c.put_held.ensures.shelf
    ∙ ap (λ (t : ShelfState). with_piece (without_fresh t c.in-Some.fresh) n c.args.index (placed_at c.in-Some.fresh c.args.stamp)) taken
    ∙ ap (λ q. with_piece (without_fresh (with_taken (with_reserve s (s.reserved - 1)) (p ∷ [])) q) n c.args.index (placed_at q c.args.stamp)) is
    ∙ filled_is s n c.args.index c.args.stamp p c.requires.fresh

pub returns-clause-within : goal.returns-clause-within
returns-clause-within c =
    let s : ShelfState = c.args.shelf.now.shelf in
    filled_within s c.put_held.new.self.shelf c.args.target.now.number c.args.index c.args.stamp c.args.place.0 c.requires.fresh (returns-clause-shelf c)
    c.keeps_sharing.ensures c.keeps_sharing-2.ensures c.requires.some c.requires.within
