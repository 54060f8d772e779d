use Rattle.std.proofs.Common.{ℕ, ◌≡◌, List, [], ◌∷◌, ◌++◌, sym, ap, subst, ◌∙◌}
use Rattle.std.specs.List.{Contains}
use Rattle.vv_pool.specs.FreshPlaces.{FreshPlaces}
use Rattle.vv_vols.specs.Rows.{ShelfView}
use Rattle.vv_vols.specs.Places.{with_taken}
use Rattle.vv_vols.proofs.Members.{here}
use Rattle.vv_vols.proofs.TakenPlaces.{taken_in}
use Rattle.vv_diff.proofs.tests.take_place.Goals as goal

pub returns-clause-fresh : goal.returns-clause-fresh
returns-clause-fresh c =
    let taken = c.if-not-take_at.ensures.taken in
    let out = c.if-not-take_at.ensures.out in
    let next = c.in-Some.ensures.some in
    let both : c.in-Some.fresh ∷ c.next.new.self.places ≡ c.args.place ∷ [] =
    sym (ap (λ (o : FreshPlaces). o.places) next) ∙ ap (λ (o : FreshPlaces). o.places) out ∙ ap (λ (ps : List ℕ). ps ++ c.args.place ∷ []) c.requires.none in
    let first : c.args.place ≡ c.in-Some.fresh = cc in
    subst (λ (v : ShelfView). Contains v.shelf.fresh c.in-Some.fresh) (sym taken)
    (subst (λ q. Contains (with_taken c.args.shelf.now.shelf (c.args.place ∷ [])).fresh q) first
    (taken_in c.args.shelf.now.shelf (c.args.place ∷ []) c.args.place (here c.args.place [])))
