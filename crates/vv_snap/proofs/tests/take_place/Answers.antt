use Rattle.std.proofs.Common.{ℕ, ◌≡◌, List, [], ◌∷◌, ◌++◌, sym, ap, subst, ◌∙◌}
use Rattle.std.specs.Prelude.{nat_lt}
use Rattle.std.specs.List.{Contains}
use Rattle.vv_pool.specs.FreshPlaces.{FreshPlaces}
use Rattle.vv_vols.specs.Rows.{ShelfView}
use Rattle.vv_flat.specs.Lists.{put_before}
use Rattle.vv_snap.proofs.PutChunks.{put_stands}
use Rattle.vv_snap.proofs.tests.take_place.Goals as goal

pub returns-clause-fresh : goal.returns-clause-fresh
returns-clause-fresh c =
    let taken = c.if-not-take_at.ensures.taken in
    let out = c.if-not-take_at.ensures.out in
    let next = c.in-Some.ensures.some in
    let both : c.in-Some.fresh ∷ c.next.new.self.places ≡ c.args.place ∷ [] =
    sym (ap (λ (o : FreshPlaces). o.places) next) ∙ ap (λ (o : FreshPlaces). o.places) out ∙ ap (λ (ps : List ℕ). ps ++ c.args.place ∷ []) c.requires.none in
    let first : c.args.place ≡ c.in-Some.fresh = cc in
    subst (λ (v : ShelfView). Contains v.shelf.fresh c.in-Some.fresh) (sym taken)
    (subst (λ q. Contains (put_before (λ r. nat_lt c.args.place r) c.args.place c.args.shelf.now.shelf.fresh) q) first
    (put_stands (λ r. nat_lt c.args.place r) c.args.place c.args.shelf.now.shelf.fresh))
