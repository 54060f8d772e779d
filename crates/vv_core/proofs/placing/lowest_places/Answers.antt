use Rattle.std.proofs.Common.{ℕ, ◌≡◌, ◌<◌, ◌+◌, true, List, [], ◌∷◌, ◌++◌, map, sym, ap, ◌∙◌, subst, arith}
use Rattle.std.specs.Prelude.{Some, nat_le}
use Rattle.std.specs.List.{find}
use Rattle.std.proofs.lemmas.List.{map-append}
use Rattle.vv_units.specs.declared.numbers.Place.{Place as place}
use Rattle.vv_flat.specs.Lists.{all_rising}
use Rattle.vv_flat.specs.Plans.{fresh_places}
use Rattle.vv_core.proofs.LowestPlaces.{AreTaken, none_taken, one_taken, all_taken, fresh_rising, found_in_pool}
use Rattle.vv_core.proofs.placing.lowest_places.Goals as goal

one_more : (fresh : List ℕ) (places new : List place) (next : place) (from behind many : ℕ) → all_rising fresh ≡ true
    → AreTaken fresh (map (λ (p : place). p.0) places) from many → find (λ k. nat_le from k) fresh ≡ Some next.0 → new ≡ places ++ next ∷ []
    → behind ≡ next.0 + 1 → AreTaken fresh (map (λ (p : place). p.0) new) behind (many + 1)
one_more fresh places new next from behind many rise taken found is at =
    let told : map (λ (p : place). p.0) new ≡ map (λ (p : place). p.0) places ++ next.0 ∷ [] =
    ap (map (λ (p : place). p.0)) is ∙ map-append (λ (p : place). p.0) places (next ∷ []) in
    subst (λ (xs : List ℕ). AreTaken fresh xs behind (many + 1)) (sym told)
    (subst (λ k. AreTaken fresh (map (λ (p : place). p.0) places ++ next.0 ∷ []) k (many + 1)) (sym at)
    (one_taken fresh (map (λ (p : place). p.0) places) from next.0 many rise taken found))

pub loop-init : goal.loop-init
loop-init c =
    let fresh : List ℕ = fresh_places c.args.tables.now.durable in
    subst (λ (ps : List place). AreTaken fresh (map (λ (p : place). p.0) ps) 0 0) (sym c.new-places.ensures.items) (none_taken fresh)

pub returns-in_default : goal.returns-in_default
returns-in_default c =
    let lt : c.loop.counter < c.args.count = c.loop-test.true in
    all_taken (fresh_places c.args.tables.now.durable) (map (λ (p : place). p.0) c.loop.places.items) c.loop.from c.loop.counter c.args.count
    c.loop.invariant (omega (arith, lt)) (sym c.in_default.ensures)

pub behind-from-requires : goal.behind-from-requires
behind-from-requires c = found_in_pool c.args.tables.now.durable c.loop.from c.in-Some.place.0 (sym c.in-Some.ensures)

pub loop-preserved : goal.loop-preserved
loop-preserved c =
    one_more (fresh_places c.args.tables.now.durable) c.loop.places.items c.add.new.items.items c.in-Some.place c.loop.from c.behind-from.result
    c.loop.counter (fresh_rising c.args.tables.now.durable) c.loop.invariant (sym c.in-Some.ensures) c.in_ok-add.ensures c.behind-from.ensures
