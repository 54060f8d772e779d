use Rattle.std.proofs.Common.{ℕ, zero, suc, ◌≡◌, ◌≤◌, List, [], ◌∷◌, length, take, refl, sym, ap, ◌∙◌, arith}
use Rattle.std.specs.List.{list_all}
use Rattle.std.proofs.lemmas.List.Folds.{list_all-map, list_all_at}
use Rattle.vv_units.specs.declared.numbers.Place.{Place as place}
use Rattle.vv_flat.specs.Replay.{is_fresh}
use Rattle.vv_core.proofs.places.are_fresh.Goals as goal

take_whole : {A : Type 0} (xs : List A) (i : ℕ) → length xs ≤ i → take i xs ≡ xs
take_whole [] zero le = refl
take_whole [] (suc i) le = refl
take_whole (x ∷ xs) zero le = absurd (omega (arith, le))
take_whole (x ∷ xs) (suc i) le = ap (λ ys. x ∷ ys) (take_whole xs i (omega (arith, le)))

pub returns-then-not-is_fresh : goal.returns-then-not-is_fresh
returns-then-not-is_fresh c =
    let d = c.args.tables.now.durable in
    sym (list_all-map (is_fresh d) (λ (p : place). p.0) c.args.places.now
    ∙ list_all_at (λ (p : place). is_fresh d p.0) c.args.places.now c.loop-place.place-index (record { 0 = 0 }) c.loop-place-test.true
    (sym c.is_fresh.ensures ∙ c.if-not-is_fresh.true))

pub returns : goal.returns
returns c =
    let d = c.args.tables.now.durable in
    sym (list_all-map (is_fresh d) (λ (p : place). p.0) c.args.places.now
    ∙ ap (list_all (λ (p : place). is_fresh d p.0)) (sym (take_whole c.args.places.now c.loop-place.place-index c.loop-place-test.false))
    ∙ c.loop-place.invariant)
