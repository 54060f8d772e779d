use Rattle.std.proofs.Common.{ℕ, ◌≡◌, ◌<◌, ◌+◌, List, [], ◌∷◌, ◌++◌, length, map, take, get_or, refl, sym, ap, ◌∙◌, arith}
use Rattle.std.proofs.lemmas.List.{map-append, take_more}
use Rattle.vv_units.specs.declared.numbers.Place.{Place as place}
use Rattle.vv_record.specs.declared.record.ChunkCopy.{ChunkCopy as copy}
use Rattle.vv_core.proofs.placing.copies_of.Goals as goal

one_index : (indexes : List ℕ) (i : ℕ) (copies new : List copy) (item : copy) → i < length indexes → map (λ (c : copy). c.index) copies ≡ take i indexes
    → new ≡ copies ++ item ∷ [] → item.index ≡ get_or indexes i 0 → map (λ (c : copy). c.index) new ≡ take (i + 1) indexes
one_index indexes i copies new item lt done is at =
    ap (map (λ (c : copy). c.index)) is ∙ map-append (λ (c : copy). c.index) copies (item ∷ [])
    ∙ ap (λ (xs : List ℕ). xs ++ item.index ∷ []) done ∙ ap (λ k. take i indexes ++ k ∷ []) at ∙ sym (take_more indexes i 0 lt)

one_place : (places : List place) (i : ℕ) (copies new : List copy) (item : copy) → i < length places
    → map (λ (c : copy). c.place.0) copies ≡ map (λ (p : place). p.0) (take i places) → new ≡ copies ++ item ∷ []
    → item.place ≡ get_or places i (record { 0 = 0 }) → map (λ (c : copy). c.place.0) new ≡ map (λ (p : place). p.0) (take (i + 1) places)
one_place places i copies new item lt done is at =
    ap (map (λ (c : copy). c.place.0)) is ∙ map-append (λ (c : copy). c.place.0) copies (item ∷ [])
    ∙ ap (λ (xs : List ℕ). xs ++ item.place.0 ∷ []) done ∙ ap (λ (p : place). map (λ (q : place). q.0) (take i places) ++ p.0 ∷ []) at
    ∙ sym (ap (map (λ (p : place). p.0)) (take_more places i (record { 0 = 0 }) lt)
    ∙ map-append (λ (p : place). p.0) (take i places) (get_or places i (record { 0 = 0 }) ∷ []))

pub loop-at-preserved : goal.loop-at-preserved
loop-at-preserved c =
    let within : c.loop-at.at < length c.args.indexes.now = c.loop-at-test.true in
    let behind : c.loop-at.at < length c.args.places.now = omega (arith, within, c.requires) in
    let item : copy = record { index = get_or c.args.indexes.now c.loop-at.at 0; place = get_or c.args.places.now c.loop-at.at (record { 0 = 0 }) } in
    record {
      indexes = one_index c.args.indexes.now c.loop-at.at c.loop-at.copies.items c.add.new.items.items item within c.loop-at.invariant.indexes c.in_ok-add.ensures refl;
      places = one_place c.args.places.now c.loop-at.at c.loop-at.copies.items c.add.new.items.items item behind c.loop-at.invariant.places c.in_ok-add.ensures refl;
    }
