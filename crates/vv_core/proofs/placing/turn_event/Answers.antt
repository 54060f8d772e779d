use Rattle.std.proofs.Common.{ℕ, ◌≡◌, ◌<◌, ◌^◌, List, length, map, take, sym, ap, ◌∙◌, subst, arith}
use Rattle.std.specs.Prelude.{slice_index}
use Rattle.vv_units.specs.declared.numbers.Place.{Place as place}
use Rattle.vv_flat.specs.Changes.{Turn}
use Rattle.vv_flat.specs.Plans.{fresh_places}
use Rattle.vv_record.specs.declared.record.ChunkCopy.{ChunkCopy as copy}
use Rattle.vv_record.specs.declared.record.Event.TheVariants as event
use Rattle.vv_core.specs.Placed.{IsPlacedEvent}
use Rattle.vv_core.proofs.PlacedEvents.{turn_placed, turn_count}
use Rattle.vv_core.proofs.placing.turn_event.Goals as goal

pub copies_of-requires : goal.copies_of-requires
copies_of-requires c =
    let d = c.args.tables.now.durable in
    let long : c.in_ok-indexes.indexes.len ≡ length c.in_ok-indexes.indexes.items = omega (arith, c.in_ok-indexes.indexes.ok.0) in
    let taken : map (λ (p : place). p.0) c.in_ok-places.places.items ≡ take (length c.in_ok-indexes.indexes.items) (fresh_places d) =
    c.in_ok-places.ensures ∙ ap (λ n. take n (fresh_places d)) (c.len.ensures ∙ long) in
    ap length c.deref-2.ensures.value
    ∙ turn_count d c.args.task.0 c.in_ok-indexes.indexes.items c.in_ok-places.places.items c.lsn-well_formed.ensures.well c.requires.accepted
    c.in_ok-indexes.ensures.indexes taken
    ∙ sym (ap length c.deref-3.ensures.value)

pub returns : goal.returns
returns c =
    let d = c.args.tables.now.durable in
    let long : c.in_ok-indexes.indexes.len ≡ length c.in_ok-indexes.indexes.items = omega (arith, c.in_ok-indexes.indexes.ok.0) in
    let taken : map (λ (p : place). p.0) c.in_ok-places.places.items ≡ take (length c.in_ok-indexes.indexes.items) (fresh_places d) =
    c.in_ok-places.ensures ∙ ap (λ n. take n (fresh_places d)) (c.len.ensures ∙ long) in
    let wide : (k : ℕ) → slice_index c.in_ok-indexes.indexes.items k < 2 ^ 32 =
    λ k. subst (λ (xs : List ℕ). slice_index xs k < 2 ^ 32) c.deref.ensures.value (c.are_wide.ensures k) in
    subst (λ (cs : List copy). IsPlacedEvent d (Turn c.args.task.0) (event.Turn c.args.task cs)) (sym c.of.ensures)
    (turn_placed d c.args.task c.in_ok-indexes.indexes.items c.in_ok-places.places.items c.in_ok-copies.copies.items c.lsn-well_formed.ensures.well
    c.requires.accepted c.is_wide.ensures c.in_ok-indexes.ensures.indexes c.in_ok-indexes.ensures.few wide taken
    (c.in_ok-copies.ensures.indexes ∙ c.deref-2.ensures.value)
    (c.in_ok-copies.ensures.places ∙ ap (map (λ (p : place). p.0)) c.deref-3.ensures.value))
