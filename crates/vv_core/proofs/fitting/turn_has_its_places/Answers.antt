use Rattle.std.proofs.Common.{◌≡◌, ◌&&◌, true, List, ℕ, map, length, sym, ap, ◌∙◌}
use Rattle.vv_units.specs.declared.numbers.Place.{Place}
use Rattle.vv_record.specs.declared.record.ChunkCopy.{ChunkCopy}
use Rattle.vv_flat.specs.Lists.{numbers_eq}
use Rattle.vv_flat.specs.Changes.{Turn}
use Rattle.vv_flat.specs.Logs.{has_turn_indexes}
use Rattle.vv_core.specs.Replays.{are_so_many, are_its_places}
use Rattle.vv_core.proofs.FittingEvents.{other_indexes, same_indexes, place_numbers_of, told_by}
use Rattle.vv_core.proofs.fitting.turn_has_its_places.Goals as goal

pub returns-then-not-are_copies_at : goal.returns-then-not-are_copies_at
returns-then-not-are_copies_at c =
    other_indexes c.args.tables.now.durable c.args.task.0 c.args.copies.now c.deref.result.now (c.deref.ensures.value ∙ c.in_ok-indexes.ensures.indexes)
    (sym c.are_copies_at.ensures ∙ c.if-not-are_copies_at.true)

pub returns : goal.returns
returns c =
    let d = c.args.tables.now.durable in
    let copies = c.args.copies.now in
    let indexes : List ℕ = c.in_ok-indexes.indexes.items in
    let same : numbers_eq (map (λ (k : ChunkCopy). k.index) copies) indexes ≡ true =
    ap (numbers_eq (map (λ (k : ChunkCopy). k.index) copies)) (sym c.deref.ensures.value) ∙ sym c.are_copies_at.ensures ∙ c.if-not-are_copies_at.false in
    let count : c.len.result ≡ length indexes = c.len.ensures ∙ sym c.deref.ensures.len ∙ ap length c.deref.ensures.value in
    told_by c.are_so_many.result (are_so_many d c.len.result (map (λ (p : Place). p.0) c.deref-2.result.now))
    (are_its_places d (Turn c.args.task.0) (map (λ (k : ChunkCopy). k.place.0) copies)
    && has_turn_indexes d (Turn c.args.task.0) (map (λ (k : ChunkCopy). k.index) copies))
    (ap (λ n. are_so_many d n (map (λ (p : Place). p.0) c.deref-2.result.now)) count
    ∙ ap (are_so_many d (length indexes)) (place_numbers_of copies c.deref-2.result.now (c.deref-2.ensures.value ∙ c.in_ok-places.ensures))
    ∙ same_indexes d c.args.task.0 copies indexes c.in_ok-indexes.ensures.indexes same)
    c.are_so_many.ensures
