use Rattle.std.proofs.Common.{◌≡◌, ℕ, ◌≤◌, List, [], map, length, refl, sym, ap, ◌∙◌, subst, arith}
use Rattle.std.proofs.lemmas.Bool.{eqb-true, eqb-false}
use Rattle.std.proofs.lemmas.List.{length-map}
use Rattle.vv_flat.specs.Chunks.{filled, placed_entries}
use Rattle.vv_flat.specs.Changes.{Turn}
use Rattle.vv_record.specs.declared.record.ChunkCopy.{ChunkCopy}
use Rattle.vv_image.specs.Standing.{bytes_at_place}
use Rattle.vv_array.proofs.MovingTurns.{fit_parts, turn_moves, no_copies, empty_list}
use Rattle.vv_array.proofs.PutParts.{on_read}
use Rattle.vv_array.proofs.putting.copy_some.Goals as goal

pub write_copies-requires-clause-different : goal.write_copies-requires-clause-different
write_copies-requires-clause-different g c =
    (fit_parts c.args.core.now.array.durable (Turn c.args.task.0) (map (λ (x : ChunkCopy). x.place.0) c.args.copies.now) c.requires.fits).different

pub write_copies-requires-clause-fresh : goal.write_copies-requires-clause-fresh
write_copies-requires-clause-fresh g c =
    (fit_parts c.args.core.now.array.durable (Turn c.args.task.0) (map (λ (x : ChunkCopy). x.place.0) c.args.copies.now) c.requires.fits).fresh

pub returns-then-is_empty-clause-new : goal.returns-then-is_empty-clause-new
returns-then-is_empty-clause-new g c = λ one two told again.
    let d = c.args.core.now.array.durable in
    let places : List ℕ = map (λ (x : ChunkCopy). x.place.0) c.args.copies.now in
    let none : length c.args.copies.now ≡ 0 = eqb-true (length c.args.copies.now) 0 (sym c.is_empty.ensures ∙ c.if-is_empty.true) in
    let few : length places ≡ 0 = length-map c.args.copies.now (λ (x : ChunkCopy). x.place.0) ∙ none in
    let parts = fit_parts d (Turn c.args.task.0) places c.requires.fits in
    ap (λ (l : List ℕ). map (filled d.geometry.chunk_blocks (bytes_at_place d.geometry two)) (placed_entries l c.args.task.0)) (empty_list places few)
    ∙ sym (no_copies (bytes_at_place d.geometry one) d c.args.task.0 [] (sym parts.count ∙ few))

pub returns-clause-moves : goal.returns-clause-moves
returns-clause-moves g c =
    let places : List ℕ = map (λ (x : ChunkCopy). x.place.0) c.args.copies.now in
    let some = eqb-false (length c.args.copies.now) 0 (sym c.is_empty.ensures ∙ c.if-is_empty.false) in
    let many : 1 ≤ length places = omega (arith, some, length-map c.args.copies.now (λ (x : ChunkCopy). x.place.0)) in
    on_read c.write_copies.result _ (turn_moves c.args.core.now.array.durable c.args.task.0 places c.lsn-well_formed.ensures.well c.requires.fits many)
