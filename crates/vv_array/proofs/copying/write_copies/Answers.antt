use Rattle.std.proofs.Common.{◌≡◌, ◌∷◌, ◌<◌, ◌≤◌, ℕ, List, [], map, length, get_or, sym, ap, ◌∙◌, arith}
use Rattle.std.specs.Prelude.{nat_lt}
use Rattle.std.specs.List.{list_all}
use Rattle.std.proofs.lemmas.Bool.{ltb-true}
use Rattle.std.proofs.lemmas.List.{length-map, get_or-map}
use Rattle.std.proofs.lemmas.List.Folds.{list_all-map}
use Rattle.vv_record.specs.declared.record.ChunkCopy.{ChunkCopy}
use Rattle.vv_flat.specs.State.{Durable}
use Rattle.vv_flat.specs.Chunks.{ChunkValue, Entry, filled_tables}
use Rattle.vv_flat.specs.Replay.{is_fresh}
use Rattle.vv_flat.proofs.Shares.{and_left}
use Rattle.vv_laws.proofs.ListParts.{take-past}
use Rattle.vv_image.specs.Standing.{bytes_at_place}
use Rattle.vv_array.specs.ChunkBytes.{image_chunk, image_size}
use Rattle.vv_array.proofs.WrittenChunks.{Wider, one_of, told_more, told_then, changed_further, then_at}
use Rattle.vv_array.proofs.ChunkValues.{turn_within, turn_values, new_entries, fronts_more}
use Rattle.vv_array.proofs.ReadChunks.{all_at_index}
use Rattle.vv_array.proofs.copying.write_copies.Goals as goal

abbrev nothing : ChunkCopy
nothing = record { index = 0; place = record { 0 = 0 } }

abbrev index_of : ChunkCopy → ℕ
index_of x = x.index

abbrev place_of : ChunkCopy → ℕ
place_of x = x.place.0

-- the place of the copy at an index is one of all
one_copy : (copies : List ChunkCopy) (k : ℕ) → k < length copies → Wider (place_of (get_or copies k nothing) ∷ []) (map place_of copies)
one_copy copies k lt =
    let long : length (map place_of copies) ≡ length copies = length-map copies place_of in
    one_of (map place_of copies) k (place_of (get_or copies k nothing)) (omega (arith, lt, long)) (get_or-map place_of copies k nothing 0 lt)

pub copy_chunk-requires-clause-index : goal.copy_chunk-requires-clause-index
copy_chunk-requires-clause-index g c =
    let d : Durable Entry = c.args.core.now.array.durable in
    let copies : List ChunkCopy = c.args.copies.now in
    let size : ℕ = image_size d c.args.task.0 in
    ltb-true (index_of (get_or copies c.loop-copy.copy-index nothing)) size
    (all_at_index (λ x. nat_lt (index_of x) size) copies c.loop-copy.copy-index nothing
    (sym (list_all-map (λ i. nat_lt i size) index_of copies) ∙ ap (list_all (λ i. nat_lt i size)) c.requires.indexes ∙ turn_within d c.args.task.0) c.loop-copy-test.true)

pub copy_chunk-requires-clause-place : goal.copy_chunk-requires-clause-place
copy_chunk-requires-clause-place g c =
    let d : Durable Entry = c.args.core.now.array.durable in
    let copies : List ChunkCopy = c.args.copies.now in
    ltb-true (place_of (get_or copies c.loop-copy.copy-index nothing)) d.geometry.pool_chunks
    (and_left (nat_lt (place_of (get_or copies c.loop-copy.copy-index nothing)) d.geometry.pool_chunks) _
    (all_at_index (λ x. is_fresh d (place_of x)) copies c.loop-copy.copy-index nothing (sym (list_all-map (is_fresh d) place_of copies) ∙ c.requires.fresh) c.loop-copy-test.true))

pub returns-in_err-copy_chunk-clause-told : goal.returns-in_err-copy_chunk-clause-told
returns-in_err-copy_chunk-clause-told g c =
    let geometry = c.args.core.now.array.durable.geometry in
    let copies : List ChunkCopy = c.args.copies.now in
    let k : ℕ = c.loop-copy.copy-index in
    let t0 = g.D.Disk.content c.args.disk.now in
    let t1 = g.D.Disk.content c.loop-copy.disk in
    let t2 = g.D.Disk.content c.copy_chunk.new.disk in
    told_then geometry (map place_of copies) t0 t1 t2 c.loop-copy.invariant.told
    (told_more geometry (place_of (get_or copies k nothing) ∷ []) (map place_of copies) t1 t2 (one_copy copies k c.loop-copy-test.true) c.copy_chunk.ensures.told)

pub returns-in_err-copy_chunk-clause-each : goal.returns-in_err-copy_chunk-clause-each
returns-in_err-copy_chunk-clause-each g c = λ honest image left.
    let geometry = c.args.core.now.array.durable.geometry in
    let copies : List ChunkCopy = c.args.copies.now in
    let k : ℕ = c.loop-copy.copy-index in
    changed_further geometry (place_of (get_or copies k nothing) ∷ []) (map place_of copies) (g.D.Disk.is_image c.args.disk.now) (g.D.Disk.is_image c.loop-copy.disk) (one_copy copies k c.loop-copy-test.true) (c.loop-copy.invariant.each honest)
    image (c.copy_chunk.ensures.each (c.loop-copy.invariant.honesty.1 honest) image left)

pub returns-in_err-copy_chunk-clause-any_moment : goal.returns-in_err-copy_chunk-clause-any_moment
returns-in_err-copy_chunk-clause-any_moment g c = λ honest.
    let geometry = c.args.core.now.array.durable.geometry in
    let copies : List ChunkCopy = c.args.copies.now in
    let k : ℕ = c.loop-copy.copy-index in
    then_at geometry g.D.Disk.moment g.D.Disk.left_since c.args.disk.now c.loop-copy.disk c.copy_chunk.new.disk (place_of (get_or copies k nothing) ∷ []) (map place_of copies) (g.D.Disk.is_image c.args.disk.now) (g.D.Disk.is_image c.loop-copy.disk)
    (one_copy copies k c.loop-copy-test.true) (c.loop-copy.invariant.each honest) (c.loop-copy.invariant.any_moment honest) (c.copy_chunk.ensures.any_moment (c.loop-copy.invariant.honesty.1 honest))

pub loop-copy-preserved : goal.loop-copy-preserved
loop-copy-preserved g c =
    let d : Durable Entry = c.args.core.now.array.durable in
    let copies : List ChunkCopy = c.args.copies.now in
    let places : List ℕ = map place_of copies in
    let indexes : List ℕ = map index_of copies in
    let k : ℕ = c.loop-copy.copy-index in
    let x : ChunkCopy = get_or copies k nothing in
    let lt : k < length copies = c.loop-copy-test.true in
    let as_many : length places ≡ length copies = length-map copies place_of in
    let long : length indexes ≡ length places = length-map copies index_of ∙ sym as_many in
    let within : k < length places = omega (arith, lt, as_many) in
    let t0 = g.D.Disk.content c.args.disk.now in
    let t1 = g.D.Disk.content c.loop-copy.disk in
    let t2 = g.D.Disk.content c.copy_chunk.new.disk in
    let before = c.loop-copy.invariant in
    let wider = one_copy copies k lt in
    record {
      len = c.copy_chunk.ensures.len ∙ before.len;
      honesty = (λ h. before.honesty.0 (c.copy_chunk.ensures.honesty.0 h), λ h. c.copy_chunk.ensures.honesty.1 (before.honesty.1 h));
      reads = c.in_ok-copy_chunk.ensures.cause.kept.0 ∙ before.reads;
      writes = c.in_ok-copy_chunk.ensures.cause.kept.1 ∙ before.writes;
      told = told_then d.geometry places t0 t1 t2 before.told (told_more d.geometry (place_of x ∷ []) places t1 t2 wider c.copy_chunk.ensures.told);
      each = λ honest image left.
          changed_further d.geometry (place_of x ∷ []) places (g.D.Disk.is_image c.args.disk.now) (g.D.Disk.is_image c.loop-copy.disk) wider (before.each honest) image (c.copy_chunk.ensures.each (before.honesty.1 honest) image left);
      any_moment = λ honest.
          then_at d.geometry g.D.Disk.moment g.D.Disk.left_since c.args.disk.now c.loop-copy.disk c.copy_chunk.new.disk (place_of x ∷ []) places (g.D.Disk.is_image c.args.disk.now) (g.D.Disk.is_image c.loop-copy.disk)
          wider (before.each honest) (before.any_moment honest) (c.copy_chunk.ensures.any_moment (before.honesty.1 honest));
      new = fronts_more d c.lsn-well_formed.ensures.well places indexes c.requires.fresh c.requires.different long (λ flat i. image_chunk flat c.args.task.0 i) k (place_of x) (index_of x) within
          (get_or-map place_of copies k nothing 0 lt) (get_or-map index_of copies k nothing 0 lt) t0 t1 t2 before.told c.copy_chunk.ensures.told c.in_ok-copy_chunk.ensures.new before.new;
    }

pub returns-clause-new : goal.returns-clause-new
returns-clause-new g c = λ content after told told_after.
    let d : Durable Entry = c.args.core.now.array.durable in
    let n : ℕ = c.args.task.0 in
    let copies : List ChunkCopy = c.args.copies.now in
    let places : List ℕ = map place_of copies in
    let indexes : List ℕ = map index_of copies in
    let k : ℕ = c.loop-copy.copy-index in
    let done : length copies ≤ k = c.loop-copy-test.false in
    let as_many : length places ≡ length copies = length-map copies place_of in
    let as_many_indexes : length indexes ≡ length copies = length-map copies index_of in
    let flat : Durable ChunkValue = filled_tables (bytes_at_place d.geometry content) d in
    let same : map (bytes_at_place d.geometry after) places ≡ map (λ i. image_chunk flat n i) indexes =
    ap (map (bytes_at_place d.geometry after)) (sym (take-past k places (omega (arith, done, as_many))))
    ∙ c.loop-copy.invariant.new content after told told_after
    ∙ ap (map (λ i. image_chunk flat n i)) (take-past k indexes (omega (arith, done, as_many_indexes))) in
    new_entries d.geometry.chunk_blocks n (bytes_at_place d.geometry after) (λ i. image_chunk flat n i) places indexes same
    ∙ ap (map {A = ℕ} {B = ChunkValue} (λ i. record { stamp = n; bytes = image_chunk flat n i })) c.requires.indexes
    ∙ sym (turn_values d content n)
