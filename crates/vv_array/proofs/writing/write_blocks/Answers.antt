use Rattle.std.proofs.Common.{◌≡◌, ◌∷◌, ◌+◌, ◌*◌, ◌<◌, ◌≤◌, ℕ, List, [], map, length, get_or, sym, ap, ◌∙◌, arith}
use Rattle.std.specs.Prelude.{nat_lt}
use Rattle.std.proofs.lemmas.Bool.{ltb-true}
use Rattle.std.proofs.lemmas.List.{length-map, get_or-map}
use Rattle.std.proofs.lemmas.List.Folds.{list_all-map}
use Rattle.vv_units.specs.Sizes.{block_bytes}
use Rattle.vv_units.specs.declared.geometry.Geometry.{Geometry}
use Rattle.vv_units.specs.declared.numbers.Place.{Place}
use Rattle.vv_data.specs.Layout.{chunk_bytes}
use Rattle.vv_flat.specs.State.{Durable}
use Rattle.vv_flat.specs.Chunks.{ChunkValue, Entry, filled_tables, touched_count, touched_indexes}
use Rattle.vv_flat.specs.Parts.{chunk_start, part_written}
use Rattle.vv_flat.specs.Replay.{is_fresh}
use Rattle.vv_flat.proofs.Shares.{and_left}
use Rattle.vv_laws.proofs.ListParts.{take-past}
use Rattle.vv_laws.proofs.ChunkBytes.{some_blocks}
use Rattle.vv_image.specs.Standing.{bytes_at_place}
use Rattle.vv_array.specs.ChunkBytes.{volume_chunk}
use Rattle.vv_array.proofs.WrittenChunks.{Wider, one_of, told_more, told_then, changed_further, then_at}
use Rattle.vv_array.proofs.ChunkValues.{write_values, new_entries, fronts_more}
use Rattle.vv_array.proofs.ReadChunks.{all_at_index, blocks_low, size_low, size_is, touched_long, touched_at, touched_inside, touched_low, touched_high, piece_value}
use Rattle.vv_array.proofs.writing.write_blocks.Goals as goal

abbrev nowhere : Place
nowhere = record { 0 = 0 }

abbrev place_of : Place → ℕ
place_of x = x.0

-- a place at an index is one of all
one_place : (all : List Place) (k : ℕ) → k < length all → Wider (place_of (get_or all k nowhere) ∷ []) (map place_of all)
one_place all k lt =
    let long : length (map place_of all) ≡ length all = length-map all place_of in
    one_of (map place_of all) k (place_of (get_or all k nowhere)) (omega (arith, lt, long)) (get_or-map place_of all k nowhere 0 lt)

pub touched-index-requires-clause-within : goal.touched-index-requires-clause-within
touched-index-requires-clause-within g c =
    let low = blocks_low c.args.core.now.array.durable c.lsn-well_formed.ensures.well c.args.volume.0 c.requires.stands.0 c.requires.stands.1 in
    omega (arith, low, c.requires.stands.2)

pub piece_start-at-requires-clause-low : goal.piece_start-at-requires-clause-low
piece_start-at-requires-clause-low g c =
    let low = blocks_low c.args.core.now.array.durable c.lsn-well_formed.ensures.well c.args.volume.0 c.requires.stands.0 c.requires.stands.1 in
    omega (arith, low, c.requires.stands.2, c.requires.some)

pub piece_of-piece-requires-clause-low : goal.piece_of-piece-requires-clause-low
piece_of-piece-requires-clause-low g c =
    let low = blocks_low c.args.core.now.array.durable c.lsn-well_formed.ensures.well c.args.volume.0 c.requires.stands.0 c.requires.stands.1 in
    omega (arith, low, c.requires.stands.2, c.requires.some)

pub piece_start-at-requires-clause-touched : goal.piece_start-at-requires-clause-touched
piece_start-at-requires-clause-touched g c =
    let d : Durable Entry = c.args.core.now.array.durable in
    let high = touched_high d.geometry.chunk_blocks c.args.first c.loop-place.place-index c.loop-place.index (some_blocks d.geometry.chunk_blocks d.geometry.chunk_size) c.loop-place.invariant.index in
    let sizes : chunk_bytes c.geometry-geometry.result ≡ chunk_bytes d.geometry = ap chunk_bytes c.geometry-geometry.ensures in
    let all : c.loop-place.index * chunk_bytes c.geometry-geometry.result ≡ c.loop-place.index * chunk_bytes d.geometry = ap (λ k. c.loop-place.index * k) sizes in
    omega (arith, high, sizes, all)

pub piece_of-piece-requires-clause-touched : goal.piece_of-piece-requires-clause-touched
piece_of-piece-requires-clause-touched g c =
    let d : Durable Entry = c.args.core.now.array.durable in
    let long = touched_long d.geometry.chunk_blocks c.args.first c.args.blocks c.requires.some in
    let lt : c.loop-place.place-index < touched_count d.geometry.chunk_blocks c.args.first c.args.blocks = omega (arith, long, c.requires.count, c.loop-place-test.true) in
    let low = touched_low d.geometry.chunk_blocks c.args.first c.args.blocks c.loop-place.place-index c.loop-place.index c.requires.some lt c.loop-place.invariant.index in
    let all : c.loop-place.index * chunk_bytes c.geometry-geometry.result ≡ c.loop-place.index * chunk_bytes d.geometry = ap (λ (h : Geometry). c.loop-place.index * chunk_bytes h) c.geometry-geometry.ensures in
    omega (arith, low, all, c.requires.bytes)

pub write_piece-requires-clause-index : goal.write_piece-requires-clause-index
write_piece-requires-clause-index g c =
    let d : Durable Entry = c.args.core.now.array.durable in
    let long = touched_long d.geometry.chunk_blocks c.args.first c.args.blocks c.requires.some in
    touched_inside d c.args.volume.0 c.args.first c.args.blocks c.loop-place.place-index c.loop-place.index c.requires.stands.0 c.requires.stands.1 c.requires.stands.2 c.requires.some
    (omega (arith, long, c.requires.count, c.loop-place-test.true)) c.loop-place.invariant.index

pub write_piece-requires-clause-place : goal.write_piece-requires-clause-place
write_piece-requires-clause-place g c =
    let d : Durable Entry = c.args.core.now.array.durable in
    let all : List Place = c.args.places.now in
    ltb-true (place_of (get_or all c.loop-place.place-index nowhere)) d.geometry.pool_chunks
    (and_left (nat_lt (place_of (get_or all c.loop-place.place-index nowhere)) d.geometry.pool_chunks) _
    (all_at_index (λ x. is_fresh d (place_of x)) all c.loop-place.place-index nowhere (sym (list_all-map (is_fresh d) place_of all) ∙ c.requires.fresh) c.loop-place-test.true))

pub overflow_add-index : goal.overflow_add-index
overflow_add-index g c =
    let d : Durable Entry = c.args.core.now.array.durable in
    let long = touched_long d.geometry.chunk_blocks c.args.first c.args.blocks c.requires.some in
    let inside = touched_inside d c.args.volume.0 c.args.first c.args.blocks c.loop-place.place-index c.loop-place.index c.requires.stands.0 c.requires.stands.1 c.requires.stands.2 c.requires.some
    (omega (arith, long, c.requires.count, c.loop-place-test.true)) c.loop-place.invariant.index in
    let few = size_low d c.lsn-well_formed.ensures.well c.args.volume.0 c.requires.stands.0 c.requires.stands.1 in
    let size = size_is d c.args.volume.0 c.requires.stands.0 c.requires.stands.1 in
    omega (arith, inside, few, size)

pub returns-in_err-write_piece-clause-told : goal.returns-in_err-write_piece-clause-told
returns-in_err-write_piece-clause-told g c =
    let geometry = c.args.core.now.array.durable.geometry in
    let all : List Place = c.args.places.now in
    let k : ℕ = c.loop-place.place-index in
    let t0 = g.D.Disk.content c.args.disk.now in
    let t1 = g.D.Disk.content c.loop-place.disk in
    let t2 = g.D.Disk.content c.write_piece.new.disk in
    told_then geometry (map place_of all) t0 t1 t2 c.loop-place.invariant.told
    (told_more geometry (place_of (get_or all k nowhere) ∷ []) (map place_of all) t1 t2 (one_place all k c.loop-place-test.true) c.write_piece.ensures.told)

pub returns-in_err-write_piece-clause-each : goal.returns-in_err-write_piece-clause-each
returns-in_err-write_piece-clause-each g c = λ honest image left.
    let geometry = c.args.core.now.array.durable.geometry in
    let all : List Place = c.args.places.now in
    let k : ℕ = c.loop-place.place-index in
    changed_further geometry (place_of (get_or all k nowhere) ∷ []) (map place_of all) (g.D.Disk.is_image c.args.disk.now) (g.D.Disk.is_image c.loop-place.disk) (one_place all k c.loop-place-test.true) (c.loop-place.invariant.each honest)
    image (c.write_piece.ensures.each (c.loop-place.invariant.honesty.1 honest) image left)

pub returns-in_err-write_piece-clause-any_moment : goal.returns-in_err-write_piece-clause-any_moment
returns-in_err-write_piece-clause-any_moment g c = λ honest.
    let geometry = c.args.core.now.array.durable.geometry in
    let all : List Place = c.args.places.now in
    let k : ℕ = c.loop-place.place-index in
    then_at geometry g.D.Disk.moment g.D.Disk.left_since c.args.disk.now c.loop-place.disk c.write_piece.new.disk (place_of (get_or all k nowhere) ∷ []) (map place_of all) (g.D.Disk.is_image c.args.disk.now) (g.D.Disk.is_image c.loop-place.disk)
    (one_place all k c.loop-place-test.true) (c.loop-place.invariant.each honest) (c.loop-place.invariant.any_moment honest) (c.write_piece.ensures.any_moment (c.loop-place.invariant.honesty.1 honest))

pub loop-place-preserved : goal.loop-place-preserved
loop-place-preserved g c =
    let d : Durable Entry = c.args.core.now.array.durable in
    let n : ℕ = c.args.volume.0 in
    let first : ℕ = c.args.first in
    let bytes : List ℕ = c.args.bytes.now in
    let all : List Place = c.args.places.now in
    let places : List ℕ = map place_of all in
    let indexes : List ℕ = touched_indexes d.geometry.chunk_blocks first c.args.blocks in
    let k : ℕ = c.loop-place.place-index in
    let x : Place = get_or all k nowhere in
    let lt : k < length all = c.loop-place-test.true in
    let as_many : length places ≡ length all = length-map all place_of in
    let long : length indexes ≡ length places = sym c.requires.count ∙ sym as_many in
    let within : k < length places = omega (arith, lt, as_many) in
    let count = touched_long d.geometry.chunk_blocks first c.args.blocks c.requires.some in
    let touched : k < touched_count d.geometry.chunk_blocks first c.args.blocks = omega (arith, count, c.requires.count, lt) in
    let t0 = g.D.Disk.content c.args.disk.now in
    let t1 = g.D.Disk.content c.loop-place.disk in
    let t2 = g.D.Disk.content c.write_piece.new.disk in
    let before = c.loop-place.invariant in
    let wider = one_place all k lt in
    let value : Durable ChunkValue → ℕ → List ℕ = λ flat i. part_written (chunk_bytes d.geometry) (chunk_start d.geometry.chunk_blocks i) (first * block_bytes) bytes (volume_chunk flat n i) in
    record {
      index = ap (λ i. i + 1) before.index ∙ omega arith;
      len = c.write_piece.ensures.len ∙ before.len;
      honesty = (λ h. before.honesty.0 (c.write_piece.ensures.honesty.0 h), λ h. c.write_piece.ensures.honesty.1 (before.honesty.1 h));
      reads = c.in_ok-write_piece.ensures.cause.kept.0 ∙ before.reads;
      writes = c.in_ok-write_piece.ensures.cause.kept.1 ∙ before.writes;
      told = told_then d.geometry places t0 t1 t2 before.told (told_more d.geometry (place_of x ∷ []) places t1 t2 wider c.write_piece.ensures.told);
      each = λ honest image left.
          changed_further d.geometry (place_of x ∷ []) places (g.D.Disk.is_image c.args.disk.now) (g.D.Disk.is_image c.loop-place.disk) wider (before.each honest) image (c.write_piece.ensures.each (before.honesty.1 honest) image left);
      any_moment = λ honest.
          then_at d.geometry g.D.Disk.moment g.D.Disk.left_since c.args.disk.now c.loop-place.disk c.write_piece.new.disk (place_of x ∷ []) places (g.D.Disk.is_image c.args.disk.now) (g.D.Disk.is_image c.loop-place.disk)
          wider (before.each honest) (before.any_moment honest) (c.write_piece.ensures.any_moment (before.honesty.1 honest));
      new = fronts_more d c.lsn-well_formed.ensures.well places indexes c.requires.fresh c.requires.different long value k (place_of x) c.loop-place.index within
          (get_or-map place_of all k nowhere 0 lt) (touched_at d.geometry.chunk_blocks first c.args.blocks k c.loop-place.index c.requires.some touched before.index) t0 t1 t2 before.told c.write_piece.ensures.told
          (λ content after told told_after.
          c.in_ok-write_piece.ensures.new content after told told_after
          ∙ piece_value c.geometry-geometry.result d.geometry c.piece_start-at.result c.loop-place.index first bytes c.piece_of-piece.result.now (volume_chunk (filled_tables (bytes_at_place d.geometry content) d) n c.loop-place.index)
          c.geometry-geometry.ensures c.piece_start-at.ensures.start c.piece_of-piece.ensures.piece) before.new;
    }

pub returns-clause-new : goal.returns-clause-new
returns-clause-new g c = λ content after told told_after.
    let d : Durable Entry = c.args.core.now.array.durable in
    let n : ℕ = c.args.volume.0 in
    let first : ℕ = c.args.first in
    let bytes : List ℕ = c.args.bytes.now in
    let all : List Place = c.args.places.now in
    let places : List ℕ = map place_of all in
    let indexes : List ℕ = touched_indexes d.geometry.chunk_blocks first c.args.blocks in
    let k : ℕ = c.loop-place.place-index in
    let done : length all ≤ k = c.loop-place-test.false in
    let as_many : length places ≡ length all = length-map all place_of in
    let flat : Durable ChunkValue = filled_tables (bytes_at_place d.geometry content) d in
    let value : ℕ → List ℕ = λ i. part_written (chunk_bytes d.geometry) (chunk_start d.geometry.chunk_blocks i) (first * block_bytes) bytes (volume_chunk flat n i) in
    let same : map (bytes_at_place d.geometry after) places ≡ map value indexes =
    ap (map (bytes_at_place d.geometry after)) (sym (take-past k places (omega (arith, done, as_many))))
    ∙ c.loop-place.invariant.new content after told told_after
    ∙ ap (map value) (take-past k indexes (omega (arith, done, c.requires.count))) in
    new_entries d.geometry.chunk_blocks (d.lsn + 1) (bytes_at_place d.geometry after) value places indexes same
    ∙ sym (write_values d content c.lsn-well_formed.ensures.well (g.met.D.Disk.content_fits c.args.disk.now content told ∙ c.requires.disk) n first c.args.blocks bytes c.requires.stands.0 c.requires.stands.1 c.requires.stands.2 c.requires.bytes)
