-- What an accepted write of tables needs of their shelf: the chunks that it touches are of the volume, its places are free,
-- different and not too many, and its stamp is new; and what the tables keep once the places are put.
use Rattle.std.proofs.Common.{ℕ, zero, suc, ◌≡◌, ◌+◌, ◌*◌, ◌≤◌, ◌<◌, ◌==◌, Bool, true, false, cond, List, length, Some, None, Option, option_map, is_some, refl, sym, ap, ◌∙◌, arith}
use Rattle.std.specs.Prelude.{IsSome, nat_le}
use Rattle.std.specs.List.{list_all}
use Rattle.std.proofs.lemmas.Bool.{eq-eqb, eqb-true, leb-false}
use Rattle.vv_flat.specs.Lists.{all_different, numbers_from, put_at}
use Rattle.vv_flat.specs.State.{Container, Volume, Task, Durable, volume_of}
use Rattle.vv_flat.specs.Chunks.{Entry, shape_of_tables, touched_first, touched_count, touched_indexes, placed_entries}
use Rattle.vv_flat.specs.Space.{free, charge}
use Rattle.vv_flat.specs.Refusals.{Accept}
use Rattle.vv_flat.specs.Changes.{Write, judge, room_checks, changed_indexes, effect, apply, size_of, stamps_of, home_of, unmapped_count}
use Rattle.vv_flat.specs.Fields.{change_has_forms}
use Rattle.vv_flat.specs.Replay.{is_fresh, fits, replayed}
use Rattle.vv_flat.proofs.Shares.{and_left, and_right, and_both, list_all-follows}
use Rattle.vv_flat.proofs.Verdicts.{passed_room, not_refused}
use Rattle.vv_flat.proofs.Kept.{kept}
use Rattle.vv_flat.proofs.KeepRules.{fits_accepted}
use Rattle.vv_laws.proofs.ChunkBytes.{some_blocks as some_in_chunk}
use Rattle.vv_laws.proofs.Planning.{length-numbers}
use Rattle.vv_laws.proofs.WellFormed.{shape_rules}
use Rattle.vv_container.specs.Table.{ChargedContainer, with_charge}
use Rattle.vv_bind.specs.Table.{BindState}
use Rattle.vv_vols.specs.Shelf.{ShelfState, volume_in, size_in, chunks_in, is_shelf_free, allocated_of as allocated_in}
use Rattle.vv_vols.specs.Calls.{with_chunks}
use Rattle.vv_vols.specs.Conditions.{is_new_stamp}
use Rattle.vv_vols.specs.Places.{shelf_free}
use Rattle.vv_tables.specs.declared.rows.CloneRow.{CloneRow}
use Rattle.vv_tables.specs.declared.rows.CopyRow.{CopyRow}
use Rattle.vv_tables.specs.Seen.{plain_containers, seen_durable}
use Rattle.vv_tables.specs.Kept.{AreHeld, AreWell}
use Rattle.vv_tables.specs.Putting.{MayPut}
use Rattle.vv_tables.proofs.AcceptedWrites.{some_blocks, volume_stands, blocks_inside, enough_free, touched_are, blocks_few, size_few, touched_end}
use Rattle.vv_tables.proofs.ChunkChanges.{chunks_enough, chunks_well}
use Rattle.vv_tables.proofs.ShapeVolumes.{shaped, shape_found, size_is}
use Rattle.vv_tables.proofs.ShelfPieces.{place_free, free_number, next_stamp}

-- ---- an accepted write, over the shelf of tables
fits_parts : (d : Durable Entry) (n first blocks : ℕ) (places : List ℕ) → fits d (Write n first blocks) places ≡ true
    → (length places ≡ length (touched_indexes d.geometry.chunk_blocks first blocks)) × (all_different places ≡ true) × (list_all (is_fresh d) places ≡ true)
unfolding fits changed_indexes
fits_parts d n first blocks places e =
    let front = and_left _ (list_all (is_fresh d) places) e in
    let counted = and_left _ (all_different places) front in
    (eqb-true (length places) (length (touched_indexes d.geometry.chunk_blocks first blocks)) (and_right _ _ counted), and_right _ (all_different places) front, and_right _ (list_all (is_fresh d) places) e)

pub some_shape : (o : Option (Volume ℕ)) (p : Option (Volume Entry)) → o ≡ option_map shaped p → IsSome o → IsSome p
some_shape o None e some = absurd (let f : is_some o ≡ false = ap is_some e in cc)
some_shape o (Some v) e some = refl

module _ (lsn : ℕ) (s : ShelfState) (containers : List ChargedContainer) (bindings : BindState) (tasks : List Task) (clones : List CloneRow) (copies : List CopyRow) (held : AreHeld s clones copies)
    (well : AreWell s containers (seen_durable lsn s containers bindings tasks clones copies)) (n first blocks : ℕ) (places : List ℕ)
    (fit : fits (seen_durable lsn s containers bindings tasks clones copies) (Write n first blocks) places ≡ true) where
  abbrev d : Durable Entry
  d = seen_durable lsn s containers bindings tasks clones copies

  accepted : judge None (shape_of_tables (seen_durable lsn s containers bindings tasks clones copies)) (Write n first blocks) ≡ Accept
  accepted = fits_accepted (seen_durable lsn s containers bindings tasks clones copies) (Write n first blocks) places fit

  pub write_some : 1 ≤ blocks
  write_some = some_blocks (shape_of_tables d) n first blocks accepted

  pub write_few : first + blocks ≤ 2147483648
  write_few =
      let inside : first + blocks ≤ size_of (shape_of_tables d) n * s.geometry.chunk_blocks = blocks_inside (shape_of_tables d) n first blocks accepted in
      let few : size_of (shape_of_tables d) n ≤ 1048576 = size_few (shape_of_tables d) (kept (shape_of_tables d) (shape_rules d well.well)) n in
      let all : size_of (shape_of_tables d) n * s.geometry.chunk_blocks ≤ 2147483648 = blocks_few s.geometry.chunk_blocks (size_of (shape_of_tables d) n) s.geometry.chunk_size few in
      omega (arith, inside, all)

  pub write_touches : touched_indexes s.geometry.chunk_blocks first blocks ≡ numbers_from (touched_first s.geometry.chunk_blocks first) (touched_count s.geometry.chunk_blocks first blocks)
  write_touches = touched_are s.geometry.chunk_blocks first blocks write_some

  pub write_count : length places ≡ touched_count s.geometry.chunk_blocks first blocks
  write_count =
      (fits_parts d n first blocks places fit).0 ∙ ap (λ (is : List ℕ). length is) write_touches
      ∙ length-numbers (touched_first s.geometry.chunk_blocks first) (touched_count s.geometry.chunk_blocks first blocks)

  pub write_shape_stands : IsSome (volume_of (shape_of_tables (seen_durable lsn s containers bindings tasks clones copies)) n)
  write_shape_stands = volume_stands (shape_of_tables d) n first blocks accepted

  pub write_stands : IsSome (volume_in s n)
  write_stands = some_shape (volume_of (shape_of_tables d) n) (volume_of d n) (shape_found d n) write_shape_stands

  write_ends : touched_first s.geometry.chunk_blocks first + touched_count s.geometry.chunk_blocks first blocks ≤ size_of (shape_of_tables (seen_durable lsn s containers bindings tasks clones copies)) n
  write_ends =
      touched_end s.geometry.chunk_blocks (size_of (shape_of_tables d) n) first blocks (some_in_chunk s.geometry.chunk_blocks s.geometry.chunk_size) write_some
      (blocks_inside (shape_of_tables d) n first blocks accepted)

  pub write_inside : touched_first s.geometry.chunk_blocks first + length places ≤ size_in s n
  write_inside =
      let ends : touched_first s.geometry.chunk_blocks first + touched_count s.geometry.chunk_blocks first blocks ≤ size_of (shape_of_tables d) n = write_ends in
      let size : size_in s n ≡ size_of (shape_of_tables d) n = size_is d n in
      let count : length places ≡ touched_count s.geometry.chunk_blocks first blocks = write_count in
      omega (arith, ends, size, count)

  pub write_below : touched_first s.geometry.chunk_blocks first + length places < 4294967296
  write_below =
      let ends : touched_first s.geometry.chunk_blocks first + touched_count s.geometry.chunk_blocks first blocks ≤ size_of (shape_of_tables d) n = write_ends in
      let few : size_of (shape_of_tables d) n ≤ 1048576 = size_few (shape_of_tables d) (kept (shape_of_tables d) (shape_rules d well.well)) n in
      let count : length places ≡ touched_count s.geometry.chunk_blocks first blocks = write_count in
      omega (arith, ends, few, count)

  new_stamps : (from count : ℕ) → list_all (λ i. is_new_stamp s i (lsn + 1)) (numbers_from from count) ≡ true
  new_stamps from zero = refl
  new_stamps from (suc count) =
      and_both (is_new_stamp s from (lsn + 1)) _ (next_stamp lsn s containers bindings tasks clones copies held well from) (new_stamps (from + 1) count)

  -- the places may be put
  pub write_may : MayPut s n (touched_first s.geometry.chunk_blocks first) (lsn + 1) places
  write_may = record {
    standing = write_stands;
    within = write_inside;
    free = list_all-follows (is_fresh d) (is_shelf_free s) (λ p fresh. place_free lsn s containers bindings tasks clones copies held p well.fresh fresh) places
        ((fits_parts d n first blocks places fit).2);
    different = (fits_parts d n first blocks places fit).1;
    enough =
        let asked : length (touched_indexes s.geometry.chunk_blocks first blocks) ≤ free (shape_of_tables d) = enough_free (shape_of_tables d) n first blocks accepted in
        let same : length places ≡ length (touched_indexes s.geometry.chunk_blocks first blocks) = (fits_parts d n first blocks places fit).0 in
        let is : shelf_free s ≡ free (shape_of_tables d) = free_number lsn s containers bindings tasks clones copies held well in
        omega (arith, asked, same, is);
    fresh = well.fresh;
    stamps = new_stamps (touched_first s.geometry.chunk_blocks first) (length places);
  }

  -- what the shelf is afterwards is what the write makes of the tables
  pub write_seen : (s' : ShelfState) (rows : List ChargedContainer)
      → s' ≡ with_chunks s n (put_at (numbers_from (touched_first s.geometry.chunk_blocks first) (length places)) (placed_entries places (lsn + 1)))
      → plain_containers rows ≡ plain_containers containers
      → seen_durable (lsn + 1) s' rows bindings tasks clones copies ≡ replayed (seen_durable lsn s containers bindings tasks clones copies) (Write n first blocks) places
  unfolding replayed apply effect
  write_seen s' rows is same =
      let rest : numbers_from (touched_first s.geometry.chunk_blocks first) (length places) ≡ touched_indexes s.geometry.chunk_blocks first blocks =
      ap (numbers_from (touched_first s.geometry.chunk_blocks first)) write_count ∙ sym write_touches in
      ap (λ (t : ShelfState). seen_durable (lsn + 1) t rows bindings tasks clones copies) is
      ∙ ap (λ (ks : List Container). record (seen_durable (lsn + 1) (with_chunks s n (put_at (numbers_from (touched_first s.geometry.chunk_blocks first) (length places)) (placed_entries places (lsn + 1)))) rows bindings tasks clones copies) { containers = ks }) same
      ∙ ap (λ (is : List ℕ). seen_durable (lsn + 1) (with_chunks s n (put_at is (placed_entries places (lsn + 1)))) containers bindings tasks clones copies) rest

  pub write_next : lsn < 4611686018427387903
  unfolding room_checks
  write_next =
      leb-false 4611686018427387903 lsn (not_refused (nat_le 4611686018427387903 lsn) _ (passed_room None (shape_of_tables d) (Write n first blocks) accepted 0))

  write_forms : change_has_forms (Write n first blocks) ≡ true
  unfolding change_has_forms
  write_forms = refl

  -- the shelf afterwards, and what the tables keep
  module _ (s' : ShelfState)
      (shelf : s' ≡ with_chunks s n (put_at (numbers_from (touched_first s.geometry.chunk_blocks first) (length places)) (placed_entries places (lsn + 1)))) where
    abbrev more : ℕ
    more = unmapped_count (stamps_of (shape_of_tables (seen_durable lsn s containers bindings tasks clones copies)) n) (touched_indexes s.geometry.chunk_blocks first blocks)

    none : (b : Bool) → ◌≡◌ {A = ℕ} 0 (cond b 0 0)
    none true = refl
    none false = refl

    pub write_enough : allocated_in (chunks_in s n) ≤ charge (shape_of_tables (seen_durable lsn s containers bindings tasks clones copies)) (home_of (shape_of_tables (seen_durable lsn s containers bindings tasks clones copies)) n) + allocated_in (chunks_in s' n)
    write_enough =
        chunks_enough lsn s containers bindings tasks clones copies held well n (Write n first blocks) places fit more 0
        (λ k. refl) (λ k. none (home_of (shape_of_tables d) n == k)) (ap (λ b. cond b more 0) (eq-eqb n n refl)) refl refl write_forms
        s' _ shelf (λ rows same. write_seen s' rows shelf same)

    pub write_well : (rows : List ChargedContainer) (charged : ℕ) → rows ≡ with_charge containers (home_of (shape_of_tables (seen_durable lsn s containers bindings tasks clones copies)) n) charged
        → charged + allocated_in (chunks_in s n) ≡ charge (shape_of_tables (seen_durable lsn s containers bindings tasks clones copies)) (home_of (shape_of_tables (seen_durable lsn s containers bindings tasks clones copies)) n) + allocated_in (chunks_in s' n)
        → AreWell s' rows (seen_durable (lsn + 1) s' rows bindings tasks clones copies)
    write_well =
        chunks_well lsn s containers bindings tasks clones copies held well n (Write n first blocks) places fit more 0
        (λ k. refl) (λ k. none (home_of (shape_of_tables d) n == k)) (ap (λ b. cond b more 0) (eq-eqb n n refl)) refl refl write_forms
        s' _ shelf (λ rows same. write_seen s' rows shelf same)
