-- What an accepted UNMAP of tables needs of their shelf: the volume stands, and the ranges lie inside it; and what the tables
-- keep once the chunks are unmapped.
use Rattle.std.proofs.Common.{ℕ, ◌≡◌, ◌+◌, ◌≤◌, ◌<◌, ◌==◌, not, Bool, true, false, cond, List, [], None, refl, ap, ◌∙◌, arith}
use Rattle.std.specs.Prelude.{IsSome, is_none, nat_le, nat_lt}
use Rattle.std.specs.List.{list_any}
use Rattle.std.proofs.lemmas.Bool.{eq-eqb, le-leb, ltb-false, leb-false}
use Rattle.vv_flat.specs.State.{Container, Task, Durable, volume_of}
use Rattle.vv_flat.specs.Chunks.{Entry, shape_of_tables}
use Rattle.vv_flat.specs.Space.{charge}
use Rattle.vv_flat.specs.Refusals.{Accept, OutOfRange}
use Rattle.vv_flat.specs.Changes.{Unmap, judge, state_checks, room_checks, effect, apply, size_of, stamps_of, home_of}
use Rattle.vv_flat.specs.Fields.{change_has_forms}
use Rattle.vv_flat.specs.Replay.{fits, replayed}
use Rattle.vv_flat.proofs.Shares.{list_all-follows}
use Rattle.vv_flat.proofs.Verdicts.{passed_state, passed_room, not_refused}
use Rattle.vv_flat.proofs.Kept.{kept}
use Rattle.vv_flat.proofs.KeepRules.{fits_accepted}
use Rattle.vv_laws.specs.Counts.{unmaps_count}
use Rattle.vv_laws.proofs.WellFormed.{shape_rules}
use Rattle.vv_container.specs.Table.{ChargedContainer, with_charge}
use Rattle.vv_bind.specs.Table.{BindState}
use Rattle.vv_vols.specs.Shelf.{ShelfState, volume_in, size_in, chunks_in, allocated_of as allocated_in}
use Rattle.vv_vols.proofs.Kept.{none_all, not_false}
use Rattle.vv_tables.specs.declared.rows.CloneRow.{CloneRow}
use Rattle.vv_tables.specs.declared.rows.CopyRow.{CopyRow}
use Rattle.vv_tables.specs.Seen.{plain_containers, seen_durable}
use Rattle.vv_tables.specs.Kept.{AreHeld, AreWell}
use Rattle.vv_tables.specs.Unmapping.{are_inside, with_unmapped}
use Rattle.vv_tables.proofs.AcceptedWrites.{is_there, size_few}
use Rattle.vv_tables.proofs.ChunkChanges.{chunks_enough, chunks_well, chunks_go}
use Rattle.vv_tables.proofs.ShapeVolumes.{shape_found, size_is}
use Rattle.vv_tables.proofs.ShelfWrites.{some_shape}

-- ---- what the checks of an UNMAP say
module _ (d : Durable ℕ) (n : ℕ) (ranges : List (ℕ × ℕ)) (accepted : judge None d (Unmap n ranges) ≡ Accept) where
  unmap_shape_stands : IsSome (volume_of d n)
  unfolding state_checks
  unmap_shape_stands = is_there (volume_of d n) (not_refused (is_none (volume_of d n)) _ (passed_state None d (Unmap n ranges) accepted 0))

  ranges_inside : are_inside (size_of d n) ranges ≡ true
  unfolding state_checks
  ranges_inside =
      list_all-follows (λ (r : ℕ × ℕ). not (nat_lt (size_of d n) (r.0 + r.1))) (λ (r : ℕ × ℕ). nat_le (r.0 + r.1) (size_of d n))
      (λ r e. le-leb (r.0 + r.1) (size_of d n) (ltb-false (size_of d n) (r.0 + r.1) (not_false (nat_lt (size_of d n) (r.0 + r.1)) e))) ranges
      (none_all (λ (r : ℕ × ℕ). nat_lt (size_of d n) (r.0 + r.1)) ranges (ap not (not_refused (list_any (λ (r : ℕ × ℕ). nat_lt (size_of d n) (r.0 + r.1)) ranges) OutOfRange (passed_state None d (Unmap n ranges) accepted 1))))

  next_number : d.lsn < 4611686018427387903
  unfolding room_checks
  next_number = leb-false 4611686018427387903 d.lsn (not_refused (nat_le 4611686018427387903 d.lsn) _ (passed_room None d (Unmap n ranges) accepted 0))

-- ---- over the shelf of tables
module _ (lsn : ℕ) (s : ShelfState) (containers : List ChargedContainer) (bindings : BindState) (tasks : List Task) (clones : List CloneRow) (copies : List CopyRow) (held : AreHeld s clones copies)
    (well : AreWell s containers (seen_durable lsn s containers bindings tasks clones copies)) (n : ℕ) (ranges : List (ℕ × ℕ))
    (fit : fits (seen_durable lsn s containers bindings tasks clones copies) (Unmap n ranges) [] ≡ true) where
  abbrev d : Durable Entry
  d = seen_durable lsn s containers bindings tasks clones copies

  accepted : judge None (shape_of_tables (seen_durable lsn s containers bindings tasks clones copies)) (Unmap n ranges) ≡ Accept
  accepted = fits_accepted (seen_durable lsn s containers bindings tasks clones copies) (Unmap n ranges) [] fit

  pub unmap_next : lsn < 4611686018427387903
  unmap_next = next_number (shape_of_tables d) n ranges accepted

  pub unmap_home_stands : IsSome (volume_of (shape_of_tables (seen_durable lsn s containers bindings tasks clones copies)) n)
  unmap_home_stands = unmap_shape_stands (shape_of_tables d) n ranges accepted

  pub unmap_stands : IsSome (volume_in s n)
  unmap_stands = some_shape (volume_of (shape_of_tables d) n) (volume_of d n) (shape_found d n) unmap_home_stands

  pub unmap_inside : are_inside (size_in s n) ranges ≡ true
  unmap_inside = ap (λ k. are_inside k ranges) (size_is d n) ∙ ranges_inside (shape_of_tables d) n ranges accepted

  pub unmap_few : size_in s n < 4294967296
  unmap_few =
      let few : size_of (shape_of_tables d) n ≤ 1048576 = size_few (shape_of_tables d) (kept (shape_of_tables d) (shape_rules d well.well)) n in
      let size : size_in s n ≡ size_of (shape_of_tables d) n = size_is d n in
      omega (arith, few, size)

  -- what the shelf is afterwards is what the UNMAP makes of the tables
  pub unmap_seen : (s' : ShelfState) (rows : List ChargedContainer) → s' ≡ with_unmapped s n ranges → plain_containers rows ≡ plain_containers containers
      → seen_durable (lsn + 1) s' rows bindings tasks clones copies ≡ replayed (seen_durable lsn s containers bindings tasks clones copies) (Unmap n ranges) []
  unfolding replayed apply effect
  unmap_seen s' rows is same =
      ap (λ (t : ShelfState). seen_durable (lsn + 1) t rows bindings tasks clones copies) is
      ∙ ap (λ (ks : List Container). record (seen_durable (lsn + 1) (with_unmapped s n ranges) rows bindings tasks clones copies) { containers = ks }) same

  unmap_forms : change_has_forms (Unmap n ranges) ≡ true
  unfolding change_has_forms
  unmap_forms = refl

  -- the shelf afterwards, and what the tables keep
  module _ (s' : ShelfState) (shelf : s' ≡ with_unmapped s n ranges) where
    abbrev less : ℕ
    less = unmaps_count ranges (stamps_of (shape_of_tables (seen_durable lsn s containers bindings tasks clones copies)) n)

    nothing : (b : Bool) → ◌≡◌ {A = ℕ} 0 (cond b 0 0)
    nothing true = refl
    nothing false = refl

    pub unmap_enough : allocated_in (chunks_in s n) ≤ charge (shape_of_tables (seen_durable lsn s containers bindings tasks clones copies)) (home_of (shape_of_tables (seen_durable lsn s containers bindings tasks clones copies)) n) + allocated_in (chunks_in s' n)
    unmap_enough =
        chunks_enough lsn s containers bindings tasks clones copies held well n (Unmap n ranges) [] fit 0 less
        (λ k. nothing (home_of (shape_of_tables d) n == k)) (λ k. refl) refl (ap (λ b. cond b less 0) (eq-eqb n n refl)) refl unmap_forms
        s' _ shelf (λ rows same. unmap_seen s' rows shelf same)

    pub unmap_well : (rows : List ChargedContainer) (charged : ℕ) → rows ≡ with_charge containers (home_of (shape_of_tables (seen_durable lsn s containers bindings tasks clones copies)) n) charged
        → charged + allocated_in (chunks_in s n) ≡ charge (shape_of_tables (seen_durable lsn s containers bindings tasks clones copies)) (home_of (shape_of_tables (seen_durable lsn s containers bindings tasks clones copies)) n) + allocated_in (chunks_in s' n)
        → AreWell s' rows (seen_durable (lsn + 1) s' rows bindings tasks clones copies)
    unmap_well =
        chunks_well lsn s containers bindings tasks clones copies held well n (Unmap n ranges) [] fit 0 less
        (λ k. nothing (home_of (shape_of_tables d) n == k)) (λ k. refl) refl (ap (λ b. cond b less 0) (eq-eqb n n refl)) refl unmap_forms
        s' _ shelf (λ rows same. unmap_seen s' rows shelf same)

    pub unmap_goes : allocated_in (chunks_in s' n) + unmaps_count ranges (stamps_of (shape_of_tables (seen_durable lsn s containers bindings tasks clones copies)) n) ≡ allocated_in (chunks_in s n) + 0
    unmap_goes =
        chunks_go lsn s containers bindings tasks clones copies held well n (Unmap n ranges) [] fit 0 less
        (λ k. nothing (home_of (shape_of_tables d) n == k)) (λ k. refl) refl (ap (λ b. cond b less 0) (eq-eqb n n refl)) refl unmap_forms
        s' _ shelf (λ rows same. unmap_seen s' rows shelf same)
