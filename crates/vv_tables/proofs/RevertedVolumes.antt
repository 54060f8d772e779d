-- Tables after a volume went back to a snapshot. What the shelf and the containers become is the change, and all that
-- tables keep is kept.
use Rattle.std.proofs.Common.{ℕ, ◌≡◌, ◌+◌, ◌-◌, ◌^◌, ◌<◌, ◌≤◌, ◌==◌, true, false, cond, List, [], Option, Some, None, refl, sym, ap, subst, ◌∙◌, arith}
use Rattle.std.specs.Prelude.{IsSome, is_some, is_none, vec_capacity}
use Rattle.std.proofs.lemmas.Bool.{eq-eqb}
use Rattle.vv_units.specs.declared.field.Field.TheVariants.{Vvol as in_vvol, Snapshot as in_snapshot}
use Rattle.vv_flat.specs.Lists.{if_found}
use Rattle.vv_flat.specs.State.{Volume, Durable, volume_of, container_of}
use Rattle.vv_flat.specs.Chunks.{Entry, shape_of_tables}
use Rattle.vv_flat.specs.Space.{charge, entries}
use Rattle.vv_flat.specs.Refusals.{NotFound}
use Rattle.vv_flat.specs.Changes.{Revert, state_checks, size_of, allocated_of, home_of, effect, apply, with_volume}
use Rattle.vv_flat.specs.Replay.{fits, replayed}
use Rattle.vv_flat.specs.Fields.{change_has_forms}
use Rattle.vv_flat.proofs.KeepRules.{fits_accepted}
use Rattle.vv_flat.proofs.NewEntries.{eq_turn}
use Rattle.vv_flat.proofs.Verdicts.{passed_state, not_refused}
use Rattle.vv_laws.specs.Counts.{charge_added, charge_taken}
use Rattle.vv_laws.proofs.UsedCounts.{stands_too}
use Rattle.vv_container.specs.Table.{ChargedContainer, with_charge, row_of}
use Rattle.vv_vols.specs.Shelf.{ShelfState, volume_in, size_in, chunks_in, shelf_entries, allocated_of as allocated_in}
use Rattle.vv_vols.specs.Calls.{with_changed}
use Rattle.vv_vols.specs.Rows.{ShelfView, RoomView, IsListRoom}
use Rattle.vv_snap.specs.Copies.{with_reverted}
use Rattle.vv_snap.proofs.Reverted.{reverted_found, reverted_noted}
use Rattle.vv_tables.specs.declared.tables.Tables.TheInside.{Inside}
use Rattle.vv_tables.specs.CopyRooms.{size_in_tables}
use Rattle.vv_tables.specs.Homes.{home_in, charge_in}
use Rattle.vv_tables.specs.Kept.{AreWell, IsTables}
use Rattle.vv_tables.specs.Seen.{TablesView, seen_durable}
use Rattle.vv_tables.proofs.Accepted.{entries_room, charge_small}
use Rattle.vv_tables.proofs.ChargedHomes.{home_stands, home_is, shape_home, home_row, home_charge}
use Rattle.vv_tables.proofs.Containers.{plain_charged}
use Rattle.vv_tables.proofs.FoundVolumes.{Found, some_found}
use Rattle.vv_tables.proofs.HeldKept.{same_held}
use Rattle.vv_tables.proofs.Inner.{durable_of, KeepsAll}
use Rattle.vv_tables.proofs.ShapeVolumes.{size_is, allocated_is}
use Rattle.vv_tables.proofs.ShelfCounts.{shelf_entries_are}
use Rattle.vv_tables.proofs.Stepped.{stepped_charge, recharged, same_reserved, stepped_well}
use Rattle.vv_tables.proofs.StandingVolumes.{rows_rise}

revert_forms : (n snapshot : ℕ) → change_has_forms (Revert n snapshot) ≡ true
unfolding change_has_forms
revert_forms n snapshot = refl

-- a revert over tables that have the snapshot
revert_is : (d : Durable Entry) (n snapshot : ℕ) (w : Volume Entry) → volume_of d snapshot ≡ Some w
    → replayed d (Revert n snapshot) [] ≡ record (with_volume d n (λ (v : Volume Entry). record v { chunks = w.chunks; reverted = d.lsn + 1 })) { lsn = d.lsn + 1 }
unfolding replayed apply effect
revert_is d n snapshot w found =
    ap (λ (o : Option (Volume Entry)). let after : Durable Entry =
    record (if_found o (λ (u : Volume Entry). with_volume d n (λ (v : Volume Entry). record v { chunks = u.chunks; reverted = d.lsn + 1 })) d) { lsn = d.lsn + 1 } in after) found

module _ (i : Inside) (all : KeepsAll i) (n snapshot : ℕ) (fit : fits (durable_of i) (Revert n snapshot) [] ≡ true) where
  here : Found n i.shelf.shelf
  unfolding state_checks
  here =
      some_found n i.shelf.shelf (stands_too (durable_of i) n (not_refused (is_none (volume_of (shape_of_tables (durable_of i)) n)) (NotFound in_vvol)
      (passed_state None (shape_of_tables (durable_of i)) (Revert n snapshot) (fits_accepted (durable_of i) (Revert n snapshot) [] fit) 0)))

  source : Found snapshot i.shelf.shelf
  unfolding state_checks
  source =
      some_found snapshot i.shelf.shelf (stands_too (durable_of i) snapshot (not_refused (is_none (volume_of (shape_of_tables (durable_of i)) snapshot)) (NotFound in_snapshot)
      (passed_state None (shape_of_tables (durable_of i)) (Revert n snapshot) (fits_accepted (durable_of i) (Revert n snapshot) [] fit) 1)))

  -- both volumes stand
  pub volume_stands : IsSome (volume_in i.shelf.shelf n)
  volume_stands = ap (λ (o : Option (Volume Entry)). is_some o) here.is

  pub snapshot_stands : IsSome (volume_in i.shelf.shelf snapshot)
  snapshot_stands = ap (λ (o : Option (Volume Entry)). is_some o) source.is

  after : Durable Entry
  after = record (with_volume (durable_of i) n (λ (v : Volume Entry). record v { chunks = source.volume.chunks; reverted = i.lsn + 1 })) { lsn = i.lsn + 1 }

  after_is : replayed (durable_of i) (Revert n snapshot) [] ≡ after
  unfolding after
  after_is = revert_is (durable_of i) n snapshot source.volume source.is

  -- there is room for the entries
  pub few_entries : shelf_entries i.shelf.shelf + size_in i.shelf.shelf snapshot ≤ i.shelf.shelf.geometry.map_chunks + size_in i.shelf.shelf n
  few_entries =
      let d : Durable Entry = durable_of i in
      let room : entries d + size_of (shape_of_tables d) snapshot ≤ d.geometry.map_chunks + size_of (shape_of_tables d) n =
      entries_room d (Revert n snapshot) [] all.kept.well (revert_forms n snapshot) fit (ap (λ (e : Durable Entry). e.geometry) after_is ∙ (unfold after in refl)) in
      let same : shelf_entries i.shelf.shelf ≡ entries d = shelf_entries_are i.lsn i.shelf.shelf i.containers i.bindings i.tasks i.clones.items i.copies.items all.held in
      let size : size_in i.shelf.shelf n ≡ size_of (shape_of_tables d) n = size_is d n in
      let other : size_in i.shelf.shelf snapshot ≡ size_of (shape_of_tables d) snapshot = size_is d snapshot in
      omega (arith, room, same, size, other)

  pub room_list : (t : TablesView) (room : RoomView) → durable_of i ≡ t.durable → IsListRoom (size_in_tables t.durable snapshot) room
      → IsListRoom (size_in i.shelf.shelf snapshot) room
  room_list t room same enough =
      subst (λ k. IsListRoom k room) (sym (size_is (durable_of i) snapshot ∙ ap (λ (d : Durable Entry). size_in_tables d snapshot) same)) enough

  -- The charge of the volume's container: less what was allocated, and more what the snapshot has.
  home : ℕ
  home = home_in i.shelf.shelf n

  less : ℕ
  less = allocated_in (chunks_in i.shelf.shelf n)

  more : ℕ
  more = allocated_in (chunks_in i.shelf.shelf snapshot)

  less_is : less ≡ allocated_of (shape_of_tables (durable_of i)) n
  unfolding less
  less_is = allocated_is (durable_of i) n

  more_is : more ≡ allocated_of (shape_of_tables (durable_of i)) snapshot
  unfolding more
  more_is = allocated_is (durable_of i) snapshot

  shape_home_is : home_of (shape_of_tables (durable_of i)) n ≡ home
  unfolding home
  shape_home_is = shape_home i all.kept n here.volume here.is ∙ sym (home_is i all.kept n here.volume here.is)

  at_home : (k : ℕ) → cond (home_of (shape_of_tables (durable_of i)) n == home) k 0 ≡ k
  at_home k = ap (λ b. cond b k 0) (eq-eqb (home_of (shape_of_tables (durable_of i)) n) home shape_home_is)

  elsewhere : (m k : ℕ) → (m == home) ≡ false → cond (home_of (shape_of_tables (durable_of i)) n == m) k 0 ≡ 0
  elsewhere m k apart = ap (λ b. cond b k 0) (ap (λ h. h == m) shape_home_is ∙ eq_turn home m ∙ apart)

  added_is : charge_added (shape_of_tables (durable_of i)) (Revert n snapshot) home ≡ more
  added_is = at_home (allocated_of (shape_of_tables (durable_of i)) snapshot) ∙ sym more_is

  taken_is : charge_taken (shape_of_tables (durable_of i)) (Revert n snapshot) home ≡ less
  taken_is = at_home (allocated_of (shape_of_tables (durable_of i)) n) ∙ sym less_is

  pub container_row : IsSome (row_of i.containers (home_in i.shelf.shelf n))
  container_row = home_row i all.kept n here.volume here.is

  home_now : charge_in i.containers home ≡ charge (shape_of_tables (durable_of i)) home
  unfolding home
  home_now = home_charge i all.kept n here.volume here.is

  pub charge_is_small : charge_in i.containers (home_in i.shelf.shelf n) < 2 ^ 32
  unfolding home
  charge_is_small =
      let there : IsSome (container_of (durable_of i) home) =
      subst (λ k. IsSome (container_of (durable_of i) k)) (sym (home_is i all.kept n here.volume here.is)) (home_stands i all.kept n here.volume here.is) in
      let small : charge (shape_of_tables (durable_of i)) home < 2 ^ 32 = charge_small (durable_of i) all.kept.well home there in
      let now : charge_in i.containers home ≡ charge (shape_of_tables (durable_of i)) home = home_now in
      omega (arith, small, now)

  goes : charge (shape_of_tables (replayed (durable_of i) (Revert n snapshot) [])) home + less ≡ charge_in i.containers home + more
  goes =
      let go : charge (shape_of_tables (replayed (durable_of i) (Revert n snapshot) [])) home + charge_taken (shape_of_tables (durable_of i)) (Revert n snapshot) home
      ≡ charge (shape_of_tables (durable_of i)) home + charge_added (shape_of_tables (durable_of i)) (Revert n snapshot) home =
      stepped_charge (durable_of i) (replayed (durable_of i) (Revert n snapshot) []) (Revert n snapshot) [] all.kept.well fit refl home in
      omega (arith, go, added_is, taken_is, home_now)

  pub charge_counted : allocated_in (chunks_in i.shelf.shelf n) ≤ charge_in i.containers (home_in i.shelf.shelf n) + allocated_in (chunks_in i.shelf.shelf snapshot)
  unfolding home less more
  charge_counted =
      let go : charge (shape_of_tables (replayed (durable_of i) (Revert n snapshot) [])) home + less ≡ charge_in i.containers home + more = goes in
      omega (arith, go)

  -- the shelf and the containers afterwards
  abbrev reverted_shelf : ShelfState
  reverted_shelf = with_changed (with_reverted i.shelf.shelf n snapshot) n (λ (v : Volume Entry). record v { reverted = i.lsn + 1 })

  abbrev reverted_rows : List ChargedContainer
  reverted_rows =
      with_charge i.containers (home_in i.shelf.shelf n)
      (charge_in i.containers (home_in i.shelf.shelf n) + allocated_in (chunks_in i.shelf.shelf snapshot) - allocated_in (chunks_in i.shelf.shelf n))

  made_shelf : ShelfState
  made_shelf = with_changed i.shelf.shelf n (λ (v : Volume Entry). record v { chunks = source.volume.chunks; reverted = i.lsn + 1 })

  shelf_is : reverted_shelf ≡ made_shelf
  unfolding made_shelf
  shelf_is = reverted_noted i.shelf.shelf n snapshot source.volume source.is (i.lsn + 1)

  -- .. and between the two calls the volume stands
  pub still_stands : (s : ShelfState) → s ≡ with_reverted i.shelf.shelf n snapshot → IsSome (volume_in s n)
  still_stands s is =
      ap (λ (t : ShelfState). is_some (volume_in t n)) is
      ∙ ap (λ (o : Option (Volume Entry)). is_some o) (reverted_found i.shelf.shelf n snapshot source.volume source.is here.volume here.is)

  reverted_durable : seen_durable (i.lsn + 1) reverted_shelf reverted_rows i.bindings i.tasks i.clones.items i.copies.items ≡ replayed (durable_of i) (Revert n snapshot) []
  unfolding made_shelf after
  reverted_durable =
      let rows : seen_durable (i.lsn + 1) made_shelf reverted_rows i.bindings i.tasks i.clones.items i.copies.items ≡ after =
      ap (λ ks. let changed : Durable Entry =
      record (with_volume (durable_of i) n (λ (v : Volume Entry). record v { chunks = source.volume.chunks; reverted = i.lsn + 1 })) { lsn = i.lsn + 1; containers = ks } in changed)
      (plain_charged i.containers (home_in i.shelf.shelf n)
      (charge_in i.containers (home_in i.shelf.shelf n) + allocated_in (chunks_in i.shelf.shelf snapshot) - allocated_in (chunks_in i.shelf.shelf n))) in
      ap (λ (s : ShelfState). seen_durable (i.lsn + 1) s reverted_rows i.bindings i.tasks i.clones.items i.copies.items) shelf_is
      ∙ rows
      ∙ sym after_is

  reverted_well : AreWell reverted_shelf reverted_rows (seen_durable (i.lsn + 1) reverted_shelf reverted_rows i.bindings i.tasks i.clones.items i.copies.items)
  unfolding home less more
  reverted_well =
      let d : Durable Entry = durable_of i in
      let e : Durable Entry = seen_durable (i.lsn + 1) reverted_shelf reverted_rows i.bindings i.tasks i.clones.items i.copies.items in
      let counted : less ≤ charge_in i.containers home + more = charge_counted in
      let exact : charge_in i.containers home + more - less + charge_taken (shape_of_tables d) (Revert n snapshot) home
      ≡ charge (shape_of_tables d) home + charge_added (shape_of_tables d) (Revert n snapshot) home =
      omega (arith, counted, added_is, taken_is, home_now) in
      let reserve : reverted_shelf.reserved ≡ i.shelf.shelf.reserved = ap (λ (s : ShelfState). s.reserved) shelf_is ∙ (unfold made_shelf in refl) in
      let fresh : reverted_shelf.fresh ≡ i.shelf.shelf.fresh = ap (λ (s : ShelfState). s.fresh) shelf_is ∙ (unfold made_shelf in refl) in
      stepped_well d e (Revert n snapshot) [] all.kept.well fit reverted_durable reverted_shelf reverted_rows (revert_forms n snapshot)
      (recharged d e (Revert n snapshot) [] all.kept.well fit reverted_durable i.containers home (charge_in i.containers home + more - less) (rows_rise (durable_of i) i.containers refl all.kept.well) exact
      (λ k apart. elsewhere k (allocated_of (shape_of_tables d) snapshot) apart ∙ sym (elsewhere k (allocated_of (shape_of_tables d) n) apart)) all.kept.charges)
      (same_reserved d e (Revert n snapshot) [] all.kept.well fit reverted_durable reverted_shelf refl (reserve ∙ all.kept.reserved))
      (fresh ∙ all.kept.fresh)

  -- what the calls on the shelf and the containers leave
  module _ (between view : ShelfView) (rows : List ChargedContainer) (first : between.shelf ≡ with_reverted i.shelf.shelf n snapshot)
      (second : view ≡ record between { shelf = with_changed between.shelf n (λ (v : Volume Entry). record v { reverted = i.lsn + 1 }) })
      (charged : rows ≡ reverted_rows) where
    shelf : view.shelf ≡ reverted_shelf
    shelf = ap (λ (v : ShelfView). v.shelf) second ∙ ap (λ (s : ShelfState). with_changed s n (λ (v : Volume Entry). record v { reverted = i.lsn + 1 })) first

    abbrev seen : ShelfState → List ChargedContainer → Durable Entry
    seen s ks = seen_durable (i.lsn + 1) s ks i.bindings i.tasks i.clones.items i.copies.items

    pub revert_durable : seen_durable (i.lsn + 1) view.shelf rows i.bindings i.tasks i.clones.items i.copies.items ≡ replayed (durable_of i) (Revert n snapshot) []
    revert_durable =
        ap (λ (s : ShelfState). seen s rows) shelf
        ∙ ap (λ (ks : List ChargedContainer). seen reverted_shelf ks) charged
        ∙ reverted_durable

    well : AreWell view.shelf rows (seen view.shelf rows)
    well =
        subst (λ (s : ShelfState). AreWell s rows (seen s rows)) (sym shelf)
        (subst (λ (ks : List ChargedContainer). AreWell reverted_shelf ks (seen reverted_shelf ks)) (sym charged) reverted_well)

    pub revert_keeps : IsTables i.geometry (i.lsn + 1) view rows i.bindings i.tasks i.clones.items i.copies.items (vec_capacity i.clones) (vec_capacity i.copies)
    revert_keeps =
        record {
          geometry_is = all.geometry_is ∙ sym (ap (λ (s : ShelfState). s.geometry) (shelf ∙ shelf_is) ∙ (unfold made_shelf in refl));
          kept = well;
          held = same_held i.shelf.shelf view.shelf i.clones.items i.copies.items (ap (λ (s : ShelfState). s.held) (shelf ∙ shelf_is) ∙ (unfold made_shelf in refl)) all.held;
          clone_rows = all.clone_rows;
          copy_rows = all.copy_rows;
        }
