-- A change of the chunks of one volume leaves tables that keep what tables keep, once the charge of the volume's container
-- goes by how many chunks of the volume are allocated.
use Rattle.std.proofs.Common.{ℕ, ◌≡◌, ◌+◌, ◌≤◌, true, List, refl, sym, ap, ◌∙◌, subst, arith}
use Rattle.vv_flat.specs.State.{Task, Durable}
use Rattle.vv_flat.specs.Chunks.{Entry, shape_of_tables}
use Rattle.vv_flat.specs.Space.{charge}
use Rattle.vv_flat.specs.Changes.{Change, home_of, allocated_of}
use Rattle.vv_flat.specs.Replay.{fits, replayed}
use Rattle.vv_flat.specs.Fields.{change_has_forms}
use Rattle.vv_laws.specs.Counts.{charge_added, charge_taken, allocated_added, allocated_taken, charged_at, reserved_added, reserved_taken}
use Rattle.vv_container.specs.Table.{ChargedContainer, with_charge}
use Rattle.vv_bind.specs.Table.{BindState}
use Rattle.vv_vols.specs.Shelf.{ShelfState, chunks_in, allocated_of as allocated_in}
use Rattle.vv_vols.specs.Calls.{with_chunks}
use Rattle.vv_tables.specs.declared.rows.CloneRow.{CloneRow}
use Rattle.vv_tables.specs.declared.rows.CopyRow.{CopyRow}
use Rattle.vv_tables.specs.Seen.{plain_containers, seen_durable}
use Rattle.vv_tables.specs.Kept.{AreHeld, AreWell, AreCharged}
use Rattle.vv_tables.proofs.Containers.{plain_charged}
use Rattle.vv_tables.proofs.Recharges.{charge_enough, home_recharged, allocated_goes}
use Rattle.vv_tables.proofs.ShapeVolumes.{allocated_is}
use Rattle.vv_tables.proofs.StandingVolumes.{rows_rise}
use Rattle.vv_tables.proofs.Stepped.{stepped_well, same_reserved}

module _ (lsn : ℕ) (s : ShelfState) (containers : List ChargedContainer) (bindings : BindState) (tasks : List Task) (clones : List CloneRow) (copies : List CopyRow) (held : AreHeld s clones copies)
    (well : AreWell s containers (seen_durable lsn s containers bindings tasks clones copies))
    (n : ℕ) (change : Change) (places : List ℕ) (fit : fits (seen_durable lsn s containers bindings tasks clones copies) change places ≡ true)
    (more less : ℕ)
    (added : (k : ℕ) → charge_added (shape_of_tables (seen_durable lsn s containers bindings tasks clones copies)) change k ≡ charged_at (shape_of_tables (seen_durable lsn s containers bindings tasks clones copies)) n k more)
    (taken : (k : ℕ) → charge_taken (shape_of_tables (seen_durable lsn s containers bindings tasks clones copies)) change k ≡ charged_at (shape_of_tables (seen_durable lsn s containers bindings tasks clones copies)) n k less)
    (allocates : allocated_added (shape_of_tables (seen_durable lsn s containers bindings tasks clones copies)) change n ≡ more)
    (unmaps : allocated_taken (shape_of_tables (seen_durable lsn s containers bindings tasks clones copies)) change n ≡ less)
    (reserves : reserved_added (shape_of_tables (seen_durable lsn s containers bindings tasks clones copies)) change ≡ reserved_taken (shape_of_tables (seen_durable lsn s containers bindings tasks clones copies)) change)
    (forms : change_has_forms change ≡ true)
    (s' : ShelfState) (f : List Entry → List Entry) (shelf : s' ≡ with_chunks s n f)
    (goes : (rows : List ChargedContainer) → plain_containers rows ≡ plain_containers containers
    → seen_durable (lsn + 1) s' rows bindings tasks clones copies ≡ replayed (seen_durable lsn s containers bindings tasks clones copies) change places) where
  abbrev d : Durable Entry
  d = seen_durable lsn s containers bindings tasks clones copies

  -- the charge is enough for what is taken from it
  pub chunks_enough : allocated_in (chunks_in s n) ≤ charge (shape_of_tables (seen_durable lsn s containers bindings tasks clones copies)) (home_of (shape_of_tables (seen_durable lsn s containers bindings tasks clones copies)) n) + allocated_in (chunks_in s' n)
  chunks_enough =
      let d' : Durable Entry = seen_durable (lsn + 1) s' containers bindings tasks clones copies in
      let enough : allocated_of (shape_of_tables d) n ≤ charge (shape_of_tables d) (home_of (shape_of_tables d) n) + allocated_of (shape_of_tables d') n =
      charge_enough d d' change places well.well fit (goes containers refl) n more less added taken allocates unmaps in
      let before : allocated_in (chunks_in s n) ≡ allocated_of (shape_of_tables d) n = allocated_is d n in
      let after : allocated_in (chunks_in s' n) ≡ allocated_of (shape_of_tables d') n = allocated_is d' n in
      omega (arith, enough, before, after)

  -- with the new charge the tables are well
  pub chunks_well : (rows : List ChargedContainer) (charged : ℕ) → rows ≡ with_charge containers (home_of (shape_of_tables (seen_durable lsn s containers bindings tasks clones copies)) n) charged
      → charged + allocated_in (chunks_in s n) ≡ charge (shape_of_tables (seen_durable lsn s containers bindings tasks clones copies)) (home_of (shape_of_tables (seen_durable lsn s containers bindings tasks clones copies)) n) + allocated_in (chunks_in s' n)
      → AreWell s' rows (seen_durable (lsn + 1) s' rows bindings tasks clones copies)
  chunks_well rows charged is exact =
      let home : ℕ = home_of (shape_of_tables d) n in
      let d' : Durable Entry = seen_durable (lsn + 1) s' rows bindings tasks clones copies in
      let same : plain_containers rows ≡ plain_containers containers = ap plain_containers is ∙ plain_charged containers home charged in
      let step : d' ≡ replayed d change places = goes rows same in
      let before : allocated_in (chunks_in s n) ≡ allocated_of (shape_of_tables d) n = allocated_is d n in
      let after : allocated_in (chunks_in s' n) ≡ allocated_of (shape_of_tables d') n = allocated_is d' n in
      let charges : AreCharged d' (with_charge containers home charged) =
      home_recharged d d' change places well.well fit step n more less added taken allocates unmaps containers charged (rows_rise d containers refl well.well) well.charges (omega (arith, exact, before, after)) in
      stepped_well d d' change places well.well fit step s' rows forms (subst (λ (rs : List ChargedContainer). AreCharged d' rs) (sym is) charges)
      (same_reserved d d' change places well.well fit step s' reserves (ap (λ (t : ShelfState). t.reserved) shelf ∙ well.reserved))
      (ap (λ (t : ShelfState). t.fresh) shelf ∙ well.fresh)

  -- how many chunks of the volume are allocated
  pub chunks_go : allocated_in (chunks_in s' n) + less ≡ allocated_in (chunks_in s n) + more
  chunks_go =
      let d' : Durable Entry = seen_durable (lsn + 1) s' containers bindings tasks clones copies in
      let counts : allocated_of (shape_of_tables d') n + less ≡ allocated_of (shape_of_tables d) n + more =
      allocated_goes d d' change places well.well fit (goes containers refl) n more less added taken allocates unmaps in
      let before : allocated_in (chunks_in s n) ≡ allocated_of (shape_of_tables d) n = allocated_is d n in
      let after : allocated_in (chunks_in s' n) ≡ allocated_of (shape_of_tables d') n = allocated_is d' n in
      omega (arith, counts, before, after)
