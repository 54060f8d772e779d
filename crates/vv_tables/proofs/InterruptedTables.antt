-- The tables once all running tasks are interrupted: no list is held, nothing is reserved, and each container is charged for
-- its volumes alone.
use Rattle.std.proofs.Common.{ℕ, ◌≡◌, ◌+◌, ◌-◌, ◌==◌, ◌&&◌, not, Bool, true, false, cond, List, [], ◌∷◌, map, sum_by, slice_index_or, refl, sym, ap, ◌∙◌, arith}
use Rattle.std.proofs.lemmas.List.Sums.{sum_by-cons}
use Rattle.vv_units.specs.declared.geometry.Geometry.{Geometry}
use Rattle.vv_units.specs.declared.volume.TaskState.TheVariants.{Interrupted}
use Rattle.vv_flat.specs.State.{Container, Volume, Task, RunningClone, RunningCopy, Durable, map_volume}
use Rattle.vv_flat.specs.Chunks.{Entry, shape_of_tables}
use Rattle.vv_flat.specs.Space.{is_running, is_clone, allocated_count, allocating_for, charge, reserved}
use Rattle.vv_flat.specs.Restart.{interrupted_task, interrupted_durable}
use Rattle.vv_flat.specs.WellFormed.{is_well_formed}
use Rattle.vv_laws.proofs.WellFormed.{interruption_well}
use Rattle.vv_container.specs.Table.{ChargedContainer}
use Rattle.vv_bind.specs.Table.{BindState}
use Rattle.vv_vols.specs.Shelf.{HeldList, ShelfState}
use Rattle.vv_vols.specs.Calls.{with_reserve}
use Rattle.vv_vols.specs.Rows.{ShelfView}
use Rattle.vv_tables.specs.declared.rows.CloneRow.{CloneRow}
use Rattle.vv_tables.specs.declared.rows.CopyRow.{CopyRow}
use Rattle.vv_tables.specs.Counts.{charged_for, allocated_for, AreChargedFor}
use Rattle.vv_tables.specs.Seen.{plain_containers, seen_durable}
use Rattle.vv_tables.specs.Kept.{AreCharged, AreHeld, IsTables}
use Rattle.vv_tables.proofs.HeldSums.{sum_same, sum_mapped}

abbrev stamp : Entry → ℕ
stamp e = e.stamp

abbrev reserves : Task → ℕ
reserves t = cond (is_running t && is_clone t.job) (t.total - t.done) 0

nothing_left : (t : Task) → reserves (interrupted_task t) ≡ 0
nothing_left t = go (is_running t) refl
  where
    go : (b : Bool) → is_running t ≡ b → reserves (cond b (record t { state = Interrupted }) t) ≡ 0
    go true runs = refl
    go false runs = ap (λ b. cond (b && is_clone t.job) (t.total - t.done) 0) runs

none_left : (tasks : List Task) → sum_by reserves (map interrupted_task tasks) ≡ 0
none_left [] = refl
none_left (t ∷ ts) =
    let c : sum_by reserves (interrupted_task t ∷ map interrupted_task ts) ≡ reserves (interrupted_task t) + sum_by reserves (map interrupted_task ts) = sum_by-cons reserves (interrupted_task t) (map interrupted_task ts) in
    let here : reserves (interrupted_task t) ≡ 0 = nothing_left t in
    let rest : sum_by reserves (map interrupted_task ts) ≡ 0 = none_left ts in
    omega (arith, c, here, rest)

reserves_nothing : (d : Durable ℕ) (tasks : List Task) → d.tasks ≡ map interrupted_task tasks → 0 ≡ reserved d
unfolding reserved
reserves_nothing d tasks is = sym (ap (sum_by reserves) is ∙ none_left tasks)

abbrev shape_charged : ℕ → Volume ℕ → ℕ
shape_charged k v = cond (v.container == k) (allocated_count v.chunks) 0

volume_charged : (k : ℕ) (v : Volume Entry) → shape_charged k (map_volume stamp v) ≡ charged_for k v
volume_charged k v = ap (λ m. cond (v.container == k) m 0) (sum_mapped (λ (s : ℕ). cond (not (s == 0)) 1 0) stamp v.chunks)

volumes_charged : (k : ℕ) (volumes : List (Volume Entry)) → sum_by (shape_charged k) (map (map_volume stamp) volumes) ≡ allocated_for volumes k
volumes_charged k volumes =
    sum_mapped (shape_charged k) (map_volume stamp) volumes
    ∙ sum_same (λ (v : Volume Entry). shape_charged k (map_volume stamp v)) (charged_for k) volumes (λ i v at. volume_charged k v)

-- where no task runs, a container is charged for its volumes
charge_of_volumes : (d : Durable ℕ) (volumes : List (Volume Entry)) (k : ℕ) → d.volumes ≡ map (map_volume stamp) volumes → d.clones ≡ [] → d.copies ≡ []
    → charge d k ≡ allocated_for volumes k
unfolding charge
charge_of_volumes d volumes k vs cs ps =
    let a : sum_by (shape_charged k) d.volumes ≡ allocated_for volumes k = ap (sum_by (shape_charged k)) vs ∙ volumes_charged k volumes in
    let b : sum_by (λ (c : RunningClone ℕ). cond (c.container == k) (allocated_count c.image) 0) d.clones ≡ 0 =
    ap (sum_by (λ (c : RunningClone ℕ). cond (c.container == k) (allocated_count c.image) 0)) cs in
    let p : sum_by (λ (c : RunningCopy ℕ). allocating_for d k c) d.copies ≡ 0 = ap (sum_by (λ (c : RunningCopy ℕ). allocating_for d k c)) ps in
    omega (arith, a, b, p)

-- a shelf whose held lists are dropped, and of which nothing is reserved
pub all_dropped : (s a b next : ShelfState) (r : ℕ) → a ≡ record s { held = a.held } → b ≡ record a { held = b.held } → next ≡ with_reserve b (b.reserved - r)
    → s.reserved ≡ r → next ≡ record s { held = next.held; reserved = 0 }
all_dropped s a b next r first second last is =
    let both : b ≡ record s { held = b.held } = second ∙ ap (λ (x : ShelfState). record x { held = b.held }) first in
    let same : b.reserved ≡ s.reserved = ap (λ (x : ShelfState). x.reserved) both in
    let none : b.reserved - r ≡ 0 = omega (arith, same, is) in
    last ∙ ap (with_reserve b) none ∙ ap (λ (x : ShelfState). with_reserve x 0) both
    ∙ ap (λ (hs : List HeldList). record s { held = hs; reserved = 0 }) (sym (ap (λ (x : ShelfState). x.held) last))

module _ (geometry : Geometry) (lsn : ℕ) (view : ShelfView) (containers : List ChargedContainer) (bindings : BindState) (tasks : List Task)
    (clones : List CloneRow) (copies : List CopyRow) (clone_memory copy_memory : ℕ)
    (before : IsTables geometry lsn view containers bindings tasks clones copies clone_memory copy_memory)
    (next : ShelfView) (ks : List ChargedContainer) (shelf_is : next.shelf ≡ record view.shelf { held = next.shelf.held; reserved = 0 })
    (held : AreHeld next.shelf [] []) (plain : plain_containers ks ≡ plain_containers containers) (charged : AreChargedFor next.shelf.volumes ks) where
  abbrev seen : Durable Entry
  seen = seen_durable lsn view.shelf containers bindings tasks clones copies

  abbrev after : Durable Entry
  after = seen_durable lsn next.shelf ks bindings (map interrupted_task tasks) [] []

  equal : after ≡ interrupted_durable seen
  equal =
      ap (λ (x : ShelfState). seen_durable lsn x ks bindings (map interrupted_task tasks) [] []) shelf_is
      ∙ ap (λ (cs : List Container). record (interrupted_durable seen) { containers = cs }) plain

  charges : AreCharged after ks
  charges = λ k r lt. charged k r lt ∙ sym (charge_of_volumes (shape_of_tables after) next.shelf.volumes (slice_index_or ks k r).container.number refl refl refl)

  interrupted_well : IsTables geometry lsn next ks bindings (map interrupted_task tasks) [] [] clone_memory copy_memory
  interrupted_well = record {
    geometry_is = before.geometry_is ∙ sym (ap (λ (x : ShelfState). x.geometry) shelf_is);
    kept = record {
      well = ap is_well_formed equal ∙ interruption_well seen before.kept.well;
      charges = charges;
      reserved = ap (λ (x : ShelfState). x.reserved) shelf_is ∙ reserves_nothing (shape_of_tables after) tasks refl;
      fresh = ap (λ (x : ShelfState). x.fresh) shelf_is ∙ before.kept.fresh;
    };
    held = held;
    clone_rows = before.clone_rows;
    copy_rows = before.copy_rows;
  }

  pub interrupted_whole : (ts : List Task) (cs : List CloneRow) (ps : List CopyRow) (memory further : ℕ) → ts ≡ map interrupted_task tasks → cs ≡ [] → ps ≡ []
      → memory ≡ clone_memory → further ≡ copy_memory → IsTables geometry lsn next ks bindings ts cs ps memory further
  interrupted_whole ts cs ps memory further t c p m f = rw (t, c, p, m, f) interrupted_well
