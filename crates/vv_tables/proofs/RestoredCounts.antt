-- What containers are charged for and what running clones have left, counted over the parts of tables that are well-formed, is
-- what the definitions count.
use Rattle.std.proofs.Common.{ℕ, ◌≡◌, ◌+◌, ◌≤◌, ◌==◌, not, true, false, cond, List, [], ◌∷◌, map, sum_by, Option, Some, None, option_map, refl, sym, ap, subst, ◌∙◌, arith}
use Rattle.std.specs.Prelude.{option_and_then, if◌then◌else◌}
use Rattle.std.specs.List.{list_all, All}
use Rattle.std.proofs.lemmas.Bool.{leb-true, eqb-true}
use Rattle.std.proofs.lemmas.List.Sums.{sum_by-cons}
use Rattle.std.proofs.lemmas.List.Elements.{All-nil, All-cons, All-head, All-tail}
use Rattle.vv_flat.specs.Lists.{if_found}
use Rattle.vv_units.specs.declared.geometry.Geometry.{Geometry}
use Rattle.vv_pool.specs.FreshPlaces.{FreshPlaces}
use Rattle.vv_flat.specs.State.{Container, Volume, Task, RunningClone, RunningCopy, Durable, map_clone, map_copy, map_piece, volume_of}
use Rattle.vv_flat.specs.Chunks.{Entry, shape_of_tables}
use Rattle.vv_flat.specs.Space.{used, reserved, charge, allocated_count, allocating_pieces, allocating_for}
use Rattle.vv_flat.specs.Rules.{space_rule, clones_rule, is_clone_kept, charges_fit}
use Rattle.vv_flat.specs.WellFormed.{is_well_formed}
use Rattle.vv_flat.proofs.Shares.{and_left, and_right}
use Rattle.vv_flat.proofs.Kept.{kept}
use Rattle.vv_laws.proofs.WellFormed.{shape_rules}
use Rattle.vv_container.specs.Table.{ChargedContainer}
use Rattle.vv_bind.specs.Table.{BindState}
use Rattle.vv_task.specs.Table.{task_numbered}
use Rattle.vv_vols.specs.Shelf.{ShelfState, shelf_used, volume_in, pieces_in, allocated_of}
use Rattle.vv_vols.specs.Places.{shelf_free}
use Rattle.vv_tables.specs.declared.rows.CloneRow.{CloneRow}
use Rattle.vv_tables.specs.declared.rows.CopyRow.{CopyRow}
use Rattle.vv_vols.specs.Rows.{ShelfView}
use Rattle.vv_vols.specs.Calls.{with_reserve}
use Rattle.vv_tables.specs.Seen.{plain_containers, seen_clone, seen_copy, seen_durable, held_chunks}
use Rattle.vv_tables.specs.Kept.{AreHeld, AreCharged, IsTables}
use Rattle.vv_tables.specs.Restored.{IsRestored}
use Rattle.vv_tables.proofs.HeldKept.{same_held}
use Rattle.vv_tables.specs.Charges.{volume_charge, volumes_charge, clone_charge, clones_charge, target_in, pieces_charge, copy_charge, copies_charge, charge_in, all_left}
use Rattle.vv_tables.proofs.HeldSums.{sum_same, sum_mapped}
use Rattle.vv_tables.proofs.ShapeVolumes.{shaped, shape_found}
use Rattle.vv_tables.proofs.ShelfCounts.{shelf_used_all}

abbrev stamp : Entry → ℕ
stamp e = e.stamp

allocated_stamps : (chunks : List Entry) → allocated_count (map stamp chunks) ≡ allocated_of chunks
allocated_stamps chunks = sum_mapped (λ (s : ℕ). cond (not (s == 0)) 1 0) stamp chunks

-- ---- volumes
abbrev shape_charge : ℕ → Volume ℕ → ℕ
shape_charge k v = if v.container == k then allocated_count v.chunks else 0

volumes_are : (volumes : List (Volume Entry)) (k : ℕ) → volumes_charge volumes k ≡ sum_by (shape_charge k) (map shaped volumes)
volumes_are volumes k =
    sum_same (volume_charge k) (λ v. shape_charge k (shaped v)) volumes (λ i v at. ap (λ n. cond (v.container == k) n 0) (sym (allocated_stamps v.chunks)))
    ∙ sym (sum_mapped (shape_charge k) shaped volumes)

-- ---- clones
abbrev shape_clone : ShelfState → CloneRow → RunningClone ℕ
shape_clone s row = map_clone stamp (seen_clone s row)

abbrev image_charge : ℕ → RunningClone ℕ → ℕ
image_charge k c = if c.container == k then allocated_count c.image else 0

clone_total : (tasks : List Task) (c : RunningClone ℕ) → if_found (task_numbered tasks c.number) (is_clone_kept c) false ≡ true
    → if_found (task_numbered tasks c.number) (λ (t : Task). t.total) 0 ≡ allocated_count c.image
clone_total tasks c kept = go (task_numbered tasks c.number) kept
  where
    go : (o : Option Task) → if_found o (is_clone_kept c) false ≡ true → if_found o (λ (t : Task). t.total) 0 ≡ allocated_count c.image
    go None e = absurd (cc)
    go (Some t) e = eqb-true t.total (allocated_count c.image) (and_left _ _ (and_left _ _ (and_left _ _ e)))

clones_are : (s : ShelfState) (tasks : List Task) (clones : List CloneRow) (k : ℕ)
    → list_all (λ (c : RunningClone ℕ). if_found (task_numbered tasks c.number) (is_clone_kept c) false) (map (map_clone stamp) (map (seen_clone s) clones)) ≡ true
    → clones_charge tasks clones k ≡ sum_by (image_charge k) (map (map_clone stamp) (map (seen_clone s) clones))
clones_are s tasks [] k all = refl
clones_are s tasks (row ∷ rows) k all =
    let here : if_found (task_numbered tasks row.id.0) (λ (t : Task). t.total) 0 ≡ allocated_count (map stamp (held_chunks s row.image.number)) =
    clone_total tasks (shape_clone s row) (and_left _ _ all) in
    let rest : clones_charge tasks rows k ≡ sum_by (image_charge k) (map (map_clone stamp) (map (seen_clone s) rows)) = clones_are s tasks rows k (and_right _ _ all) in
    sum_by-cons (clone_charge tasks k) row rows
    ∙ ap (λ n. cond (row.head.container.0 == k) n 0 + clones_charge tasks rows k) here
    ∙ ap (λ n. image_charge k (shape_clone s row) + n) rest
    ∙ sym (sum_by-cons (image_charge k) (shape_clone s row) (map (map_clone stamp) (map (seen_clone s) rows)))

-- ---- copies
module _ (lsn : ℕ) (s : ShelfState) (containers : List ChargedContainer) (bindings : BindState) (tasks : List Task) (clones : List CloneRow) (copies : List CopyRow) where
  abbrev tables : Durable Entry
  tables = seen_durable lsn s containers bindings tasks clones copies

  copy_is : (k : ℕ) (row : CopyRow) → copy_charge s tasks k row ≡ allocating_for (shape_of_tables tables) k (map_copy stamp (seen_copy s row))
  copy_is k row = go (target_in tasks row.id.0)
    where
      each : (n : ℕ) (o : Option (Volume Entry)) → if_found o (pieces_charge s k n) 0
          ≡ if_found (option_map shaped o) (λ (v : Volume ℕ). if v.container == k then allocating_pieces v.chunks (map (map_piece stamp) (pieces_in s n)) else 0) 0
      each n None = refl
      each n (Some v) = refl

      go : (o : Option ℕ) → if_found (option_and_then (volume_in s) o) (pieces_charge s k row.pieces.number) 0
          ≡ if_found (option_and_then (volume_of (shape_of_tables tables)) o)
          (λ (v : Volume ℕ). if v.container == k then allocating_pieces v.chunks (map (map_piece stamp) (pieces_in s row.pieces.number)) else 0) 0
      go None = refl
      go (Some n) =
          each row.pieces.number (volume_in s n)
          ∙ ap (λ (o : Option (Volume ℕ)). if_found o (λ (v : Volume ℕ). if v.container == k then allocating_pieces v.chunks (map (map_piece stamp) (pieces_in s row.pieces.number)) else 0) 0)
          (sym (shape_found tables n))

  copies_are : (k : ℕ) → copies_charge s tasks copies k ≡ sum_by (λ (c : RunningCopy ℕ). allocating_for (shape_of_tables tables) k c) (map (map_copy stamp) (map (seen_copy s) copies))
  copies_are k =
      sum_same (copy_charge s tasks k) (λ row. allocating_for (shape_of_tables tables) k (map_copy stamp (seen_copy s row))) copies (λ i row at. copy_is k row)
      ∙ sym (sum_mapped (λ (c : RunningCopy Entry). allocating_for (shape_of_tables tables) k (map_copy stamp c)) (seen_copy s) copies)
      ∙ sym (sum_mapped (λ (c : RunningCopy ℕ). allocating_for (shape_of_tables tables) k c) (map_copy stamp) (map (seen_copy s) copies))

  clones_kept : clones_rule (shape_of_tables tables) ≡ true
      → list_all (λ (c : RunningClone ℕ). if_found (task_numbered tasks c.number) (is_clone_kept c) false) (map (map_clone stamp) (map (seen_clone s) clones)) ≡ true
  unfolding clones_rule
  clones_kept e = e

  module _ (well : is_well_formed tables ≡ true) where
    pub charge_is : (k : ℕ) → charge_in s tasks clones copies k ≡ charge (shape_of_tables tables) k
    unfolding charge
    charge_is k =
        ap (λ n. n + clones_charge tasks clones k + copies_charge s tasks copies k) (volumes_are s.volumes k)
        ∙ ap (λ n. sum_by (shape_charge k) (map shaped s.volumes) + n + copies_charge s tasks copies k)
        (clones_are s tasks clones k (clones_kept (kept (shape_of_tables tables) (shape_rules tables well)).clones))
        ∙ ap (λ n. sum_by (shape_charge k) (map shaped s.volumes) + sum_by (image_charge k) (map (map_clone stamp) (map (seen_clone s) clones)) + n) (copies_are k)

    pub all_charged : (rows : List ChargedContainer) → All (λ (r : ChargedContainer). r.charged ≡ charge_in s tasks clones copies r.container.number) rows
        → All (λ (r : ChargedContainer). r.charged ≡ charge (shape_of_tables tables) r.container.number) rows
    all_charged [] all = All-nil (λ (r : ChargedContainer). r.charged ≡ charge (shape_of_tables tables) r.container.number)
    all_charged (r ∷ rs) all =
        All-cons (λ (r : ChargedContainer). r.charged ≡ charge (shape_of_tables tables) r.container.number) r rs
        (All-head (λ (r : ChargedContainer). r.charged ≡ charge_in s tasks clones copies r.container.number) r rs all ∙ charge_is r.container.number)
        (all_charged rs (All-tail (λ (r : ChargedContainer). r.charged ≡ charge_in s tasks clones copies r.container.number) r rs all))

    pub left_is : all_left tasks ≡ reserved (shape_of_tables tables)
    unfolding reserved
    left_is = refl

    space : space_rule (shape_of_tables tables) ≡ true → used (shape_of_tables tables) + reserved (shape_of_tables tables) ≤ s.geometry.pool_chunks
    unfolding space_rule
    space e = leb-true (used (shape_of_tables tables) + reserved (shape_of_tables tables)) s.geometry.pool_chunks (and_left _ (charges_fit (shape_of_tables tables)) e)

    -- the pool has as many places as running clones have left
    pub room_left : AreHeld s clones copies → s.fresh ≡ [] → s.reserved ≡ 0 → all_left tasks ≤ shelf_free s
    room_left held fresh none =
        let within : used (shape_of_tables tables) + reserved (shape_of_tables tables) ≤ s.geometry.pool_chunks = space (kept (shape_of_tables tables) (shape_rules tables well)).space in
        let same : shelf_used s ≡ used (shape_of_tables tables) = shelf_used_all lsn s containers bindings tasks clones copies held well fresh in
        omega (arith, within, same, none, left_is)

-- ---- all together
module _ (geometry : Geometry) (lsn : ℕ) (view : ShelfView) (containers : List ChargedContainer) (bindings : BindState) (tasks : List Task) (clones : List CloneRow) (copies : List CopyRow)
    (clone_memory copy_memory : ℕ) (taken : FreshPlaces) (restored : IsRestored geometry view clones copies clone_memory copy_memory taken)
    (well : is_well_formed (seen_durable lsn view.shelf containers bindings tasks clones copies) ≡ true)
    (view' : ShelfView) (containers' : List ChargedContainer)
    (shelf_is : view' ≡ record view { shelf = with_reserve view.shelf (view.shelf.reserved + all_left tasks) })
    (plain : plain_containers containers' ≡ plain_containers containers)
    (charged : All (λ (r : ChargedContainer). r.charged ≡ charge_in view.shelf tasks clones copies r.container.number) containers') where
  pub finished_seen : seen_durable lsn view'.shelf containers' bindings tasks clones copies ≡ seen_durable lsn view.shelf containers bindings tasks clones copies
  finished_seen =
      ap (λ (v : ShelfView). seen_durable lsn v.shelf containers' bindings tasks clones copies) shelf_is
      ∙ ap (λ (ks : List Container). record (seen_durable lsn view.shelf containers bindings tasks clones copies) { containers = ks }) plain

  left_now : view'.shelf.reserved ≡ reserved (shape_of_tables (seen_durable lsn view.shelf containers bindings tasks clones copies))
  left_now =
      ap (λ (v : ShelfView). v.shelf.reserved) shelf_is
      ∙ ap (λ n. n + all_left tasks) restored.reserved
      ∙ plus (all_left tasks)
      ∙ left_is lsn view.shelf containers bindings tasks clones copies well
    where
      plus : (n : ℕ) → 0 + n ≡ n
      plus n = omega arith

  pub finished : IsTables geometry lsn view' containers' bindings tasks clones copies clone_memory copy_memory
  finished = record {
    geometry_is = restored.geometry_is ∙ sym (ap (λ (v : ShelfView). v.shelf.geometry) shelf_is);
    kept = record {
      well = ap is_well_formed finished_seen ∙ well;
      charges = subst (λ (d : Durable Entry). AreCharged d containers') (sym finished_seen) (all_charged lsn view.shelf containers bindings tasks clones copies well containers' charged);
      reserved = left_now ∙ ap (λ (d : Durable Entry). reserved (shape_of_tables d)) (sym finished_seen);
      fresh = ap (λ (v : ShelfView). v.shelf.fresh) shelf_is ∙ restored.fresh;
    };
    held = same_held view.shelf view'.shelf clones copies (ap (λ (v : ShelfView). v.shelf.held) shelf_is) restored.held;
    clone_rows = restored.clone_rows;
    copy_rows = restored.copy_rows;
  }
