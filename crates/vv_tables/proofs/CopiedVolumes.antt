-- Tables after a copy of a volume: a snapshot or a fast clone. What the shelf and the containers become is the change, and
-- all that tables keep is kept.
use Rattle.std.proofs.Common.{ℕ, ◌≡◌, ◌+◌, ◌≤◌, true, List, [], Option, Some, None, refl, sym, ap, subst, ◌∙◌, arith}
use Rattle.std.specs.Prelude.{nat_lt, IfSome}
use Rattle.vv_units.specs.declared.volume.VolumeKind.{VolumeKind}
use Rattle.vv_units.specs.declared.volume.VolumeKind.TheVariants.{SnapshotOf, FastCloneOf}
use Rattle.vv_flat.specs.Lists.{if_found, put_before}
use Rattle.vv_flat.specs.State.{Volume, Durable, volume_of}
use Rattle.vv_flat.specs.Chunks.{Entry, shape_of_tables}
use Rattle.vv_flat.specs.Space.{entries}
use Rattle.vv_flat.specs.Changes.{Change, Snapshot, FastClone, size_of, effect, apply, and_volume}
use Rattle.vv_flat.specs.Replay.{fits, replayed}
use Rattle.vv_laws.specs.Counts.{entries_added, entries_taken, reserved_added, reserved_taken}
use Rattle.vv_container.specs.Table.{ChargedContainer, with_charge}
use Rattle.vv_vols.specs.declared.head.Head.{Head}
use Rattle.vv_vols.specs.Shelf.{ShelfState, volume_in, size_in, chunks_in, shelf_entries, allocated_of as allocated_in}
use Rattle.vv_vols.specs.Rows.{RoomView, IsListRoom}
use Rattle.vv_snap.specs.Copies.{IsHeadButKind, with_copy}
use Rattle.vv_snap.proofs.Copied.{copy_is, whole_head}
use Rattle.vv_tables.specs.declared.tables.Tables.TheInside.{Inside}
use Rattle.vv_tables.specs.CopyRooms.{IsHeadIn, HasCopy}
use Rattle.vv_tables.specs.Homes.{home_in, charge_in}
use Rattle.vv_tables.specs.Kept.{AreWell, AreHeld}
use Rattle.vv_tables.specs.Seen.{seen_durable}
use Rattle.vv_tables.proofs.Accepted.{entries_room}
use Rattle.vv_tables.proofs.ChargedVolumes.{Charges, snapshot_charges, fast_clone_charges, here, charges_go}
use Rattle.vv_tables.proofs.Containers.{plain_charged}
use Rattle.vv_tables.proofs.FoundVolumes.{Found}
use Rattle.vv_tables.proofs.HeldKept.{same_held}
use Rattle.vv_tables.proofs.Inner.{durable_of, IsWell, IsHeld}
use Rattle.vv_tables.proofs.NextNumber.{new_volume}
use Rattle.vv_tables.proofs.ShapeVolumes.{size_is}
use Rattle.vv_tables.proofs.ShelfCounts.{shelf_entries_are}
use Rattle.vv_tables.proofs.Stepped.{same_reserved, stepped_well}

-- A change that copies volume n, into one of this kind.
pub record IsCopy (n : ℕ) (kind : VolumeKind) (change : Change) : Type 0 where
  pub once : Charges n change
  pub is : (d : Durable Entry) (v : Volume Entry) → volume_of d n ≡ Some v
      → replayed d change [] ≡ record (and_volume d (record v { number = d.lsn + 1; kind = kind })) { lsn = d.lsn + 1 }
  pub adds : (d : Durable ℕ) → entries_added d change ≡ size_of d n
  pub takes : (d : Durable ℕ) → entries_taken d change ≡ 0
  pub reserves : (d : Durable ℕ) → reserved_added d change ≡ reserved_taken d change

pub snapshot_copies : (n : ℕ) → IsCopy n (SnapshotOf (record { 0 = n })) (Snapshot n)
unfolding replayed apply effect
snapshot_copies n = record {
  once = snapshot_charges n;
  is = λ d v found. ap (λ (o : Option (Volume Entry)).
      let after : Durable Entry = record (if_found o (λ w. and_volume d (record w { number = d.lsn + 1; kind = SnapshotOf (record { 0 = n }) })) d) { lsn = d.lsn + 1 } in after) found;
  adds = λ d. refl;
  takes = λ d. refl;
  reserves = λ d. refl;
}

pub fast_clone_copies : (n : ℕ) → IsCopy n (FastCloneOf (record { 0 = n })) (FastClone n)
unfolding replayed apply effect
fast_clone_copies n = record {
  once = fast_clone_charges n;
  is = λ d v found. ap (λ (o : Option (Volume Entry)).
      let after : Durable Entry = record (if_found o (λ w. and_volume d (record w { number = d.lsn + 1; kind = FastCloneOf (record { 0 = n }) })) d) { lsn = d.lsn + 1 } in after) found;
  adds = λ d. refl;
  takes = λ d. refl;
  reserves = λ d. refl;
}

module _ (i : Inside) (kept : IsWell i) (held : IsHeld i) (n : ℕ) (kind : VolumeKind) (change : Change) (copies : IsCopy n kind change)
    (fit : fits (durable_of i) change [] ≡ true) where
  there : Found n i.shelf.shelf
  there = here i kept n change copies.once fit

  -- the new number is free
  pub number_unused : volume_in i.shelf.shelf (i.lsn + 1) ≡ None
  number_unused = new_volume (durable_of i) kept.well

  after : Durable Entry
  after = record (and_volume (durable_of i) (record there.volume { number = i.lsn + 1; kind = kind })) { lsn = i.lsn + 1 }

  after_is : replayed (durable_of i) change [] ≡ after
  unfolding after
  after_is = copies.is (durable_of i) there.volume there.is

  -- there is room for the entries
  pub few_entries : shelf_entries i.shelf.shelf + size_in i.shelf.shelf n ≤ i.shelf.shelf.geometry.map_chunks
  few_entries =
      let d : Durable Entry = durable_of i in
      let room : entries d + entries_added (shape_of_tables d) change ≤ d.geometry.map_chunks + entries_taken (shape_of_tables d) change =
      entries_room d change [] kept.well copies.once.forms fit (ap (λ (e : Durable Entry). e.geometry) after_is ∙ (unfold after in refl)) in
      let a : entries_added (shape_of_tables d) change ≡ size_of (shape_of_tables d) n = copies.adds (shape_of_tables d) in
      let t : entries_taken (shape_of_tables d) change ≡ 0 = copies.takes (shape_of_tables d) in
      let same : shelf_entries i.shelf.shelf ≡ entries d = shelf_entries_are i.lsn i.shelf.shelf i.containers i.bindings i.tasks i.clones.items i.copies.items held in
      let size : size_in i.shelf.shelf n ≡ size_of (shape_of_tables d) n = size_is d n in
      omega (arith, room, a, t, same, size)

  -- the shelf and the containers afterwards
  abbrev copied_shelf : ShelfState
  copied_shelf = with_copy i.shelf.shelf n (i.lsn + 1) kind

  abbrev copied_rows : List ChargedContainer
  copied_rows = with_charge i.containers (home_in i.shelf.shelf n) (charge_in i.containers (home_in i.shelf.shelf n) + allocated_in (chunks_in i.shelf.shelf n))

  made_shelf : ShelfState
  made_shelf = record i.shelf.shelf { volumes = put_before (λ (w : Volume Entry). nat_lt (i.lsn + 1) w.number) (record there.volume { number = i.lsn + 1; kind = kind }) i.shelf.shelf.volumes }

  shelf_is : copied_shelf ≡ made_shelf
  unfolding made_shelf
  shelf_is = copy_is i.shelf.shelf n (i.lsn + 1) kind there.volume there.is

  pub copied_durable : seen_durable (i.lsn + 1) copied_shelf copied_rows i.bindings i.tasks i.clones.items i.copies.items ≡ replayed (durable_of i) change []
  unfolding made_shelf after
  copied_durable =
      let rows : seen_durable (i.lsn + 1) made_shelf copied_rows i.bindings i.tasks i.clones.items i.copies.items ≡ after =
      ap (λ ks. let changed : Durable Entry = record (and_volume (durable_of i) (record there.volume { number = i.lsn + 1; kind = kind })) { lsn = i.lsn + 1; containers = ks } in changed)
      (plain_charged i.containers (home_in i.shelf.shelf n) (charge_in i.containers (home_in i.shelf.shelf n) + allocated_in (chunks_in i.shelf.shelf n))) in
      ap (λ (s : ShelfState). seen_durable (i.lsn + 1) s copied_rows i.bindings i.tasks i.clones.items i.copies.items) shelf_is
      ∙ rows
      ∙ sym after_is

  pub copied_well : AreWell copied_shelf copied_rows (seen_durable (i.lsn + 1) copied_shelf copied_rows i.bindings i.tasks i.clones.items i.copies.items)
  copied_well =
      let d : Durable Entry = durable_of i in
      let e : Durable Entry = seen_durable (i.lsn + 1) copied_shelf copied_rows i.bindings i.tasks i.clones.items i.copies.items in
      let reserve : copied_shelf.reserved ≡ i.shelf.shelf.reserved = ap (λ (s : ShelfState). s.reserved) shelf_is ∙ (unfold made_shelf in refl) in
      let fresh : copied_shelf.fresh ≡ i.shelf.shelf.fresh = ap (λ (s : ShelfState). s.fresh) shelf_is ∙ (unfold made_shelf in refl) in
      stepped_well d e change [] kept.well fit copied_durable copied_shelf copied_rows copies.once.forms
      (charges_go i kept n change copies.once fit e copied_durable)
      (same_reserved d e change [] kept.well fit copied_durable copied_shelf (copies.reserves (shape_of_tables d)) (reserve ∙ kept.reserved))
      (fresh ∙ kept.fresh)

  pub copied_held : AreHeld copied_shelf i.clones.items i.copies.items
  copied_held = same_held i.shelf.shelf copied_shelf i.clones.items i.copies.items (ap (λ (s : ShelfState). s.held) shelf_is ∙ (unfold made_shelf in refl)) held

  -- the room is one for the shelf
  pub room_list : (room : RoomView) → HasCopy (durable_of i) n room → IsListRoom (size_in i.shelf.shelf n) room
  room_list room enough = subst (λ k. IsListRoom k room) (sym (size_is (durable_of i) n)) enough.list

  pub room_head : (room : RoomView) → HasCopy (durable_of i) n room → IfSome room.head (λ head. IsHeadButKind i.shelf.shelf n head)
  room_head room enough = go room.head enough.head
    where
      go : (o : Option Head) → IfSome o (λ head. IsHeadIn (durable_of i) n head) → IfSome o (λ head. IsHeadButKind i.shelf.shelf n head)
      go None is = is
      go (Some head) is = whole_head i.shelf.shelf n head is

  pub copied_geometry : copied_shelf.geometry ≡ i.shelf.shelf.geometry
  copied_geometry = ap (λ (s : ShelfState). s.geometry) shelf_is ∙ (unfold made_shelf in refl)
