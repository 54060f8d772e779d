use Rattle.std.proofs.Common.{Option, Some, ℕ, ◌≡◌, ◌+◌, ◌-◌, ◌<◌, ◌≤◌, true, [], refl, sym, ap, ◌∙◌, subst, arith}
use Rattle.std.specs.Prelude.{IsSome, IfSome}
use Rattle.vv_flat.specs.State.{Durable}
use Rattle.vv_flat.specs.Chunks.{Entry, shape_of_tables}
use Rattle.vv_flat.specs.Space.{charge}
use Rattle.vv_flat.specs.Changes.{Unmap, size_of, stamps_of, home_of}
use Rattle.vv_flat.specs.Replay.{fits, replayed}
use Rattle.vv_laws.specs.Counts.{unmaps_count}
use Rattle.vv_container.specs.Table.{row_of, charge_of, with_charge}
use Rattle.vv_vols.specs.Shelf.{ShelfState, volume_in, size_in, chunks_in, allocated_of}
use Rattle.vv_vols.specs.Rows.{IsChangeRoom}
use Rattle.vv_tables.specs.Seen.{TablesView, plain_containers, seen_durable}
use Rattle.vv_tables.specs.Rooms.{IsChangeRoomOf}
use Rattle.vv_tables.specs.Unmapping.{range_pairs, with_unmapped}
use Rattle.vv_tables.proofs.Containers.{plain_charged}
use Rattle.vv_tables.proofs.HeldKept.{same_held}
use Rattle.vv_tables.proofs.Accepted.{charge_small}
use Rattle.vv_tables.proofs.Recharges.{home_stands, home_row, charge_kept}
use Rattle.vv_tables.proofs.ShapeVolumes.{size_is}
use Rattle.vv_tables.proofs.ShelfUnmaps.{unmap_next, unmap_stands, unmap_home_stands, unmap_inside, unmap_few, unmap_seen, unmap_enough, unmap_well, unmap_goes}
use Rattle.vv_tables.proofs.UnmappedChunks.{unmapped_stands}
use Rattle.vv_tables.proofs.tables.Tables.unmap.Goals as goal

pub allocated_count-before-requires : goal.allocated_count-before-requires
allocated_count-before-requires g c =
    let i = c.self.inside in
    let n = c.args.volume.0 in
    let rs = range_pairs c.args.ranges.now in
    let d : Durable Entry = seen_durable i.lsn i.shelf.shelf i.containers i.bindings i.tasks i.clones.items i.copies.items in
    let fit = subst (λ (t : TablesView). fits t.durable (Unmap n rs) [] ≡ true) (sym c.self.view_is) c.requires.fits in
    unmap_stands i.lsn i.shelf.shelf i.containers i.bindings i.tasks i.clones.items i.copies.items c.self.invariant.held c.self.invariant.kept n rs fit

pub overflow_add-self : goal.overflow_add-self
overflow_add-self g c =
    let i = c.self.inside in
    let n = c.args.volume.0 in
    let rs = range_pairs c.args.ranges.now in
    let d : Durable Entry = seen_durable i.lsn i.shelf.shelf i.containers i.bindings i.tasks i.clones.items i.copies.items in
    let fit = subst (λ (t : TablesView). fits t.durable (Unmap n rs) [] ≡ true) (sym c.self.view_is) c.requires.fits in
    let next : i.lsn < 4611686018427387903 = unmap_next i.lsn i.shelf.shelf i.containers i.bindings i.tasks i.clones.items i.copies.items c.self.invariant.held c.self.invariant.kept n rs fit in
    omega (arith, next)

pub unmap_ranges-requires-clause-standing : goal.unmap_ranges-requires-clause-standing
unmap_ranges-requires-clause-standing g c =
    let i = c.self.inside in
    let n = c.args.volume.0 in
    let rs = range_pairs c.args.ranges.now in
    let d : Durable Entry = seen_durable i.lsn i.shelf.shelf i.containers i.bindings i.tasks i.clones.items i.copies.items in
    let fit = subst (λ (t : TablesView). fits t.durable (Unmap n rs) [] ≡ true) (sym c.self.view_is) c.requires.fits in
    unmap_stands i.lsn i.shelf.shelf i.containers i.bindings i.tasks i.clones.items i.copies.items c.self.invariant.held c.self.invariant.kept n rs fit

pub unmap_ranges-requires-clause-inside : goal.unmap_ranges-requires-clause-inside
unmap_ranges-requires-clause-inside g c =
    let i = c.self.inside in
    let n = c.args.volume.0 in
    let rs = range_pairs c.args.ranges.now in
    let d : Durable Entry = seen_durable i.lsn i.shelf.shelf i.containers i.bindings i.tasks i.clones.items i.copies.items in
    let fit = subst (λ (t : TablesView). fits t.durable (Unmap n rs) [] ≡ true) (sym c.self.view_is) c.requires.fits in
    unmap_inside i.lsn i.shelf.shelf i.containers i.bindings i.tasks i.clones.items i.copies.items c.self.invariant.held c.self.invariant.kept n rs fit

pub unmap_ranges-requires-clause-few : goal.unmap_ranges-requires-clause-few
unmap_ranges-requires-clause-few g c =
    let i = c.self.inside in
    let n = c.args.volume.0 in
    let rs = range_pairs c.args.ranges.now in
    let d : Durable Entry = seen_durable i.lsn i.shelf.shelf i.containers i.bindings i.tasks i.clones.items i.copies.items in
    let fit = subst (λ (t : TablesView). fits t.durable (Unmap n rs) [] ≡ true) (sym c.self.view_is) c.requires.fits in
    unmap_few i.lsn i.shelf.shelf i.containers i.bindings i.tasks i.clones.items i.copies.items c.self.invariant.held c.self.invariant.kept n rs fit

pub unmap_ranges-requires-clause-room : goal.unmap_ranges-requires-clause-room
unmap_ranges-requires-clause-room g c =
    let i = c.self.inside in
    let n = c.args.volume.0 in
    let rs = range_pairs c.args.ranges.now in
    let d : Durable Entry = seen_durable i.lsn i.shelf.shelf i.containers i.bindings i.tasks i.clones.items i.copies.items in
    let fit = subst (λ (t : TablesView). fits t.durable (Unmap n rs) [] ≡ true) (sym c.self.view_is) c.requires.fits in
    let size : size_of (shape_of_tables c.args.self.now.durable) n ≡ size_in i.shelf.shelf n =
    ap (λ (t : TablesView). size_of (shape_of_tables t.durable) n) (sym c.self.view_is) ∙ sym (size_is d n) in
    let room : IsChangeRoomOf (record { durable = d; pages = i.shelf.pages; rooms = i.shelf.rooms }) n 0 (size_of (shape_of_tables c.args.self.now.durable) n) c.args.room =
    subst (λ (t : TablesView). IsChangeRoomOf t n 0 (size_of (shape_of_tables c.args.self.now.durable) n) c.args.room) (sym c.self.view_is) c.requires.room in
    subst (λ k. IsChangeRoom i.shelf n 0 k c.args.room) size room

pub allocated_count-after-requires : goal.allocated_count-after-requires
allocated_count-after-requires g c =
    let i = c.self.inside in
    let n = c.args.volume.0 in
    let rs = range_pairs c.args.ranges.now in
    let d : Durable Entry = seen_durable i.lsn i.shelf.shelf i.containers i.bindings i.tasks i.clones.items i.copies.items in
    let fit = subst (λ (t : TablesView). fits t.durable (Unmap n rs) [] ≡ true) (sym c.self.view_is) c.requires.fits in
    let shelf : c.unmap_ranges.new.shelf.shelf ≡ with_unmapped i.shelf.shelf n rs = c.unmap_ranges.ensures.shelf in
    subst (λ (t : ShelfState). IsSome (volume_in t n)) (sym shelf) (unmapped_stands i.shelf.shelf n rs (unmap_stands i.lsn i.shelf.shelf i.containers i.bindings i.tasks i.clones.items i.copies.items c.self.invariant.held c.self.invariant.kept n rs fit))

pub recharge-requires-clause-stands : goal.recharge-requires-clause-stands
recharge-requires-clause-stands g c =
    let i = c.self.inside in
    let n = c.args.volume.0 in
    let rs = range_pairs c.args.ranges.now in
    let d : Durable Entry = seen_durable i.lsn i.shelf.shelf i.containers i.bindings i.tasks i.clones.items i.copies.items in
    let fit = subst (λ (t : TablesView). fits t.durable (Unmap n rs) [] ≡ true) (sym c.self.view_is) c.requires.fits in
    let home : c.home_of-home.result.0 ≡ home_of (shape_of_tables d) n =
    c.home_of-home.ensures ∙ ap (λ (t : TablesView). home_of (shape_of_tables t.durable) n) (sym c.self.view_is) in
    let stands = unmap_home_stands i.lsn i.shelf.shelf i.containers i.bindings i.tasks i.clones.items i.copies.items c.self.invariant.held c.self.invariant.kept n rs fit in
    let row : IsSome (row_of i.containers (home_of (shape_of_tables d) n)) = home_row d c.self.invariant.kept.well i.containers n refl stands in
    subst (λ k. IsSome (row_of i.containers k)) (sym home) row

pub recharge-requires-clause-enough : goal.recharge-requires-clause-enough
recharge-requires-clause-enough g c =
    let i = c.self.inside in
    let n = c.args.volume.0 in
    let rs = range_pairs c.args.ranges.now in
    let d : Durable Entry = seen_durable i.lsn i.shelf.shelf i.containers i.bindings i.tasks i.clones.items i.copies.items in
    let fit = subst (λ (t : TablesView). fits t.durable (Unmap n rs) [] ≡ true) (sym c.self.view_is) c.requires.fits in
    let shelf : c.unmap_ranges.new.shelf.shelf ≡ with_unmapped i.shelf.shelf n rs = c.unmap_ranges.ensures.shelf in
    let home : c.home_of-home.result.0 ≡ home_of (shape_of_tables d) n =
    c.home_of-home.ensures ∙ ap (λ (t : TablesView). home_of (shape_of_tables t.durable) n) (sym c.self.view_is) in
    let stands = unmap_home_stands i.lsn i.shelf.shelf i.containers i.bindings i.tasks i.clones.items i.copies.items c.self.invariant.held c.self.invariant.kept n rs fit in
    let row : IsSome (row_of i.containers (home_of (shape_of_tables d) n)) = home_row d c.self.invariant.kept.well i.containers n refl stands in
    let charged : charge_of i.containers c.home_of-home.result.0 ≡ Some (charge (shape_of_tables d) (home_of (shape_of_tables d) n)) =
    ap (charge_of i.containers) home ∙ charge_kept d i.containers (home_of (shape_of_tables d) n) c.self.invariant.kept.charges row in
    let enough : allocated_of (chunks_in i.shelf.shelf n) ≤ charge (shape_of_tables d) (home_of (shape_of_tables d) n) + allocated_of (chunks_in c.unmap_ranges.new.shelf.shelf n) =
    unmap_enough i.lsn i.shelf.shelf i.containers i.bindings i.tasks i.clones.items i.copies.items c.self.invariant.held c.self.invariant.kept n rs fit c.unmap_ranges.new.shelf.shelf shelf in
    let before : c.allocated_count-before.result ≡ allocated_of (chunks_in i.shelf.shelf n) = c.allocated_count-before.ensures in
    let after : c.allocated_count-after.result ≡ allocated_of (chunks_in c.unmap_ranges.new.shelf.shelf n) = c.allocated_count-after.ensures in
    subst (λ (o : Option ℕ). IfSome o (λ was. c.allocated_count-before.result ≤ was + c.allocated_count-after.result)) (sym charged) (omega (arith, enough, before, after))

pub recharge-requires-clause-few : goal.recharge-requires-clause-few
recharge-requires-clause-few g c =
    let i = c.self.inside in
    let n = c.args.volume.0 in
    let rs = range_pairs c.args.ranges.now in
    let d : Durable Entry = seen_durable i.lsn i.shelf.shelf i.containers i.bindings i.tasks i.clones.items i.copies.items in
    let fit = subst (λ (t : TablesView). fits t.durable (Unmap n rs) [] ≡ true) (sym c.self.view_is) c.requires.fits in
    let home : c.home_of-home.result.0 ≡ home_of (shape_of_tables d) n =
    c.home_of-home.ensures ∙ ap (λ (t : TablesView). home_of (shape_of_tables t.durable) n) (sym c.self.view_is) in
    let stands = unmap_home_stands i.lsn i.shelf.shelf i.containers i.bindings i.tasks i.clones.items i.copies.items c.self.invariant.held c.self.invariant.kept n rs fit in
    let row : IsSome (row_of i.containers (home_of (shape_of_tables d) n)) = home_row d c.self.invariant.kept.well i.containers n refl stands in
    let charged : charge_of i.containers c.home_of-home.result.0 ≡ Some (charge (shape_of_tables d) (home_of (shape_of_tables d) n)) =
    ap (charge_of i.containers) home ∙ charge_kept d i.containers (home_of (shape_of_tables d) n) c.self.invariant.kept.charges row in
    let few : charge (shape_of_tables d) (home_of (shape_of_tables d) n) < 4294967296 =
    charge_small d c.self.invariant.kept.well (home_of (shape_of_tables d) n) (home_stands d c.self.invariant.kept.well n stands) in
    let small : c.allocated_count-after.result < 4294967296 = c.allocated_count-after.type_inv in
    subst (λ (o : Option ℕ). IfSome o (λ was. was + c.allocated_count-after.result < 18446744073709551616)) (sym charged) (omega (arith, few, small))

pub invariant_of-self : goal.invariant_of-self
invariant_of-self g c =
    let i = c.self.inside in
    let n = c.args.volume.0 in
    let rs = range_pairs c.args.ranges.now in
    let d : Durable Entry = seen_durable i.lsn i.shelf.shelf i.containers i.bindings i.tasks i.clones.items i.copies.items in
    let fit = subst (λ (t : TablesView). fits t.durable (Unmap n rs) [] ≡ true) (sym c.self.view_is) c.requires.fits in
    let shelf : c.unmap_ranges.new.shelf.shelf ≡ with_unmapped i.shelf.shelf n rs = c.unmap_ranges.ensures.shelf in
    let home : c.home_of-home.result.0 ≡ home_of (shape_of_tables d) n =
    c.home_of-home.ensures ∙ ap (λ (t : TablesView). home_of (shape_of_tables t.durable) n) (sym c.self.view_is) in
    let stands = unmap_home_stands i.lsn i.shelf.shelf i.containers i.bindings i.tasks i.clones.items i.copies.items c.self.invariant.held c.self.invariant.kept n rs fit in
    let row : IsSome (row_of i.containers (home_of (shape_of_tables d) n)) = home_row d c.self.invariant.kept.well i.containers n refl stands in
    let charged : charge_of i.containers c.home_of-home.result.0 ≡ Some (charge (shape_of_tables d) (home_of (shape_of_tables d) n)) =
    ap (charge_of i.containers) home ∙ charge_kept d i.containers (home_of (shape_of_tables d) n) c.self.invariant.kept.charges row in
    let enough : allocated_of (chunks_in i.shelf.shelf n) ≤ charge (shape_of_tables d) (home_of (shape_of_tables d) n) + allocated_of (chunks_in c.unmap_ranges.new.shelf.shelf n) =
    unmap_enough i.lsn i.shelf.shelf i.containers i.bindings i.tasks i.clones.items i.copies.items c.self.invariant.held c.self.invariant.kept n rs fit c.unmap_ranges.new.shelf.shelf shelf in
    let before : c.allocated_count-before.result ≡ allocated_of (chunks_in i.shelf.shelf n) = c.allocated_count-before.ensures in
    let after : c.allocated_count-after.result ≡ allocated_of (chunks_in c.unmap_ranges.new.shelf.shelf n) = c.allocated_count-after.ensures in
    let new : ℕ = charge (shape_of_tables d) (home_of (shape_of_tables d) n) + c.allocated_count-after.result - c.allocated_count-before.result in
    let rows : c.recharge.new.containers ≡ with_charge i.containers (home_of (shape_of_tables d) n) new =
    subst (λ (o : Option ℕ). IfSome o (λ was. c.recharge.new.containers ≡ with_charge i.containers c.home_of-home.result.0 (was + c.allocated_count-after.result - c.allocated_count-before.result))) charged c.recharge.ensures
    ∙ ap (λ k. with_charge i.containers k new) home in
    record {
      geometry_is = c.self.invariant.geometry_is ∙ ap (λ (t : ShelfState). t.geometry) (sym shelf);
      kept = unmap_well i.lsn i.shelf.shelf i.containers i.bindings i.tasks i.clones.items i.copies.items c.self.invariant.held c.self.invariant.kept n rs fit c.unmap_ranges.new.shelf.shelf shelf
          c.recharge.new.containers new rows (omega (arith, enough, before, after));
      held = same_held i.shelf.shelf c.unmap_ranges.new.shelf.shelf i.clones.items i.copies.items (ap (λ (t : ShelfState). t.held) shelf) c.self.invariant.held;
      clone_rows = c.self.invariant.clone_rows;
      copy_rows = c.self.invariant.copy_rows;
    }

pub returns-clause-durable : goal.returns-clause-durable
returns-clause-durable g c =
    let i = c.self.inside in
    let n = c.args.volume.0 in
    let rs = range_pairs c.args.ranges.now in
    let d : Durable Entry = seen_durable i.lsn i.shelf.shelf i.containers i.bindings i.tasks i.clones.items i.copies.items in
    let fit = subst (λ (t : TablesView). fits t.durable (Unmap n rs) [] ≡ true) (sym c.self.view_is) c.requires.fits in
    let shelf : c.unmap_ranges.new.shelf.shelf ≡ with_unmapped i.shelf.shelf n rs = c.unmap_ranges.ensures.shelf in
    let home : c.home_of-home.result.0 ≡ home_of (shape_of_tables d) n =
    c.home_of-home.ensures ∙ ap (λ (t : TablesView). home_of (shape_of_tables t.durable) n) (sym c.self.view_is) in
    let stands = unmap_home_stands i.lsn i.shelf.shelf i.containers i.bindings i.tasks i.clones.items i.copies.items c.self.invariant.held c.self.invariant.kept n rs fit in
    let row : IsSome (row_of i.containers (home_of (shape_of_tables d) n)) = home_row d c.self.invariant.kept.well i.containers n refl stands in
    let charged : charge_of i.containers c.home_of-home.result.0 ≡ Some (charge (shape_of_tables d) (home_of (shape_of_tables d) n)) =
    ap (charge_of i.containers) home ∙ charge_kept d i.containers (home_of (shape_of_tables d) n) c.self.invariant.kept.charges row in
    let new : ℕ = charge (shape_of_tables d) (home_of (shape_of_tables d) n) + c.allocated_count-after.result - c.allocated_count-before.result in
    let rows : c.recharge.new.containers ≡ with_charge i.containers (home_of (shape_of_tables d) n) new =
    subst (λ (o : Option ℕ). IfSome o (λ was. c.recharge.new.containers ≡ with_charge i.containers c.home_of-home.result.0 (was + c.allocated_count-after.result - c.allocated_count-before.result))) charged c.recharge.ensures
    ∙ ap (λ k. with_charge i.containers k new) home in
    let plain : plain_containers c.recharge.new.containers ≡ plain_containers i.containers =
    ap plain_containers rows ∙ plain_charged i.containers (home_of (shape_of_tables d) n) new in
    unmap_seen i.lsn i.shelf.shelf i.containers i.bindings i.tasks i.clones.items i.copies.items c.self.invariant.held c.self.invariant.kept n rs fit c.unmap_ranges.new.shelf.shelf c.recharge.new.containers shelf plain
    ∙ ap (λ (t : TablesView). replayed t.durable (Unmap n rs) []) c.self.view_is

pub returns-clause-steps : goal.returns-clause-steps
returns-clause-steps g c =
    let i = c.self.inside in
    let n = c.args.volume.0 in
    let rs = range_pairs c.args.ranges.now in
    let d : Durable Entry = seen_durable i.lsn i.shelf.shelf i.containers i.bindings i.tasks i.clones.items i.copies.items in
    let fit = subst (λ (t : TablesView). fits t.durable (Unmap n rs) [] ≡ true) (sym c.self.view_is) c.requires.fits in
    let shelf : c.unmap_ranges.new.shelf.shelf ≡ with_unmapped i.shelf.shelf n rs = c.unmap_ranges.ensures.shelf in
    let goes : allocated_of (chunks_in c.unmap_ranges.new.shelf.shelf n) + unmaps_count rs (stamps_of (shape_of_tables d) n) ≡ allocated_of (chunks_in i.shelf.shelf n) + 0 =
    unmap_goes i.lsn i.shelf.shelf i.containers i.bindings i.tasks i.clones.items i.copies.items c.self.invariant.held c.self.invariant.kept n rs fit c.unmap_ranges.new.shelf.shelf shelf in
    let same : unmaps_count rs (stamps_of (shape_of_tables d) n) ≡ unmaps_count rs (stamps_of (shape_of_tables c.args.self.now.durable) n) =
    ap (λ (t : TablesView). unmaps_count rs (stamps_of (shape_of_tables t.durable) n)) c.self.view_is in
    let most = c.unmap_ranges.ensures.steps in
    omega (arith, goes, same, most)
