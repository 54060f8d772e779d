use Rattle.std.proofs.Common.{Option, Some, ℕ, ◌≡◌, ◌+◌, ◌-◌, ◌<◌, ◌≤◌, true, length, refl, sym, ap, ◌∙◌, subst, arith}
use Rattle.std.specs.Prelude.{IsSome, IfSome}
use Rattle.std.proofs.lemmas.List.{length-map}
use Rattle.vv_units.specs.declared.geometry.Geometry.{Geometry}
use Rattle.vv_units.specs.declared.numbers.Place.{Place}
use Rattle.vv_flat.specs.Lists.{numbers_from, put_at}
use Rattle.vv_flat.specs.State.{Durable}
use Rattle.vv_flat.specs.Chunks.{Entry, shape_of_tables, touched_first, touched_count, placed_entries}
use Rattle.vv_flat.specs.Space.{charge}
use Rattle.vv_flat.specs.Changes.{Write, home_of}
use Rattle.vv_flat.specs.Replay.{fits, replayed}
use Rattle.vv_container.specs.Table.{row_of, charge_of, with_charge}
use Rattle.vv_vols.specs.Shelf.{ShelfState, volume_in, chunks_in, allocated_of}
use Rattle.vv_vols.specs.Calls.{with_chunks}
use Rattle.vv_vols.specs.Rows.{IsChangeRoom}
use Rattle.vv_vols.proofs.TakenPlaces.{changed_stands}
use Rattle.vv_tables.specs.Seen.{TablesView, plain_containers, seen_durable}
use Rattle.vv_tables.specs.Putting.{place_numbers, MayPut}
use Rattle.vv_tables.specs.Rooms.{IsWriteRoom}
use Rattle.vv_tables.proofs.ShelfWrites.{write_some, write_few, write_next, write_count, write_stands, write_shape_stands, write_below, write_may, write_seen, write_enough, write_well}
use Rattle.vv_tables.proofs.Containers.{plain_charged}
use Rattle.vv_tables.proofs.HeldKept.{same_held}
use Rattle.vv_tables.proofs.Accepted.{charge_small}
use Rattle.vv_tables.proofs.Recharges.{home_stands, home_row, charge_kept}
use Rattle.vv_tables.proofs.tables.Tables.write.Goals as goal

pub touched-first-requires-clause-some : goal.touched-first-requires-clause-some
touched-first-requires-clause-some g c =
    let i = c.self.inside in
    let ps = place_numbers c.args.places.now in
    let fit = subst (λ (t : TablesView). fits t.durable (Write c.args.volume.0 c.args.first_block c.args.blocks) ps ≡ true) (sym c.self.view_is) c.requires.fits in
    write_some i.lsn i.shelf.shelf i.containers i.bindings i.tasks i.clones.items i.copies.items c.self.invariant.held c.self.invariant.kept c.args.volume.0 c.args.first_block c.args.blocks ps fit

pub touched-first-requires-clause-within : goal.touched-first-requires-clause-within
touched-first-requires-clause-within g c =
    let i = c.self.inside in
    let ps = place_numbers c.args.places.now in
    let fit = subst (λ (t : TablesView). fits t.durable (Write c.args.volume.0 c.args.first_block c.args.blocks) ps ≡ true) (sym c.self.view_is) c.requires.fits in
    write_few i.lsn i.shelf.shelf i.containers i.bindings i.tasks i.clones.items i.copies.items c.self.invariant.held c.self.invariant.kept c.args.volume.0 c.args.first_block c.args.blocks ps fit

pub allocated_count-before-requires : goal.allocated_count-before-requires
allocated_count-before-requires g c =
    let i = c.self.inside in
    let ps = place_numbers c.args.places.now in
    let fit = subst (λ (t : TablesView). fits t.durable (Write c.args.volume.0 c.args.first_block c.args.blocks) ps ≡ true) (sym c.self.view_is) c.requires.fits in
    write_stands i.lsn i.shelf.shelf i.containers i.bindings i.tasks i.clones.items i.copies.items c.self.invariant.held c.self.invariant.kept c.args.volume.0 c.args.first_block c.args.blocks ps fit

pub overflow_add-self : goal.overflow_add-self
overflow_add-self g c =
    let i = c.self.inside in
    let ps = place_numbers c.args.places.now in
    let fit = subst (λ (t : TablesView). fits t.durable (Write c.args.volume.0 c.args.first_block c.args.blocks) ps ≡ true) (sym c.self.view_is) c.requires.fits in
    let next : i.lsn < 4611686018427387903 =
    write_next i.lsn i.shelf.shelf i.containers i.bindings i.tasks i.clones.items i.copies.items c.self.invariant.held c.self.invariant.kept c.args.volume.0 c.args.first_block c.args.blocks ps fit in
    omega (arith, next)

pub put_places-requires-clause-may : goal.put_places-requires-clause-may
put_places-requires-clause-may g c =
    let i = c.self.inside in
    let ps = place_numbers c.args.places.now in
    let fit = subst (λ (t : TablesView). fits t.durable (Write c.args.volume.0 c.args.first_block c.args.blocks) ps ≡ true) (sym c.self.view_is) c.requires.fits in
    let first : c.touched-first.result.0 ≡ touched_first i.shelf.shelf.geometry.chunk_blocks c.args.first_block =
    c.touched-first.ensures.first ∙ ap (λ (g : Geometry). touched_first g.chunk_blocks c.args.first_block) c.self.invariant.geometry_is in
    subst (λ k. MayPut i.shelf.shelf c.args.volume.0 k (i.lsn + 1) ps) (sym first)
    (write_may i.lsn i.shelf.shelf i.containers i.bindings i.tasks i.clones.items i.copies.items c.self.invariant.held c.self.invariant.kept c.args.volume.0 c.args.first_block c.args.blocks ps fit)

pub put_places-requires-clause-few : goal.put_places-requires-clause-few
put_places-requires-clause-few g c =
    let i = c.self.inside in
    let ps = place_numbers c.args.places.now in
    let fit = subst (λ (t : TablesView). fits t.durable (Write c.args.volume.0 c.args.first_block c.args.blocks) ps ≡ true) (sym c.self.view_is) c.requires.fits in
    let first : c.touched-first.result.0 ≡ touched_first i.shelf.shelf.geometry.chunk_blocks c.args.first_block =
    c.touched-first.ensures.first ∙ ap (λ (g : Geometry). touched_first g.chunk_blocks c.args.first_block) c.self.invariant.geometry_is in
    let long : length ps ≡ length c.args.places.now = length-map c.args.places.now (λ (p : Place). p.0) in
    let below : touched_first i.shelf.shelf.geometry.chunk_blocks c.args.first_block + length ps < 4294967296 =
    write_below i.lsn i.shelf.shelf i.containers i.bindings i.tasks i.clones.items i.copies.items c.self.invariant.held c.self.invariant.kept c.args.volume.0 c.args.first_block c.args.blocks ps fit in
    omega (arith, first, long, below)

pub put_places-requires-clause-room : goal.put_places-requires-clause-room
put_places-requires-clause-room g c =
    let i = c.self.inside in
    let n = c.args.volume.0 in
    let ps = place_numbers c.args.places.now in
    let fit = subst (λ (t : TablesView). fits t.durable (Write n c.args.first_block c.args.blocks) ps ≡ true) (sym c.self.view_is) c.requires.fits in
    let first : c.touched-first.result.0 ≡ touched_first i.shelf.shelf.geometry.chunk_blocks c.args.first_block =
    c.touched-first.ensures.first ∙ ap (λ (g : Geometry). touched_first g.chunk_blocks c.args.first_block) c.self.invariant.geometry_is in
    let count : length c.args.places.now ≡ touched_count i.shelf.shelf.geometry.chunk_blocks c.args.first_block c.args.blocks =
    sym (length-map c.args.places.now (λ (p : Place). p.0))
    ∙ write_count i.lsn i.shelf.shelf i.containers i.bindings i.tasks i.clones.items i.copies.items c.self.invariant.held c.self.invariant.kept n c.args.first_block c.args.blocks ps fit in
    let room : IsWriteRoom (record { durable = seen_durable i.lsn i.shelf.shelf i.containers i.bindings i.tasks i.clones.items i.copies.items; pages = i.shelf.pages; rooms = i.shelf.rooms }) n c.args.first_block c.args.blocks c.room.inside.change =
    subst (λ (t : TablesView). IsWriteRoom t n c.args.first_block c.args.blocks c.room.inside.change) (sym c.self.view_is)
    (subst (λ r. IsWriteRoom c.args.self.now n c.args.first_block c.args.blocks r) (sym c.room.view_is) c.requires.room) in
    subst (λ k. IsChangeRoom i.shelf n k (length c.args.places.now) c.room.inside.change) (sym first)
    (subst (λ k. IsChangeRoom i.shelf n (touched_first i.shelf.shelf.geometry.chunk_blocks c.args.first_block) k c.room.inside.change) (sym count) room)

pub allocated_count-after-requires : goal.allocated_count-after-requires
allocated_count-after-requires g c =
    let i = c.self.inside in
    let n = c.args.volume.0 in
    let ps = place_numbers c.args.places.now in
    let d : Durable Entry = seen_durable i.lsn i.shelf.shelf i.containers i.bindings i.tasks i.clones.items i.copies.items in
    let fit = subst (λ (t : TablesView). fits t.durable (Write n c.args.first_block c.args.blocks) ps ≡ true) (sym c.self.view_is) c.requires.fits in
    let first : c.touched-first.result.0 ≡ touched_first i.shelf.shelf.geometry.chunk_blocks c.args.first_block =
    c.touched-first.ensures.first ∙ ap (λ (g : Geometry). touched_first g.chunk_blocks c.args.first_block) c.self.invariant.geometry_is in
    let long : length c.args.places.now ≡ length ps = sym (length-map c.args.places.now (λ (p : Place). p.0)) in
    let shelf : c.put_places.new.shelf.shelf ≡ with_chunks i.shelf.shelf n (put_at (numbers_from (touched_first i.shelf.shelf.geometry.chunk_blocks c.args.first_block) (length ps)) (placed_entries ps (i.lsn + 1))) =
    c.put_places.ensures.shelf
    ∙ ap (λ k. with_chunks i.shelf.shelf n (put_at (numbers_from k (length c.args.places.now)) (placed_entries ps (i.lsn + 1)))) first
    ∙ ap (λ k. with_chunks i.shelf.shelf n (put_at (numbers_from (touched_first i.shelf.shelf.geometry.chunk_blocks c.args.first_block) k) (placed_entries ps (i.lsn + 1)))) long in
    subst (λ (t : ShelfState). IsSome (volume_in t n)) (sym shelf)
    (changed_stands n _ i.shelf.shelf.volumes (λ v. refl) (write_stands i.lsn i.shelf.shelf i.containers i.bindings i.tasks i.clones.items i.copies.items c.self.invariant.held c.self.invariant.kept n c.args.first_block c.args.blocks ps fit))

pub recharge-requires-clause-stands : goal.recharge-requires-clause-stands
recharge-requires-clause-stands g c =
    let i = c.self.inside in
    let n = c.args.volume.0 in
    let ps = place_numbers c.args.places.now in
    let d : Durable Entry = seen_durable i.lsn i.shelf.shelf i.containers i.bindings i.tasks i.clones.items i.copies.items in
    let fit = subst (λ (t : TablesView). fits t.durable (Write n c.args.first_block c.args.blocks) ps ≡ true) (sym c.self.view_is) c.requires.fits in
    let home : c.home_of-home.result.0 ≡ home_of (shape_of_tables d) n =
    c.home_of-home.ensures ∙ ap (λ (t : TablesView). home_of (shape_of_tables t.durable) n) (sym c.self.view_is) in
    let stands = write_shape_stands i.lsn i.shelf.shelf i.containers i.bindings i.tasks i.clones.items i.copies.items c.self.invariant.held c.self.invariant.kept n c.args.first_block c.args.blocks ps fit in
    let row : IsSome (row_of i.containers (home_of (shape_of_tables d) n)) = home_row d c.self.invariant.kept.well i.containers n refl stands in
    subst (λ k. IsSome (row_of i.containers k)) (sym home) row

pub recharge-requires-clause-enough : goal.recharge-requires-clause-enough
recharge-requires-clause-enough g c =
    let i = c.self.inside in
    let n = c.args.volume.0 in
    let ps = place_numbers c.args.places.now in
    let d : Durable Entry = seen_durable i.lsn i.shelf.shelf i.containers i.bindings i.tasks i.clones.items i.copies.items in
    let fit = subst (λ (t : TablesView). fits t.durable (Write n c.args.first_block c.args.blocks) ps ≡ true) (sym c.self.view_is) c.requires.fits in
    let first : c.touched-first.result.0 ≡ touched_first i.shelf.shelf.geometry.chunk_blocks c.args.first_block =
    c.touched-first.ensures.first ∙ ap (λ (g : Geometry). touched_first g.chunk_blocks c.args.first_block) c.self.invariant.geometry_is in
    let long : length c.args.places.now ≡ length ps = sym (length-map c.args.places.now (λ (p : Place). p.0)) in
    let shelf : c.put_places.new.shelf.shelf ≡ with_chunks i.shelf.shelf n (put_at (numbers_from (touched_first i.shelf.shelf.geometry.chunk_blocks c.args.first_block) (length ps)) (placed_entries ps (i.lsn + 1))) =
    c.put_places.ensures.shelf
    ∙ ap (λ k. with_chunks i.shelf.shelf n (put_at (numbers_from k (length c.args.places.now)) (placed_entries ps (i.lsn + 1)))) first
    ∙ ap (λ k. with_chunks i.shelf.shelf n (put_at (numbers_from (touched_first i.shelf.shelf.geometry.chunk_blocks c.args.first_block) k) (placed_entries ps (i.lsn + 1)))) long in
    let home : c.home_of-home.result.0 ≡ home_of (shape_of_tables d) n =
    c.home_of-home.ensures ∙ ap (λ (t : TablesView). home_of (shape_of_tables t.durable) n) (sym c.self.view_is) in
    let stands = write_shape_stands i.lsn i.shelf.shelf i.containers i.bindings i.tasks i.clones.items i.copies.items c.self.invariant.held c.self.invariant.kept n c.args.first_block c.args.blocks ps fit in
    let row : IsSome (row_of i.containers (home_of (shape_of_tables d) n)) = home_row d c.self.invariant.kept.well i.containers n refl stands in
    let charged : charge_of i.containers c.home_of-home.result.0 ≡ Some (charge (shape_of_tables d) (home_of (shape_of_tables d) n)) =
    ap (charge_of i.containers) home ∙ charge_kept d i.containers (home_of (shape_of_tables d) n) c.self.invariant.kept.charges row in
    let enough : allocated_of (chunks_in i.shelf.shelf n) ≤ charge (shape_of_tables d) (home_of (shape_of_tables d) n) + allocated_of (chunks_in c.put_places.new.shelf.shelf n) =
    write_enough i.lsn i.shelf.shelf i.containers i.bindings i.tasks i.clones.items i.copies.items c.self.invariant.held c.self.invariant.kept n c.args.first_block c.args.blocks ps fit c.put_places.new.shelf.shelf shelf in
    let before : c.allocated_count-before.result ≡ allocated_of (chunks_in i.shelf.shelf n) = c.allocated_count-before.ensures in
    let after : c.allocated_count-after.result ≡ allocated_of (chunks_in c.put_places.new.shelf.shelf n) = c.allocated_count-after.ensures in
    subst (λ (o : Option ℕ). IfSome o (λ was. c.allocated_count-before.result ≤ was + c.allocated_count-after.result)) (sym charged) (omega (arith, enough, before, after))

pub recharge-requires-clause-few : goal.recharge-requires-clause-few
recharge-requires-clause-few g c =
    let i = c.self.inside in
    let n = c.args.volume.0 in
    let ps = place_numbers c.args.places.now in
    let d : Durable Entry = seen_durable i.lsn i.shelf.shelf i.containers i.bindings i.tasks i.clones.items i.copies.items in
    let fit = subst (λ (t : TablesView). fits t.durable (Write n c.args.first_block c.args.blocks) ps ≡ true) (sym c.self.view_is) c.requires.fits in
    let home : c.home_of-home.result.0 ≡ home_of (shape_of_tables d) n =
    c.home_of-home.ensures ∙ ap (λ (t : TablesView). home_of (shape_of_tables t.durable) n) (sym c.self.view_is) in
    let stands = write_shape_stands i.lsn i.shelf.shelf i.containers i.bindings i.tasks i.clones.items i.copies.items c.self.invariant.held c.self.invariant.kept n c.args.first_block c.args.blocks ps fit in
    let row : IsSome (row_of i.containers (home_of (shape_of_tables d) n)) = home_row d c.self.invariant.kept.well i.containers n refl stands in
    let charged : charge_of i.containers c.home_of-home.result.0 ≡ Some (charge (shape_of_tables d) (home_of (shape_of_tables d) n)) =
    ap (charge_of i.containers) home ∙ charge_kept d i.containers (home_of (shape_of_tables d) n) c.self.invariant.kept.charges row in
    let few : charge (shape_of_tables d) (home_of (shape_of_tables d) n) < 4294967296 =
    charge_small d c.self.invariant.kept.well (home_of (shape_of_tables d) n) (home_stands d c.self.invariant.kept.well n stands) in
    let small : c.allocated_count-after.result < 4294967296 = c.allocated_count-after.type_inv in
    subst (λ (o : Option ℕ). IfSome o (λ was. was + c.allocated_count-after.result < 18446744073709551616)) (sym charged) (omega (arith, few, small))

pub invariant_of-self : goal.invariant_of-self
invariant_of-self g c =
    let i = c.self.inside in
    let n = c.args.volume.0 in
    let ps = place_numbers c.args.places.now in
    let d : Durable Entry = seen_durable i.lsn i.shelf.shelf i.containers i.bindings i.tasks i.clones.items i.copies.items in
    let fit = subst (λ (t : TablesView). fits t.durable (Write n c.args.first_block c.args.blocks) ps ≡ true) (sym c.self.view_is) c.requires.fits in
    let first : c.touched-first.result.0 ≡ touched_first i.shelf.shelf.geometry.chunk_blocks c.args.first_block =
    c.touched-first.ensures.first ∙ ap (λ (g : Geometry). touched_first g.chunk_blocks c.args.first_block) c.self.invariant.geometry_is in
    let long : length c.args.places.now ≡ length ps = sym (length-map c.args.places.now (λ (p : Place). p.0)) in
    let shelf : c.put_places.new.shelf.shelf ≡ with_chunks i.shelf.shelf n (put_at (numbers_from (touched_first i.shelf.shelf.geometry.chunk_blocks c.args.first_block) (length ps)) (placed_entries ps (i.lsn + 1))) =
    c.put_places.ensures.shelf
    ∙ ap (λ k. with_chunks i.shelf.shelf n (put_at (numbers_from k (length c.args.places.now)) (placed_entries ps (i.lsn + 1)))) first
    ∙ ap (λ k. with_chunks i.shelf.shelf n (put_at (numbers_from (touched_first i.shelf.shelf.geometry.chunk_blocks c.args.first_block) k) (placed_entries ps (i.lsn + 1)))) long in
    let home : c.home_of-home.result.0 ≡ home_of (shape_of_tables d) n =
    c.home_of-home.ensures ∙ ap (λ (t : TablesView). home_of (shape_of_tables t.durable) n) (sym c.self.view_is) in
    let stands = write_shape_stands i.lsn i.shelf.shelf i.containers i.bindings i.tasks i.clones.items i.copies.items c.self.invariant.held c.self.invariant.kept n c.args.first_block c.args.blocks ps fit in
    let row : IsSome (row_of i.containers (home_of (shape_of_tables d) n)) = home_row d c.self.invariant.kept.well i.containers n refl stands in
    let charged : charge_of i.containers c.home_of-home.result.0 ≡ Some (charge (shape_of_tables d) (home_of (shape_of_tables d) n)) =
    ap (charge_of i.containers) home ∙ charge_kept d i.containers (home_of (shape_of_tables d) n) c.self.invariant.kept.charges row in
    let enough : allocated_of (chunks_in i.shelf.shelf n) ≤ charge (shape_of_tables d) (home_of (shape_of_tables d) n) + allocated_of (chunks_in c.put_places.new.shelf.shelf n) =
    write_enough i.lsn i.shelf.shelf i.containers i.bindings i.tasks i.clones.items i.copies.items c.self.invariant.held c.self.invariant.kept n c.args.first_block c.args.blocks ps fit c.put_places.new.shelf.shelf shelf in
    let before : c.allocated_count-before.result ≡ allocated_of (chunks_in i.shelf.shelf n) = c.allocated_count-before.ensures in
    let after : c.allocated_count-after.result ≡ allocated_of (chunks_in c.put_places.new.shelf.shelf n) = c.allocated_count-after.ensures in
    let new : ℕ = charge (shape_of_tables d) (home_of (shape_of_tables d) n) + c.allocated_count-after.result - c.allocated_count-before.result in
    let rows : c.recharge.new.containers ≡ with_charge i.containers (home_of (shape_of_tables d) n) new =
    subst (λ (o : Option ℕ). IfSome o (λ was. c.recharge.new.containers ≡ with_charge i.containers c.home_of-home.result.0 (was + c.allocated_count-after.result - c.allocated_count-before.result))) charged c.recharge.ensures
    ∙ ap (λ k. with_charge i.containers k new) home in
    record {
      geometry_is = c.self.invariant.geometry_is ∙ ap (λ (t : ShelfState). t.geometry) (sym shelf);
      kept = write_well i.lsn i.shelf.shelf i.containers i.bindings i.tasks i.clones.items i.copies.items c.self.invariant.held c.self.invariant.kept n c.args.first_block c.args.blocks ps fit c.put_places.new.shelf.shelf shelf
          c.recharge.new.containers new rows (omega (arith, enough, before, after));
      held = same_held i.shelf.shelf c.put_places.new.shelf.shelf i.clones.items i.copies.items (ap (λ (t : ShelfState). t.held) shelf) c.self.invariant.held;
      clone_rows = c.self.invariant.clone_rows;
      copy_rows = c.self.invariant.copy_rows;
    }

pub returns-clause-durable : goal.returns-clause-durable
returns-clause-durable g c =
    let i = c.self.inside in
    let n = c.args.volume.0 in
    let ps = place_numbers c.args.places.now in
    let d : Durable Entry = seen_durable i.lsn i.shelf.shelf i.containers i.bindings i.tasks i.clones.items i.copies.items in
    let fit = subst (λ (t : TablesView). fits t.durable (Write n c.args.first_block c.args.blocks) ps ≡ true) (sym c.self.view_is) c.requires.fits in
    let first : c.touched-first.result.0 ≡ touched_first i.shelf.shelf.geometry.chunk_blocks c.args.first_block =
    c.touched-first.ensures.first ∙ ap (λ (g : Geometry). touched_first g.chunk_blocks c.args.first_block) c.self.invariant.geometry_is in
    let long : length c.args.places.now ≡ length ps = sym (length-map c.args.places.now (λ (p : Place). p.0)) in
    let shelf : c.put_places.new.shelf.shelf ≡ with_chunks i.shelf.shelf n (put_at (numbers_from (touched_first i.shelf.shelf.geometry.chunk_blocks c.args.first_block) (length ps)) (placed_entries ps (i.lsn + 1))) =
    c.put_places.ensures.shelf
    ∙ ap (λ k. with_chunks i.shelf.shelf n (put_at (numbers_from k (length c.args.places.now)) (placed_entries ps (i.lsn + 1)))) first
    ∙ ap (λ k. with_chunks i.shelf.shelf n (put_at (numbers_from (touched_first i.shelf.shelf.geometry.chunk_blocks c.args.first_block) k) (placed_entries ps (i.lsn + 1)))) long in
    let home : c.home_of-home.result.0 ≡ home_of (shape_of_tables d) n =
    c.home_of-home.ensures ∙ ap (λ (t : TablesView). home_of (shape_of_tables t.durable) n) (sym c.self.view_is) in
    let stands = write_shape_stands i.lsn i.shelf.shelf i.containers i.bindings i.tasks i.clones.items i.copies.items c.self.invariant.held c.self.invariant.kept n c.args.first_block c.args.blocks ps fit in
    let row : IsSome (row_of i.containers (home_of (shape_of_tables d) n)) = home_row d c.self.invariant.kept.well i.containers n refl stands in
    let charged : charge_of i.containers c.home_of-home.result.0 ≡ Some (charge (shape_of_tables d) (home_of (shape_of_tables d) n)) =
    ap (charge_of i.containers) home ∙ charge_kept d i.containers (home_of (shape_of_tables d) n) c.self.invariant.kept.charges row in
    let new : ℕ = charge (shape_of_tables d) (home_of (shape_of_tables d) n) + c.allocated_count-after.result - c.allocated_count-before.result in
    let rows : c.recharge.new.containers ≡ with_charge i.containers (home_of (shape_of_tables d) n) new =
    subst (λ (o : Option ℕ). IfSome o (λ was. c.recharge.new.containers ≡ with_charge i.containers c.home_of-home.result.0 (was + c.allocated_count-after.result - c.allocated_count-before.result))) charged c.recharge.ensures
    ∙ ap (λ k. with_charge i.containers k new) home in
    let plain : plain_containers c.recharge.new.containers ≡ plain_containers i.containers =
    ap plain_containers rows ∙ plain_charged i.containers (home_of (shape_of_tables d) n) new in
    write_seen i.lsn i.shelf.shelf i.containers i.bindings i.tasks i.clones.items i.copies.items c.self.invariant.held c.self.invariant.kept n c.args.first_block c.args.blocks ps fit c.put_places.new.shelf.shelf c.recharge.new.containers shelf plain
    ∙ ap (λ (t : TablesView). replayed t.durable (Write n c.args.first_block c.args.blocks) ps) c.self.view_is
