-- What an event that fits says of the volumes that it names: that they stand, and that its blocks are inside.
use Rattle.std.proofs.Common.{ℕ, ◌≡◌, ◌+◌, ◌*◌, ◌≤◌, true, List, [], map, length, None, refl, sym, ap, subst, ◌∙◌}
use Rattle.std.specs.Prelude.{IsSome}
use Rattle.vv_units.specs.declared.field.Field.TheVariants.{Vvol as in_vvol, Source as in_source, Base as in_base}
use Rattle.vv_flat.specs.State.{Durable, volume_of}
use Rattle.vv_flat.specs.Chunks.{Entry, shape_of_tables, volume_blocks}
use Rattle.vv_flat.specs.Refusals.{Accept}
use Rattle.vv_flat.specs.Changes.{Change, Snapshot, FastClone, Write, Unmap, StartClone, StartCopy, judge, state_checks, stamps_of}
use Rattle.vv_flat.specs.Replay.{fits}
use Rattle.vv_flat.proofs.KeepRules.{fits_accepted}
use Rattle.vv_flat.proofs.Verdicts.{passed_state}
use Rattle.vv_tables.proofs.StandingVolumes.{not_missing}
use Rattle.vv_tables.proofs.AcceptedWrites.{some_blocks, blocks_inside}

module _ (d : Durable Entry) where
  accepted : (change : Change) (places : List ℕ) → fits d change places ≡ true → judge None (shape_of_tables d) change ≡ Accept
  accepted change places fit = fits_accepted d change places fit

  pub snapshot_stands : (n : ℕ) → fits d (Snapshot n) [] ≡ true → IsSome (volume_of d n)
  unfolding state_checks
  snapshot_stands n fit = not_missing d n in_vvol (passed_state None (shape_of_tables d) (Snapshot n) (accepted (Snapshot n) [] fit) 0)

  pub fast_clone_stands : (n : ℕ) → fits d (FastClone n) [] ≡ true → IsSome (volume_of d n)
  unfolding state_checks
  fast_clone_stands n fit = not_missing d n in_vvol (passed_state None (shape_of_tables d) (FastClone n) (accepted (FastClone n) [] fit) 0)

  pub unmap_stands : (n : ℕ) (ranges : List (ℕ × ℕ)) → fits d (Unmap n ranges) [] ≡ true → IsSome (volume_of d n)
  unfolding state_checks
  unmap_stands n ranges fit = not_missing d n in_vvol (passed_state None (shape_of_tables d) (Unmap n ranges) (accepted (Unmap n ranges) [] fit) 0)

  pub clone_stands : (n : ℕ) → fits d (StartClone n) [] ≡ true → IsSome (volume_of d n)
  unfolding state_checks
  clone_stands n fit = not_missing d n in_vvol (passed_state None (shape_of_tables d) (StartClone n) (accepted (StartClone n) [] fit) 0)

  module _ (n first blocks : ℕ) (places : List ℕ) (fit : fits d (Write n first blocks) places ≡ true) where
    pub write_stands : IsSome (volume_of d n)
    unfolding state_checks
    write_stands = not_missing d n in_vvol (passed_state None (shape_of_tables d) (Write n first blocks) (accepted (Write n first blocks) places fit) 0)

    pub write_some : 1 ≤ blocks
    write_some = some_blocks (shape_of_tables d) n first blocks (accepted (Write n first blocks) places fit)

    pub write_inside : first + blocks ≤ volume_blocks d.geometry.chunk_blocks (stamps_of (shape_of_tables d) n)
    write_inside = blocks_inside (shape_of_tables d) n first blocks (accepted (Write n first blocks) places fit)

  module _ (source base target : ℕ) (fit : fits d (StartCopy source base target) [] ≡ true) where
    pub source_stands : IsSome (volume_of d source)
    unfolding state_checks
    source_stands = not_missing d source in_source (passed_state None (shape_of_tables d) (StartCopy source base target) (accepted (StartCopy source base target) [] fit) 0)

    pub base_stands : IsSome (volume_of d base)
    unfolding state_checks
    base_stands = not_missing d base in_base (passed_state None (shape_of_tables d) (StartCopy source base target) (accepted (StartCopy source base target) [] fit) 1)
