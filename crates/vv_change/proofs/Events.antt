-- What memory is taken for, event by event: that what is asked of each is there.
use Rattle.std.proofs.Common.{ℕ, ◌≡◌, ◌+◌, ◌*◌, ◌≤◌, ◌==◌, true, false, not, Bool, List, [], map, length, cond, count_by, None, Option, Some, refl, sym, ap, subst, ◌∙◌}
use Rattle.std.specs.Prelude.{IsSome, IsTrue}
use Rattle.std.specs.List.{find}
use Rattle.vv_units.specs.declared.numbers.VolumeId.{VolumeId}
use Rattle.vv_units.specs.declared.numbers.TaskId.{TaskId}
use Rattle.vv_units.specs.declared.numbers.Place.{Place}
use Rattle.vv_flat.specs.State.{Volume, Durable, volume_of}
use Rattle.vv_flat.specs.Chunks.{Entry, shape_of_tables, volume_blocks}
use Rattle.vv_flat.specs.Refusals.{Accept}
use Rattle.vv_flat.specs.Changes as change
use Rattle.vv_flat.specs.Changes.{Change, judge, changes_nothing, stamps_of, is_task_running}
use Rattle.vv_flat.specs.Replay.{fits}
use Rattle.vv_flat.proofs.KeepRules.{fits_accepted}
use Rattle.vv_record.specs.declared.record.ChunkRange.{ChunkRange}
use Rattle.vv_record.specs.declared.record.ChunkCopy.{ChunkCopy}
use Rattle.vv_record.specs.declared.record.Event.{Event}
use Rattle.vv_record.specs.declared.record.Event.TheVariants.{Snapshot, FastClone, Write, Unmap, StartClone, StartCopy, Turn}
use Rattle.vv_event.specs.Events.{change_of, places_of}
use Rattle.vv_tables.proofs.AcceptedWrites.{something}
use Rattle.vv_change.proofs.Standing.{snapshot_stands, fast_clone_stands, unmap_stands, clone_stands, write_stands, write_some, write_inside, source_stands, base_stands}

-- an event that fits, by another name
abbrev Fits : Durable Entry → Event → Type 0
Fits d e = fits d (change_of e) (places_of e) ≡ true

module _ (d : Durable Entry) (e : Event) (fit : fits d (change_of e) (places_of e) ≡ true) where
  pub event_snapshot : (v : VolumeId) → e ≡ Snapshot v → IsSome (volume_of d v.0)
  unfolding change_of places_of
  event_snapshot v is = snapshot_stands d v.0 (subst (Fits d) is fit)

  pub event_fast_clone : (v : VolumeId) → e ≡ FastClone v → IsSome (volume_of d v.0)
  unfolding change_of places_of
  event_fast_clone v is = fast_clone_stands d v.0 (subst (Fits d) is fit)

  pub event_unmap : (v : VolumeId) (ranges : List ChunkRange) → e ≡ Unmap v ranges → IsSome (volume_of d v.0)
  unfolding change_of places_of
  event_unmap v ranges is = unmap_stands d v.0 _ (subst (Fits d) is fit)

  pub event_clone : (v : VolumeId) → e ≡ StartClone v → IsSome (volume_of d v.0)
  unfolding change_of places_of
  event_clone v is = clone_stands d v.0 (subst (Fits d) is fit)

  pub event_write : (v : VolumeId) (first blocks : ℕ) (places : List Place) → e ≡ Write v first blocks places → IsSome (volume_of d v.0)
  unfolding change_of places_of
  event_write v first blocks places is = write_stands d v.0 first blocks (map (λ (p : Place). p.0) places) (subst (Fits d) is fit)

  pub event_blocks : (v : VolumeId) (first blocks : ℕ) (places : List Place) → e ≡ Write v first blocks places → 1 ≤ blocks
  unfolding change_of places_of
  event_blocks v first blocks places is = write_some d v.0 first blocks (map (λ (p : Place). p.0) places) (subst (Fits d) is fit)

  pub event_inside : (v : VolumeId) (first blocks : ℕ) (places : List Place) → e ≡ Write v first blocks places
      → first + blocks ≤ volume_blocks d.geometry.chunk_blocks (stamps_of (shape_of_tables d) v.0)
  unfolding change_of places_of
  event_inside v first blocks places is = write_inside d v.0 first blocks (map (λ (p : Place). p.0) places) (subst (Fits d) is fit)

  pub event_source : (source base target : VolumeId) → e ≡ StartCopy source base target → IsSome (volume_of d source.0)
  unfolding change_of places_of
  event_source source base target is = source_stands d source.0 base.0 target.0 (subst (Fits d) is fit)

  pub event_base : (source base target : VolumeId) → e ≡ StartCopy source base target → IsSome (volume_of d base.0)
  unfolding change_of places_of
  event_base source base target is = base_stands d source.0 base.0 target.0 (subst (Fits d) is fit)

  pub event_turn : (task : TaskId) (copies : List ChunkCopy) → e ≡ Turn task copies → is_task_running (shape_of_tables d) task.0 ≡ true
  unfolding change_of places_of changes_nothing
  event_turn task copies is =
      runs (is_task_running (shape_of_tables d) task.0)
      (something (shape_of_tables d) (change.Turn task.0) (fits_accepted d (change.Turn task.0) (map (λ (c : ChunkCopy). c.place.0) copies) (subst (Fits d) is fit)))
    where
      runs : (b : Bool) → not b ≡ false → b ≡ true
      runs true e = refl
      runs false e = absurd (cc)
