-- Tables that are filled with bytes go as the flat array goes, and arrays of one shape keep one shape: two uses of the
-- law that a change goes with a function of the chunks. The geometry stays.
use Rattle.std.proofs.Common.{◌≡◌, ℕ, refl, ap, sym, ◌∙◌, Bool, true, false, cond, List, map}
use Rattle.std.specs.Prelude.{Option, Some, None}
use Rattle.vv_units.specs.declared.geometry.Geometry.{Geometry}
use Rattle.vv_flat.specs.Lists.{if_found}
use Rattle.vv_flat.specs.State.{Durable, Task, Job, Clone, Copy, map_durable, volume_of, clone_of, copy_of, task_of}
use Rattle.vv_flat.specs.Chunks.{ChunkValue, Entry, filled, shape, filled_tables, unmapped_value, unmapped_entry}
use Rattle.vv_flat.specs.Space.{is_running}
use Rattle.vv_flat.specs.Tasks.{job_turned, turned, with_clone, with_copy, cancelled, clone_turned, copy_turned}
use Rattle.vv_flat.specs.Changes.{Change, MakeContainer, MakeVolume, DeleteVolume, GrowVolume, SetMetadata, Snapshot, FastClone, Revert, Write, Unmap, SetEndpoints, Bind, Unbind, UnbindAll, StartClone, StartCopy, Turn, Cancel, effect, apply}
use Rattle.vv_flat.proofs.MapDurable.{map-apply}

-- either choice has the geometry
either : {X : Type 0} (g : Geometry) (b : Bool) (d e : Durable X) → d.geometry ≡ g → e.geometry ≡ g → (cond b d e).geometry ≡ g
either g true d e here there = here
either g false d e here there = there

found_has : {A X : Type 0} (g : Geometry) (o : Option A) (h : A → Durable X) (d : Durable X)
    → ((x : A) → (h x).geometry ≡ g) → d.geometry ≡ g → (if_found o h d).geometry ≡ g
found_has g None h d here there = there
found_has g (Some x) h d here there = here x

module _ {X : Type 0} (s : X → ℕ) (values : List X) (u : X) (d : Durable X) where
  job_keeps : (t : Task) (job : Job) → (job_turned s values d t job).geometry ≡ d.geometry
  job_keeps t (Clone source) =
      found_has d.geometry (clone_of d t.number) (clone_turned s values d t source) d (λ c. either d.geometry _ _ _ refl refl) refl
  job_keeps t (Copy source base target) =
      found_has d.geometry (copy_of d t.number) (copy_turned d t target) d (λ c. either d.geometry _ _ _ refl refl) refl

  -- the geometry stays
  pub geometry-effect : (c : Change) → (effect s values u d c).geometry ≡ d.geometry
  unfolding effect turned with_clone with_copy cancelled
  geometry-effect (MakeContainer quota offers) = refl
  geometry-effect (MakeVolume k vtype chunks needs) = refl
  geometry-effect (DeleteVolume n) = refl
  geometry-effect (GrowVolume n chunks) = refl
  geometry-effect (SetMetadata n key text) = refl
  geometry-effect (Snapshot n) = found_has d.geometry (volume_of d n) _ d (λ v. refl) refl
  geometry-effect (FastClone n) = found_has d.geometry (volume_of d n) _ d (λ v. refl) refl
  geometry-effect (Revert n snapshot) = found_has d.geometry (volume_of d snapshot) _ d (λ v. refl) refl
  geometry-effect (Write n first blocks) = refl
  geometry-effect (Unmap n ranges) = refl
  geometry-effect (SetEndpoints host endpoints) = refl
  geometry-effect (Bind host n) = refl
  geometry-effect (Unbind host endpoint secondary) = refl
  geometry-effect (UnbindAll host) = refl
  geometry-effect (StartClone n) = found_has d.geometry (volume_of d n) _ d (λ v. refl) refl
  geometry-effect (StartCopy source base target) =
      found_has d.geometry (volume_of d source) _ d (λ v. found_has d.geometry (volume_of d base) _ d (λ w. refl) refl) refl
  geometry-effect (Turn n) =
      found_has d.geometry (task_of d n) _ d (λ t. either d.geometry (is_running t) _ d (job_keeps t t.job) refl) refl
  geometry-effect (Cancel n) = refl

  pub geometry-apply : (c : Change) → (apply s values u d c).geometry ≡ d.geometry
  unfolding apply
  geometry-apply c = geometry-effect c

pub filled-apply : (bytes_at : ℕ → List ℕ) (entries : List Entry) (tables : Durable Entry) (change : Change)
    → filled_tables bytes_at (apply (λ e. e.stamp) entries unmapped_entry tables change)
    ≡ apply (λ x. x.stamp) (map (filled tables.geometry.chunk_blocks bytes_at) entries)
    (unmapped_value tables.geometry.chunk_blocks) (filled_tables bytes_at tables) change
filled-apply bytes_at entries tables change =
    ap (λ (g : Geometry). map_durable (filled g.chunk_blocks bytes_at) (apply (λ e. e.stamp) entries unmapped_entry tables change))
    (geometry-apply (λ e. e.stamp) entries unmapped_entry tables change)
    ∙ map-apply (filled tables.geometry.chunk_blocks bytes_at) (λ e. e.stamp) (λ x. x.stamp) (λ e. refl) entries
    unmapped_entry tables change

pub same_shape-apply : (d e : Durable ChunkValue) → shape d ≡ shape e → (these those : List ChunkValue)
    → map (λ (x : ChunkValue). x.stamp) these ≡ map (λ (x : ChunkValue). x.stamp) those
    → (unmapped : ChunkValue) (change : Change)
    → shape (apply (λ x. x.stamp) these unmapped d change) ≡ shape (apply (λ x. x.stamp) those unmapped e change)
same_shape-apply d e same these those stamps unmapped change =
    map-apply (λ (x : ChunkValue). x.stamp) (λ x. x.stamp) (λ n. n) (λ x. refl) these unmapped d change
    ∙ ap (λ m. apply (λ n. n) (map (λ (x : ChunkValue). x.stamp) these) unmapped.stamp m change) same
    ∙ ap (λ ns. apply (λ n. n) ns unmapped.stamp (shape e) change) stamps
    ∙ sym (map-apply (λ (x : ChunkValue). x.stamp) (λ x. x.stamp) (λ n. n) (λ x. refl) those unmapped e change)
