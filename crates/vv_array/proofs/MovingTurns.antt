-- When a change moves blocks between the disk and memory: a write of some blocks, and a turn of a clone that has chunks to
-- copy. It serves the calls whose reads fail.
use Rattle.std.proofs.Common.{◌≡◌, ℕ, ◌+◌, ◌-◌, ◌<◌, ◌≤◌, ◌==◌, ◌&&◌, ◌||◌, Bool, true, false, not, cond, List, [], ◌∷◌, map, length, Option, None, Some, refl, sym, ap, ◌∙◌, subst, arith}
use Rattle.std.proofs.lemmas.Bool.{eqb-true, and_from, and_parts, lt-ltb}
use Rattle.vv_flat.specs.Lists.{if_found}
use Rattle.vv_flat.specs.State.{Durable, Task, Job, Clone, Copy, RunningClone, task_of, clone_of}
use Rattle.vv_flat.specs.Chunks.{Entry, shape_of_tables}
use Rattle.vv_flat.specs.Space.{allocated_count, is_running, is_clone}
use Rattle.vv_flat.specs.Tasks.{turn_indexes, job_indexes, turned_indexes}
use Rattle.vv_flat.specs.Changes.{Change, Turn, changed_indexes}
use Rattle.std.specs.Prelude.{nat_lt}
use Rattle.vv_flat.proofs.MapLists.{map-same}
use Rattle.vv_flat.proofs.Pool.{turn_long, is_kept}
use Rattle.vv_flat.proofs.Steps.{find-passes}
use Rattle.vv_flat.proofs.MapDurable.{same-changed_indexes}
use Rattle.vv_flat.proofs.Kept.{Kept, kept}
use Rattle.vv_laws.proofs.WellFormed.{shape_rules}
use Rattle.vv_flat.specs.State.{Volume, volume_of}
use Rattle.vv_flat.specs.Chunks.{volume_blocks, ChunkValue, filled, filled_tables, copied_values}
use Rattle.vv_flat.specs.Flat.{new_values}
use Rattle.vv_flat.specs.Changes.{Write, stamps_of}
use Rattle.vv_flat.specs.Replay.{fits, is_accepted, is_fresh}
use Rattle.vv_flat.specs.Lists.{all_different}
use Rattle.vv_flat.specs.WellFormed.{is_well_formed}
use Rattle.std.specs.Prelude.{IsSome, option_map, ◌*◌}
use Rattle.std.specs.List.{list_all}
use Rattle.std.proofs.lemmas.List.{length-map}
use Rattle.vv_tables.proofs.ShapeVolumes.{shaped, shape_found}
use Rattle.vv_change.proofs.Standing.{write_stands, write_some, write_inside}
use Rattle.vv_flat.specs.Changes.{judge}
use Rattle.vv_meaning.specs.Steps.{is_copying}
use Rattle.vv_array.specs.Puts.{moves_chunks}

module _ (d : Durable ℕ) (rules : Kept d) where
  clone_left : (t : Task) → task_of d t.number ≡ Some t → (o : Option (RunningClone ℕ)) → clone_of d t.number ≡ o
      → length (if_found o (λ (c : RunningClone ℕ). turn_indexes (map (λ s. s) c.image) t.done) []) ≤ t.total - t.done
  clone_left t found None e = omega arith
  clone_left t found (Some c) e =
      let same : allocated_count (map (λ s. s) c.image) ≡ allocated_count c.image = ap allocated_count (map-same (λ s. s) (λ s. refl) c.image) in
      let total : t.total ≡ allocated_count c.image =
      eqb-true t.total (allocated_count c.image) (and_parts (t.total == allocated_count c.image) _ (and_parts _ _ (and_parts _ _ (is_kept d t c rules.clones found e)).0).0).0 in
      let long : length (turn_indexes (map (λ s. s) c.image) t.done) ≤ allocated_count (map (λ s. s) c.image) - t.done = turn_long (map (λ s. s) c.image) t.done in
      omega (arith, same, total, long)

  job_left : (t : Task) → task_of d t.number ≡ Some t → (job : Job) → t.job ≡ job → 1 ≤ length (job_indexes (λ s. s) d t job) → (is_clone job ≡ true) × (t.done < t.total)
  job_left t found (Clone source) e some = (refl, let few = clone_left t found (clone_of d t.number) refl in omega (arith, few, some))
  job_left t found (Copy source base target) e some = absurd (omega (arith, some))

  copies_left : (n : ℕ) → 1 ≤ length (turned_indexes (λ s. s) d n) → is_copying d (Turn n) ≡ true
  unfolding turned_indexes
  copies_left n some = of_task (task_of d n) refl some
    where
      of_run : (t : Task) → task_of d n ≡ Some t → (b : Bool) → is_running t ≡ b → 1 ≤ length (cond b (job_indexes (λ s. s) d t t.job) [])
          → (is_running t && is_clone t.job && nat_lt t.done t.total) ≡ true
      of_run t e true runs left =
          let number : t.number ≡ n = eqb-true t.number n (find-passes (λ (u : Task). u.number == n) d.tasks t e) in
          let job = job_left t (ap (λ m. task_of d m) number ∙ e) t.job refl left in
          and_from (is_running t && is_clone t.job) (nat_lt t.done t.total) (and_from (is_running t) (is_clone t.job) runs job.0) (lt-ltb t.done t.total job.1)
      of_run t e false runs left = absurd (omega (arith, left))

      of_task : (o : Option Task) → task_of d n ≡ o → 1 ≤ length (if_found o (λ (t : Task). cond (is_running t) (job_indexes (λ s. s) d t t.job) []) [])
          → if_found o (λ (t : Task). is_running t && is_clone t.job && nat_lt t.done t.total) false ≡ true
      of_task None e left = absurd (omega (arith, left))
      of_task (Some t) e left = of_run t e (is_running t) refl left

-- ---- what a change that fits has

pub record FitParts (d : Durable Entry) (change : Change) (places : List ℕ) : Type 0 where
  pub accepted : is_accepted (judge None (shape_of_tables d) change) ≡ true
  pub count : length places ≡ length (changed_indexes (λ (e : Entry). e.stamp) d change)
  pub different : all_different places ≡ true
  pub fresh : list_all (is_fresh d) places ≡ true

pub fit_parts : (d : Durable Entry) (change : Change) (places : List ℕ) → fits d change places ≡ true → FitParts d change places
unfolding fits
fit_parts d change places fit =
    let three = and_parts _ (list_all (is_fresh d) places) fit in
    let two = and_parts _ (all_different places) three.0 in
    let one = and_parts (is_accepted (judge None (shape_of_tables d) change)) (length places == length (changed_indexes (λ (e : Entry). e.stamp) d change)) two.0 in
    record { accepted = one.0; count = eqb-true _ _ one.1; different = two.1; fresh = three.1 }

-- a turn that takes places copies chunks
pub turn_moves : (d : Durable Entry) (n : ℕ) (places : List ℕ) → is_well_formed d ≡ true → fits d (Turn n) places ≡ true → 1 ≤ length places → is_copying (shape_of_tables d) (Turn n) ≡ true
unfolding changed_indexes
turn_moves d n places well fit some =
    let same : length (turned_indexes (λ s. s) (shape_of_tables d) n) ≡ length (turned_indexes (λ (e : Entry). e.stamp) d n) =
    ap length (same-changed_indexes (λ (e : Entry). e.stamp) (λ (e : Entry). e.stamp) (λ s. s) (λ e. refl) d (Turn n)) in
    let count : length places ≡ length (turned_indexes (λ (e : Entry). e.stamp) d n) = (fit_parts d (Turn n) places fit).count in
    copies_left (shape_of_tables d) (kept (shape_of_tables d) (shape_rules d well)) n (omega (arith, same, count, some))

-- a write has its volume, with these blocks
pub write_known : (d : Durable Entry) (n first blocks : ℕ) (places : List ℕ) → fits d (Write n first blocks) places ≡ true
    → (v : Volume Entry) × (volume_of d n ≡ Some v) × (first + blocks ≤ volume_blocks d.geometry.chunk_blocks v.chunks)
write_known d n first blocks places fit = go (volume_of d n) refl (write_stands d n first blocks places fit)
  where
    inside : (o : Option (Volume Entry)) → volume_of d n ≡ o → first + blocks ≤ length (if_found (option_map shaped o) (λ (v : Volume ℕ). v.chunks) []) * d.geometry.chunk_blocks
    inside o e =
        let shape : volume_of (shape_of_tables d) n ≡ option_map shaped o = shape_found d n ∙ ap (option_map shaped) e in
        let le = write_inside d n first blocks places fit in
        rw shape at le

    go : (o : Option (Volume Entry)) → volume_of d n ≡ o → IsSome o → (v : Volume Entry) × (volume_of d n ≡ Some v) × (first + blocks ≤ volume_blocks d.geometry.chunk_blocks v.chunks)
    go None e some = absurd (cc)
    go (Some v) e some = (v, e, subst (λ (k : ℕ). first + blocks ≤ k * d.geometry.chunk_blocks) (length-map v.chunks (λ (x : Entry). x.stamp)) (inside (Some v) e))

-- ---- a turn without a chunk

pub empty_list : {A : Type 0} (l : List A) → length l ≡ 0 → l ≡ []
empty_list [] e = refl
empty_list (x ∷ l) e = absurd (omega (arith, e))

-- no value is new then
pub no_copies : (f : ℕ → List ℕ) (d : Durable Entry) (n : ℕ) (bytes : List ℕ) → length (changed_indexes (λ (e : Entry). e.stamp) d (Turn n)) ≡ 0 → new_values (filled_tables f d) (Turn n) bytes ≡ []
unfolding new_values copied_values
no_copies f d n bytes none = go (clone_of (filled_tables f d) n)
  where
    same : changed_indexes (λ (x : ChunkValue). x.stamp) (filled_tables f d) (Turn n) ≡ []
    same =
        same-changed_indexes (filled d.geometry.chunk_blocks f) (λ (e : Entry). e.stamp) (λ (x : ChunkValue). x.stamp) (λ e. refl) d (Turn n)
        ∙ empty_list (changed_indexes (λ (e : Entry). e.stamp) d (Turn n)) none

    go : (o : Option (RunningClone ChunkValue)) → if_found o (λ (c : RunningClone ChunkValue). copied_values c.image (changed_indexes (λ (x : ChunkValue). x.stamp) (filled_tables f d) (Turn n)) n) [] ≡ []
    go None = refl
    go (Some c) = ap (λ (is : List ℕ). copied_values c.image is n) same

-- ---- a write of some blocks

some_blocks : (blocks : ℕ) (b : Bool) → (blocks == 0) ≡ b → 1 ≤ blocks → (not b || false) ≡ true
some_blocks blocks true e some = let none : blocks ≡ 0 = eqb-true blocks 0 e in absurd (omega (arith, none, some))
some_blocks blocks false e some = refl

pub some_write : (d : Durable Entry) (n first blocks : ℕ) → 1 ≤ blocks → moves_chunks d (Write n first blocks) ≡ true
some_write d n first blocks some = some_blocks blocks (blocks == 0) refl some
