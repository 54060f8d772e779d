-- Each section of an area, and each item of it, is no longer than the area. This serves the lengths.
use Rattle.std.proofs.Common.{ℕ, ◌≡◌, ◌+◌, ◌≤◌, arith, refl}
use Rattle.std.specs.Prelude.{slice_get, Some}
use Rattle.vv_flat.specs.State.{Container, Volume, Context, Task, RunningClone, RunningCopy, Durable}
use Rattle.vv_flat.specs.Chunks.{Entry}
use Rattle.vv_area.specs.Lengths.{area_length, containers_length, volumes_length, contexts_length, bindings_length, tasks_length, runs_length, container_length, volume_length, context_length, task_length, clone_length, copy_length}
use Rattle.vv_spell.proofs.Sums.{item_within}

-- the sections of an area are no longer than it
pub record AreWithin (d : Durable Entry) : Type 0 where
  pub containers : containers_length d.containers ≤ area_length 2 d
  pub volumes : volumes_length 2 d.volumes ≤ area_length 2 d
  pub contexts : contexts_length d.contexts ≤ area_length 2 d
  pub bindings : bindings_length d.bindings ≤ area_length 2 d
  pub tasks : tasks_length d.tasks ≤ area_length 2 d
  pub runs : runs_length d.clones d.copies ≤ area_length 2 d

abbrev all_of : (a b c e f g : ℕ) → ℕ
all_of a b c e f g = 8 + a + b + c + e + f + g

pub sections_length : (d : Durable Entry) → area_length 2 d ≡ all_of (containers_length d.containers) (volumes_length 2 d.volumes) (contexts_length d.contexts) (bindings_length d.bindings) (tasks_length d.tasks) (runs_length d.clones d.copies)
unfolding area_length
sections_length d = refl

pub sections_within : (d : Durable Entry) → AreWithin d
sections_within d =
    let e = sections_length d in
    record { containers = omega (arith, e); volumes = omega (arith, e); contexts = omega (arith, e); bindings = omega (arith, e); tasks = omega (arith, e); runs = omega (arith, e) }

-- so are the items
pub container_within : (d : Durable Entry) (i : ℕ) (k : Container) → slice_get d.containers i ≡ Some k → container_length k ≤ area_length 2 d
container_within d i k at = omega (arith, (sections_within d).containers, item_within container_length d.containers i k at)

pub volume_within : (d : Durable Entry) (i : ℕ) (v : Volume Entry) → slice_get d.volumes i ≡ Some v → volume_length 2 v ≤ area_length 2 d
volume_within d i v at = omega (arith, (sections_within d).volumes, item_within (volume_length 2) d.volumes i v at)

pub context_within : (d : Durable Entry) (i : ℕ) (c : Context) → slice_get d.contexts i ≡ Some c → context_length c ≤ area_length 2 d
context_within d i c at = omega (arith, (sections_within d).contexts, item_within context_length d.contexts i c at)

pub task_within : (d : Durable Entry) (i : ℕ) (t : Task) → slice_get d.tasks i ≡ Some t → task_length t ≤ area_length 2 d
task_within d i t at = omega (arith, (sections_within d).tasks, item_within task_length d.tasks i t at)

pub clone_within : (d : Durable Entry) (i : ℕ) (c : RunningClone Entry) → slice_get d.clones i ≡ Some c → clone_length c ≤ area_length 2 d
clone_within d i c at = omega (arith, (sections_within d).runs, item_within clone_length d.clones i c at)

pub copy_within : (d : Durable Entry) (i : ℕ) (c : RunningCopy Entry) → slice_get d.copies i ≡ Some c → copy_length c ≤ area_length 2 d
copy_within d i c at = omega (arith, (sections_within d).runs, item_within copy_length d.copies i c at)
