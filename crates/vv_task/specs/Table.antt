-- The table of tasks: their records by their numbers, and when one may not be cancelled. What starts, turns and
-- interruptions make of the records stands with the definitions of the whole array.
use Rattle.std.specs.Prelude.{ℕ, ◌-◌, ◌≤◌, ◌≡◌, ◌==◌, Bool, false, IsTrue, List, length, map, Option, Some, None, count_by, nat_lt, if◌then◌else◌}
use Rattle.std.specs.List.{find, list_all}
use Rattle.vv_units.specs.declared.field.TooMany.{TooMany}
use Rattle.vv_units.specs.declared.field.Field.TheVariants.{Task as in_task}
use Rattle.vv_units.specs.declared.volume.TaskState.TheVariants.{Success}
use Rattle.vv_flat.specs.Lists.{if_found, all_rising}
use Rattle.vv_flat.specs.State.{Job, Clone, Copy, Task}
use Rattle.vv_flat.specs.Space.{is_running}
use Rattle.vv_flat.specs.Tasks.{with_task, advanced}
use Rattle.vv_task.specs.declared.task.Job.{Job as GivenJob}
use Rattle.vv_task.specs.declared.task.Job.TheVariants.{Clone as GivenClone, Copy as GivenCopy}
use Rattle.vv_task.specs.declared.task.Task.{Task as GivenTask}
use Rattle.vv_task.specs.declared.fault.CancelFault.{CancelFault}
use Rattle.vv_task.specs.declared.fault.CancelFault.TheVariants.{NotFound, NotCancellable}

-- a job with the numbers of its volumes
abbrev pub job_of : GivenJob → Job
job_of (GivenClone volume) = Clone volume.0
job_of (GivenCopy source base target) = Copy source.0 base.0 target.0

-- the record of a task
abbrev pub record_of : GivenTask → Task
record_of t = record { number = t.id.0; job = job_of t.job; state = t.state; done = t.done; total = t.total }

abbrev pub is_numbered : ℕ → Task → Bool
is_numbered n t = t.number == n

-- the numbers that stand
abbrev pub numbers : List Task → List ℕ
numbers tasks = map (λ (t : Task). t.number) tasks

-- whether a number is above all that stand
abbrev pub is_above_all : ℕ → List Task → Bool
is_above_all n tasks = list_all (λ (t : Task). nat_lt t.number n) tasks

abbrev pub task_numbered : List Task → ℕ → Option Task
task_numbered tasks n = find (is_numbered n) tasks

-- whether the task of a number stands and runs
abbrev pub runs : List Task → ℕ → Bool
runs tasks n = if_found (task_numbered tasks n) is_running false

-- how many chunks or pieces are left of a task
abbrev pub left_of : List Task → ℕ → ℕ
left_of tasks n = if_found (task_numbered tasks n) (λ t. t.total - t.done) 0

-- the records after so many more are done of a task
abbrev pub noted : List Task → ℕ → ℕ → List Task
noted tasks n more = if_found (task_numbered tasks n) (λ t. with_task tasks (advanced t more)) tasks

-- why a task may not be cancelled, if it may not
abbrev pub cancel_fault : List Task → ℕ → Option CancelFault
cancel_fault tasks n =
    if_found (task_numbered tasks n) (λ t. if is_running t then None else Some NotCancellable) (Some NotFound)

-- what is answered where as many tasks run as may
abbrev pub full : TooMany
full = record { name = in_task; limit = 16 }

-- No more is done than all, and all where the task has succeeded.
pub record IsCounted (t : Task) : Type 0 where
  pub within : t.done ≤ t.total
  pub whole : t.state ≡ Success → t.done ≡ t.total

-- What a table keeps: few tasks, in order, few that run, and room for all.
pub record IsKept (tasks : List Task) (room : ℕ) : Type 0 where
  pub few : length tasks ≤ 256
  pub fits : 256 ≤ room
  pub rise : IsTrue (all_rising (numbers tasks))
  pub few_run : count_by is_running tasks ≤ 16
