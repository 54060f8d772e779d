-- What one step makes of a reader.
use Rattle.std.specs.Prelude.{◌≡◌, ℕ, ◌+◌, ◌<◌, ◌≤◌, List, [], length, drop, Bool, false, Result, Ok, Err, ⊤, nat_le}
use Rattle.vv_record.specs.declared.record.RecordFault.{RecordFault}
use Rattle.vv_record.specs.declared.record.RecordFault.TheVariants as fault
use Rattle.vv_flat.specs.State.{Durable}
use Rattle.vv_flat.specs.Chunks.{Entry}
use Rattle.vv_area_reader.specs.Progress.{Progress, come_to}
use Rattle.vv_area_reader.specs.Told.{AreaReading, told}
use Rattle.vv_area_reader.specs.declared.stage.Stage.{Stage}
use Rattle.vv_area_reader.specs.declared.stage.Stage.TheVariants as stage
use Rattle.vv_area_reader.specs.declared.steps.Made.{Made}

-- so many of the waiting bytes were read
abbrev pub passed_by : AreaReading → Progress → ℕ → AreaReading
passed_by r progress n = record r { progress = progress; passed = r.passed + n; waiting = drop n r.waiting }

-- no step reads more bytes: a volume without its entries, with 8 needs and 64 pairs of the greatest length, and a count
abbrev pub step_limit : ℕ
step_limit = 8624

-- enough bytes wait for a step, or none come
abbrev pub HasEnough : AreaReading → List ℕ → Type 0
HasEnough r coming = length r.waiting < step_limit → coming ≡ []

-- A step read some of the waiting bytes, and leaves what is told in the end. Or it failed, and that fault is told in
-- the end, if enough bytes waited.
abbrev pub FailsAt : RecordFault → AreaReading → Type 0
FailsAt (fault.Bad at) r = (at ≤ length r.waiting) × ((coming : List ℕ) → HasEnough r coming → told r coming ≡ Err (r.passed + at))
FailsAt fault.NoMemory r = ⊤

abbrev pub Makes : AreaReading → Durable Entry → Result Made RecordFault → Type 0
Makes r begun (Ok made) =
    (made.read ≤ length r.waiting) × ((coming : List ℕ) → told r coming ≡ told (passed_by r (come_to begun made.stage) made.read) coming)
Makes r begun (Err e) = FailsAt e r

-- whether all was read but what may follow the tables
abbrev pub is_whole_at : Durable Entry → Stage → Bool
is_whole_at d stage.Start = false
is_whole_at d (stage.Containers left) = false
is_whole_at d (stage.Volumes left) = false
is_whole_at d (stage.VolumeEntries head entries left volumes) = false
is_whole_at d (stage.Contexts left) = false
is_whole_at d (stage.Bindings left) = false
is_whole_at d (stage.Tasks left) = false
is_whole_at d (stage.Runs next) = nat_le (length d.tasks) next
is_whole_at d (stage.Image head entries left next) = false
is_whole_at d (stage.Target head entries left next) = false
is_whole_at d (stage.Pieces own pieces left next) = false

abbrev pub is_whole : Progress → Bool
is_whole p = is_whole_at p.begun p.stage
