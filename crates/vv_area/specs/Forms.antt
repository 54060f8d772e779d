-- How the tables of an area are read: one form for each table, field after field. Where a list is to rise, its numbers
-- are allowed only where they do. Spelling 1 has no log number of a volume's last revert, and at most 16 pairs in a
-- list of metadata; spelling 2 has the number, and at most 64 pairs.
use Rattle.std.specs.Prelude.{ℕ, ◌-◌, ◌==◌, ◌||◌, Bool, true, not, List, [], ◌∷◌, ◌++◌, map, length, slice_get, Option, Some, None, nat_le, nat_lt, if◌then◌else◌}
use Rattle.std.specs.List.{list_any}
use Rattle.vv_units.specs.declared.volume.VolumeKind.{VolumeKind}
use Rattle.vv_units.specs.declared.volume.VolumeKind.TheVariants.{Plain, SnapshotOf, FastCloneOf, FullCloneOf}
use Rattle.vv_units.specs.declared.volume.TaskState.{TaskState}
use Rattle.vv_units.specs.declared.volume.TaskState.TheVariants.{Running, Success, Cancelled, Interrupted}
use Rattle.vv_units.specs.declared.numbers.EndpointId.{EndpointId}
use Rattle.vv_units.specs.declared.geometry.Geometry.{Geometry}
use Rattle.vv_record.specs.Reading.{Form, ◌>>=◌, done, number, bytes, allowed, number_within, items}
use Rattle.vv_record.specs.Forms.{quota, vvol_type_field, note, same_text, offers, needs, endpoints}
use Rattle.vv_units.specs.Names.{is_key}
use Rattle.vv_flat.specs.Lists.{if_found}
use Rattle.vv_flat.specs.State.{Container, Volume, Context, Address, Binding, Job, Clone, Copy, Task, RunningClone, Piece, RunningCopy, Durable}
use Rattle.vv_flat.specs.Space.{is_running, is_clone}
use Rattle.vv_flat.specs.Bindings.{is_below}
use Rattle.vv_flat.specs.Chunks.{Entry}

-- ---- numbers that rise

abbrev pub last_of : {A : Type 0} → List A → Option A
last_of xs = slice_get xs (length xs - 1)

-- whether a number is above that of the item before, if there is one
abbrev pub rises : {A : Type 0} → (A → ℕ) → List A → ℕ → Bool
rises number_of before n = if_found (last_of before) (λ x. nat_lt (number_of x) n) true

-- ---- containers: container 0 comes first

abbrev pub is_next_container : List Container → ℕ → Bool
is_next_container before n = if_found (last_of before) (λ (k : Container). nat_lt k.number n) (n == 0)

unfoldable pub container_number : List Container → Form ℕ
container_number before = allowed (is_next_container before) (number 8)

unfoldable pub container : List Container → Form Container
container before = do
  own ← container_number before
  most ← quota
  offered ← offers
  done (record { number = own; quota = most; offers = offered })

unfoldable pub containers : Form (List Container)
containers = do
  count ← number_within 1 1 255
  items container count []

-- ---- volumes

-- how a volume came to be: the volume that it was made of is 0 where it was made of none
abbrev pub kind_numbered : ℕ → ℕ → VolumeKind
kind_numbered kind source =
    if kind == 0 then Plain
    else if kind == 1 then SnapshotOf (record { 0 = source })
    else if kind == 2 then FastCloneOf (record { 0 = source })
    else FullCloneOf (record { 0 = source })

abbrev pub is_source : ℕ → ℕ → Bool
is_source kind source = not (kind == 0) || (source == 0)

unfoldable pub source_of : ℕ → Form ℕ
source_of kind = allowed (is_source kind) (number 8)

unfoldable pub kind_field : Form VolumeKind
kind_field = do
  kind ← number_within 1 0 3
  source ← source_of kind
  done (kind_numbered kind source)

-- the log number of the last revert, which spelling 1 doesn't have
abbrev pub reverted_field : ℕ → Form ℕ
reverted_field spelling = if spelling == 1 then done 0 else number 8

-- the most pairs of one list of metadata
abbrev pub most_pairs : ℕ → ℕ
most_pairs spelling = if spelling == 1 then 16 else 64

abbrev pub pairs_have : List (List ℕ × List ℕ) → List ℕ → Bool
pairs_have pairs key = list_any (λ (pair : List ℕ × List ℕ). same_text pair.0 key) pairs

unfoldable pub key_bytes : ℕ → Form (List ℕ)
key_bytes length = allowed is_key (bytes length)

-- a key that no pair has
unfoldable pub other_key : List (List ℕ × List ℕ) → Form (List ℕ)
other_key before = do
  length ← number_within 1 1 32
  allowed (λ key. not (pairs_have before key)) (key_bytes length)

unfoldable pub pair : List (List ℕ × List ℕ) → Form (List ℕ × List ℕ)
pair before = do
  key ← other_key before
  text ← note
  done (key, text)

unfoldable pub metadata : ℕ → Form (List (List ℕ × List ℕ))
metadata spelling = do
  count ← number_within 1 0 (most_pairs spelling)
  items pair count []

-- the number in place of the place where there is none
abbrev pub no_place : ℕ
no_place = 4294967295

abbrev pub place_numbered : ℕ → Option ℕ
place_numbered n = if n == no_place then None else Some n

unfoldable pub place_field : Form (Option ℕ)
place_field = do
  n ← number 4
  done (place_numbered n)

unfoldable pub entry : Form Entry
entry = do
  place ← place_field
  stamp ← number 8
  done (record { place = place; stamp = stamp })

unfoldable pub entries : Form (List Entry)
entries = do
  count ← number 4
  items (λ before. entry) count []

abbrev pub number_of_volume : Volume Entry → ℕ
number_of_volume v = v.number

unfoldable pub volume_number : List (Volume Entry) → Form ℕ
volume_number before = allowed (rises number_of_volume before) (number 8)

unfoldable pub volume : ℕ → List (Volume Entry) → Form (Volume Entry)
volume spelling before = do
  own ← volume_number before
  container ← number 8
  vtype ← vvol_type_field
  kind ← kind_field
  reverted ← reverted_field spelling
  asked ← needs
  pairs ← metadata spelling
  chunks ← entries
  done (record { number = own; container = container; vtype = vtype; kind = kind; reverted = reverted; needs = asked; metadata = pairs; chunks = chunks })

unfoldable pub volumes : ℕ → Form (List (Volume Entry))
volumes spelling = do
  count ← number 2
  items (volume spelling) count []

-- ---- contexts

abbrev pub number_of_context : Context → ℕ
number_of_context c = c.host

unfoldable pub context_host : List Context → Form ℕ
context_host before = allowed (rises number_of_context before) (number_within 4 1 64)

abbrev pub endpoint_numbers : List EndpointId → List ℕ
endpoint_numbers endpoints = map (λ (e : EndpointId). e.0) endpoints

unfoldable pub context : List Context → Form Context
context before = do
  host ← context_host before
  list ← endpoints
  done (record { host = host; endpoints = endpoint_numbers list })

unfoldable pub contexts : Form (List Context)
contexts = do
  count ← number 1
  items context count []

-- ---- bindings: an address rises by the first of its three numbers in which it differs from the one before

abbrev pub is_next_host : List Binding → ℕ → Bool
is_next_host before host = if_found (last_of before) (λ (b : Binding). nat_le b.address.host host) true

abbrev pub is_next_endpoint : List Binding → ℕ → ℕ → Bool
is_next_endpoint before host endpoint =
    if_found (last_of before) (λ (b : Binding). not (b.address.host == host) || nat_le b.address.endpoint endpoint) true

abbrev pub is_next_address : List Binding → Address → Bool
is_next_address before address = if_found (last_of before) (λ (b : Binding). is_below b.address address) true

abbrev pub address_at : ℕ → ℕ → ℕ → Address
address_at host endpoint secondary = record { host = host; endpoint = endpoint; secondary = secondary }

unfoldable pub binding_host : List Binding → Form ℕ
binding_host before = allowed (is_next_host before) (number_within 4 1 64)

unfoldable pub binding_endpoint : List Binding → ℕ → Form ℕ
binding_endpoint before host = allowed (is_next_endpoint before host) (number 2)

unfoldable pub binding_secondary : List Binding → ℕ → ℕ → Form ℕ
binding_secondary before host endpoint =
    allowed (λ secondary. is_next_address before (address_at host endpoint secondary)) (number 2)

unfoldable pub address : List Binding → Form Address
address before = do
  host ← binding_host before
  endpoint ← binding_endpoint before host
  secondary ← binding_secondary before host endpoint
  done (address_at host endpoint secondary)

unfoldable pub binding : List Binding → Form Binding
binding before = do
  bound_at ← address before
  volume ← number 8
  count ← number 2
  done (record { address = bound_at; volume = volume; count = count })

unfoldable pub bindings : Form (List Binding)
bindings = do
  count ← number 2
  items binding count []

-- ---- tasks

unfoldable pub clone_job : Form Job
clone_job = do
  volume ← number 8
  done (Clone volume)

unfoldable pub copy_job : Form Job
copy_job = do
  source ← number 8
  base ← number 8
  target ← number 8
  done (Copy source base target)

abbrev pub job_numbered : ℕ → Form Job
job_numbered kind = if kind == 1 then clone_job else copy_job

unfoldable pub job_field : Form Job
job_field = number_within 1 1 2 >>= job_numbered

abbrev pub state_numbered : ℕ → TaskState
state_numbered n =
    if n == 0 then Running
    else if n == 1 then Success
    else if n == 2 then Cancelled
    else Interrupted

unfoldable pub state_field : Form TaskState
state_field = do
  n ← number_within 1 0 3
  done (state_numbered n)

abbrev pub number_of_task : Task → ℕ
number_of_task t = t.number

unfoldable pub task_number : List Task → Form ℕ
task_number before = allowed (rises number_of_task before) (number 8)

unfoldable pub task : List Task → Form Task
task before = do
  own ← task_number before
  job ← job_field
  state ← state_field
  so_far ← number 4
  total ← number 4
  done (record { number = own; job = job; state = state; done = so_far; total = total })

unfoldable pub tasks : Form (List Task)
tasks = do
  count ← number 2
  items task count []

-- ---- what running tasks hold: a clone its image and its target, a copy its pieces

unfoldable pub running_clone : ℕ → ℕ → Form (RunningClone Entry)
running_clone spelling own = do
  container ← number 8
  vtype ← vvol_type_field
  asked ← needs
  pairs ← metadata spelling
  image ← entries
  target ← entries
  done (record { number = own; container = container; vtype = vtype; needs = asked; metadata = pairs; image = image; target = target })

unfoldable pub piece : Form (Piece Entry)
piece = do
  index ← number 4
  chunk ← entry
  done (record { index = index; chunk = chunk })

unfoldable pub pieces : Form (List (Piece Entry))
pieces = do
  count ← number 4
  items (λ before. piece) count []

unfoldable pub running_copy : ℕ → Form (RunningCopy Entry)
running_copy own = do
  list ← pieces
  done (record { number = own; pieces = list })

-- the clones and copies that run
pub record Runs : Type 0 where
  pub clones : List (RunningClone Entry)
  pub copies : List (RunningCopy Entry)

abbrev pub no_runs : Runs
no_runs = record { clones = []; copies = [] }

abbrev pub with_clone : Runs → RunningClone Entry → Runs
with_clone runs clone = record { clones = runs.clones ++ clone ∷ []; copies = runs.copies }

abbrev pub with_copy : Runs → RunningCopy Entry → Runs
with_copy runs copy = record { clones = runs.clones; copies = runs.copies ++ copy ∷ [] }

unfoldable pub next_clone : ℕ → ℕ → Runs → Form Runs
next_clone spelling own before = do
  clone ← running_clone spelling own
  done (with_clone before clone)

unfoldable pub next_copy : ℕ → Runs → Form Runs
next_copy own before = do
  copy ← running_copy own
  done (with_copy before copy)

-- what a task holds, if it runs
abbrev pub next_run : ℕ → Task → Runs → Form Runs
next_run spelling t before =
    if is_running t
    then (if is_clone t.job then next_clone spelling t.number before else next_copy t.number before)
    else done before

-- what the running ones of these tasks hold, in the order of the tasks
unfoldable pub runs : ℕ → List Task → Runs → Form Runs
runs spelling [] before = done before
runs spelling (t ∷ ts) before = next_run spelling t before >>= runs spelling ts

-- ---- the whole

unfoldable pub tables : Geometry → ℕ → Form (Durable Entry)
tables geometry spelling = do
  lsn ← number 8
  boxes ← containers
  vols ← volumes spelling
  ctxs ← contexts
  bound ← bindings
  jobs ← tasks
  held ← runs spelling jobs no_runs
  done (record { geometry = geometry; lsn = lsn; containers = boxes; volumes = vols; contexts = ctxs; bindings = bound; tasks = jobs; clones = held.clones; copies = held.copies })
