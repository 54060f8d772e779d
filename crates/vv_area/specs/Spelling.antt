-- The one spelling of tables, in spelling 1 and 2, and which tables have one.
use Rattle.std.specs.Prelude.{ℕ, ◌==◌, ◌&&◌, Bool, true, not, List, [], ◌∷◌, ◌++◌, map, length, take, drop, Option, Some, None, nat_le, nat_lt, if◌then◌else◌}
use Rattle.std.specs.List.{concat, flat_map, list_all}
use Rattle.vv_fields.specs.Fields.{be_bytes}
use Rattle.vv_units.specs.Names.{is_key, is_note}
use Rattle.vv_units.specs.declared.volume.VolumeKind.{VolumeKind}
use Rattle.vv_units.specs.declared.volume.VolumeKind.TheVariants.{Plain, SnapshotOf, FastCloneOf, FullCloneOf}
use Rattle.vv_units.specs.declared.volume.TaskState.{TaskState}
use Rattle.vv_units.specs.declared.volume.TaskState.TheVariants.{Running, Success, Cancelled, Interrupted}
use Rattle.vv_units.specs.declared.numbers.EndpointId.{EndpointId}
use Rattle.vv_record.specs.Reading.{is_within}
use Rattle.vv_record.specs.Forms.{is_quota}
use Rattle.vv_record.specs.Spelling.{text_spelling, list_spelling, type_number, offers_spelling, needs_spelling, endpoints_spelling, fits, each_behind, are_offers, are_needs, are_endpoints}
use Rattle.vv_flat.specs.State.{Container, Volume, Context, Address, Binding, Job, Clone, Copy, Task, RunningClone, Piece, RunningCopy, Durable}
use Rattle.vv_flat.specs.Space.{is_running, is_clone}
use Rattle.vv_flat.specs.Chunks.{Entry}
use Rattle.vv_area.specs.Forms.{is_next_container, rises, most_pairs, pairs_have, no_place, number_of_volume, number_of_context, number_of_task, is_next_host, is_next_endpoint, is_next_address}

-- ---- the spelling

abbrev pub container_spelling : Container → List ℕ
container_spelling k = concat (be_bytes 8 k.number ∷ be_bytes 8 k.quota ∷ offers_spelling k.offers ∷ [])

abbrev pub kind_number : VolumeKind → ℕ
kind_number Plain = 0
kind_number (SnapshotOf v) = 1
kind_number (FastCloneOf v) = 2
kind_number (FullCloneOf v) = 3

-- the volume that it was made of, or 0
abbrev pub source_number : VolumeKind → ℕ
source_number Plain = 0
source_number (SnapshotOf v) = v.0
source_number (FastCloneOf v) = v.0
source_number (FullCloneOf v) = v.0

abbrev pub kind_spelling : VolumeKind → List ℕ
kind_spelling kind = be_bytes 1 (kind_number kind) ++ be_bytes 8 (source_number kind)

abbrev pub reverted_spelling : ℕ → ℕ → List ℕ
reverted_spelling spelling reverted = if spelling == 1 then [] else be_bytes 8 reverted

abbrev pub pair_spelling : List ℕ × List ℕ → List ℕ
pair_spelling pair = concat (text_spelling pair.0 ∷ text_spelling pair.1 ∷ [])

abbrev pub metadata_spelling : List (List ℕ × List ℕ) → List ℕ
metadata_spelling pairs = list_spelling 1 pair_spelling pairs

abbrev pub place_spelling : Option ℕ → List ℕ
place_spelling None = be_bytes 4 no_place
place_spelling (Some p) = be_bytes 4 p

abbrev pub entry_spelling : Entry → List ℕ
entry_spelling e = concat (place_spelling e.place ∷ be_bytes 8 e.stamp ∷ [])

abbrev pub entries_spelling : List Entry → List ℕ
entries_spelling entries = list_spelling 4 entry_spelling entries

abbrev pub volume_spelling : ℕ → Volume Entry → List ℕ
volume_spelling spelling v =
    concat (be_bytes 8 v.number ∷ be_bytes 8 v.container ∷ be_bytes 1 (type_number v.vtype) ∷ kind_spelling v.kind
    ∷ reverted_spelling spelling v.reverted ∷ needs_spelling v.needs ∷ metadata_spelling v.metadata
    ∷ entries_spelling v.chunks ∷ [])

-- the endpoints as numbers with a name of their own
abbrev pub as_endpoints : List ℕ → List EndpointId
as_endpoints numbers = map (λ n. record { 0 = n }) numbers

abbrev pub context_spelling : Context → List ℕ
context_spelling c = concat (be_bytes 4 c.host ∷ endpoints_spelling (as_endpoints c.endpoints) ∷ [])

abbrev pub address_spelling : Address → List ℕ
address_spelling a = concat (be_bytes 4 a.host ∷ be_bytes 2 a.endpoint ∷ be_bytes 2 a.secondary ∷ [])

abbrev pub binding_spelling : Binding → List ℕ
binding_spelling b = concat (address_spelling b.address ∷ be_bytes 8 b.volume ∷ be_bytes 2 b.count ∷ [])

abbrev pub job_spelling : Job → List ℕ
job_spelling (Clone volume) = be_bytes 1 1 ++ be_bytes 8 volume
job_spelling (Copy source base target) = be_bytes 1 2 ++ (be_bytes 8 source ++ be_bytes 8 base ++ be_bytes 8 target)

abbrev pub state_number : TaskState → ℕ
state_number Running = 0
state_number Success = 1
state_number Cancelled = 2
state_number Interrupted = 3

abbrev pub task_spelling : Task → List ℕ
task_spelling t =
    concat (be_bytes 8 t.number ∷ job_spelling t.job ∷ be_bytes 1 (state_number t.state) ∷ be_bytes 4 t.done
    ∷ be_bytes 4 t.total ∷ [])

-- A running clone or copy is spelled without its number, which is that of its task.

abbrev pub clone_spelling : RunningClone Entry → List ℕ
clone_spelling c =
    concat (be_bytes 8 c.container ∷ be_bytes 1 (type_number c.vtype) ∷ needs_spelling c.needs
    ∷ metadata_spelling c.metadata ∷ entries_spelling c.image ∷ entries_spelling c.target ∷ [])

abbrev pub piece_spelling : Piece Entry → List ℕ
piece_spelling p = concat (be_bytes 4 p.index ∷ entry_spelling p.chunk ∷ [])

abbrev pub copy_spelling : RunningCopy Entry → List ℕ
copy_spelling c = list_spelling 4 piece_spelling c.pieces

-- What the running ones of these tasks hold, in the order of the tasks: for each the next clone, or the next copy.
unfoldable pub runs_spelling : List Task → List (RunningClone Entry) → List (RunningCopy Entry) → List ℕ
runs_spelling [] clones copies = []
runs_spelling (t ∷ ts) clones copies =
    if is_running t
    then (if is_clone t.job
    then flat_map clone_spelling (take 1 clones) ++ runs_spelling ts (drop 1 clones) copies
    else flat_map copy_spelling (take 1 copies) ++ runs_spelling ts clones (drop 1 copies))
    else runs_spelling ts clones copies

-- the parts of the spelling of tables, one behind the other
abbrev pub sections : ℕ → Durable Entry → List (List ℕ)
sections spelling d =
    be_bytes 8 d.lsn ∷ list_spelling 1 container_spelling d.containers ∷ list_spelling 2 (volume_spelling spelling) d.volumes
    ∷ list_spelling 1 context_spelling d.contexts ∷ list_spelling 2 binding_spelling d.bindings
    ∷ list_spelling 2 task_spelling d.tasks ∷ runs_spelling d.tasks d.clones d.copies ∷ []

unfoldable pub area_spelling : ℕ → Durable Entry → List ℕ
area_spelling spelling d = concat (sections spelling d)

-- ---- which tables have a spelling

abbrev pub is_container_behind : List Container → Container → Bool
is_container_behind before k = is_next_container before k.number && fits 8 k.number && is_quota k.quota && are_offers k.offers

abbrev pub are_containers : List Container → Bool
are_containers containers = is_within 1 255 (length containers) && each_behind is_container_behind [] containers

abbrev pub is_kind : VolumeKind → Bool
is_kind kind = fits 8 (source_number kind)

abbrev pub is_reverted : ℕ → ℕ → Bool
is_reverted spelling reverted = if spelling == 1 then reverted == 0 else fits 8 reverted

abbrev pub is_pair_behind : List (List ℕ × List ℕ) → List ℕ × List ℕ → Bool
is_pair_behind before pair = is_key pair.0 && not (pairs_have before pair.0) && is_note pair.1

abbrev pub are_pairs : ℕ → List (List ℕ × List ℕ) → Bool
are_pairs spelling pairs = is_within 0 (most_pairs spelling) (length pairs) && each_behind is_pair_behind [] pairs

-- The number in place of no place is not a place.
abbrev pub is_place : Option ℕ → Bool
is_place None = true
is_place (Some p) = nat_lt p no_place

abbrev pub is_entry : Entry → Bool
is_entry e = is_place e.place && fits 8 e.stamp

abbrev pub are_entries : List Entry → Bool
are_entries entries = fits 4 (length entries) && list_all is_entry entries

abbrev pub is_volume_behind : ℕ → List (Volume Entry) → Volume Entry → Bool
is_volume_behind spelling before v =
    rises number_of_volume before v.number && fits 8 v.number && fits 8 v.container && is_kind v.kind
    && is_reverted spelling v.reverted && are_needs v.needs && are_pairs spelling v.metadata && are_entries v.chunks

abbrev pub are_volumes : ℕ → List (Volume Entry) → Bool
are_volumes spelling volumes = fits 2 (length volumes) && each_behind (is_volume_behind spelling) [] volumes

abbrev pub is_context_behind : List Context → Context → Bool
is_context_behind before c =
    rises number_of_context before c.host && is_within 1 64 c.host && are_endpoints (as_endpoints c.endpoints)

abbrev pub are_contexts : List Context → Bool
are_contexts contexts = fits 1 (length contexts) && each_behind is_context_behind [] contexts

abbrev pub is_address_behind : List Binding → Address → Bool
is_address_behind before a =
    is_next_host before a.host && is_within 1 64 a.host && is_next_endpoint before a.host a.endpoint && fits 2 a.endpoint
    && is_next_address before a && fits 2 a.secondary

abbrev pub is_binding_behind : List Binding → Binding → Bool
is_binding_behind before b = is_address_behind before b.address && fits 8 b.volume && fits 2 b.count

abbrev pub are_bindings : List Binding → Bool
are_bindings bindings = fits 2 (length bindings) && each_behind is_binding_behind [] bindings

abbrev pub is_job : Job → Bool
is_job (Clone volume) = fits 8 volume
is_job (Copy source base target) = fits 8 source && fits 8 base && fits 8 target

abbrev pub is_task_behind : List Task → Task → Bool
is_task_behind before t =
    rises number_of_task before t.number && fits 8 t.number && is_job t.job && fits 4 t.done && fits 4 t.total

abbrev pub are_tasks : List Task → Bool
are_tasks tasks = fits 2 (length tasks) && each_behind is_task_behind [] tasks

abbrev pub is_clone_row : ℕ → RunningClone Entry → Bool
is_clone_row spelling c =
    fits 8 c.container && are_needs c.needs && are_pairs spelling c.metadata && are_entries c.image && are_entries c.target

abbrev pub is_clone_of : ℕ → ℕ → RunningClone Entry → Bool
is_clone_of spelling own c = (c.number == own) && is_clone_row spelling c

abbrev pub is_piece : Piece Entry → Bool
is_piece p = fits 4 p.index && is_entry p.chunk

abbrev pub are_pieces : List (Piece Entry) → Bool
are_pieces pieces = fits 4 (length pieces) && list_all is_piece pieces

abbrev pub is_copy_of : ℕ → RunningCopy Entry → Bool
is_copy_of own c = (c.number == own) && are_pieces c.pieces

-- The clones and copies are those of the running ones of these tasks.
unfoldable pub are_runs : ℕ → List Task → List (RunningClone Entry) → List (RunningCopy Entry) → Bool
are_runs spelling [] clones copies = (length clones == 0) && (length copies == 0)
are_runs spelling (t ∷ ts) clones copies =
    if is_running t
    then (if is_clone t.job
    then nat_le 1 (length clones) && list_all (is_clone_of spelling t.number) (take 1 clones) && are_runs spelling ts (drop 1 clones) copies
    else nat_le 1 (length copies) && list_all (is_copy_of t.number) (take 1 copies) && are_runs spelling ts clones (drop 1 copies))
    else are_runs spelling ts clones copies

-- each field fits its bytes and is in its range, and what is to rise does
unfoldable pub is_spellable : ℕ → Durable Entry → Bool
is_spellable spelling d =
    fits 8 d.lsn && are_containers d.containers && are_volumes spelling d.volumes && are_contexts d.contexts
    && are_bindings d.bindings && are_tasks d.tasks && are_runs spelling d.tasks d.clones d.copies
