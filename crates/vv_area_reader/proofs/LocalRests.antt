-- The steps, and what is still to be read, read alike wherever their bytes stand.
use Rattle.std.proofs.Common.{ℕ, ◌+◌, ◌==◌, List, [], ◌∷◌, drop, Option, Some, None}
use Rattle.std.specs.Prelude.{slice_get}
use Rattle.vv_flat.specs.State.{Volume, Task, RunningClone, Piece, Durable}
use Rattle.vv_flat.specs.Space.{is_running, is_clone}
use Rattle.vv_flat.specs.Chunks.{Entry}
use Rattle.vv_area.specs.Forms.{container, volume, entry, entries, context, binding, task, piece, pieces, running_clone, running_copy, next_clone, next_copy, next_run, runs, Runs}
use Rattle.vv_area_reader.specs.Steps.{start_step, volume_count, next_container, context_count, next_volume, next_volume_entry, binding_count, next_context, task_count, next_binding, next_task, begin_clone, begin_copy, begin_run, run_step_at, target_count, next_image_entry, next_target_entry, next_piece, step_at}
use Rattle.vv_area_reader.specs.Rest.{runs_rest, tasks_rest, after_bindings, bindings_rest, after_contexts, contexts_rest, after_volumes, volumes_rest, volume_entries_rest, after_containers, containers_rest, start_rest, target_rest, after_image, image_rest, pieces_rest, rest_at}
use Rattle.vv_area_reader.specs.declared.stage.Stage.{Stage}
use Rattle.vv_area_reader.specs.declared.stage.Stage.TheVariants as stage
use Rattle.vv_area_reader.proofs.Local.{IsLocal, local_then, local_done, local_cond, local_number, local_within, local_items}
use Rattle.vv_area_reader.proofs.LocalForms.{local_type, local_needs, local_metadata, local_container, local_volume_number, local_kind, local_reverted, local_volume_head, local_entry, local_context, local_binding, local_task, local_clone_head, local_piece}

-- ---- steps

local_start_step : (d : Durable Entry) → IsLocal (start_step d)
unfolding start_step
local_start_step d = local_then _ _ (local_number 8) (λ lsn. local_then _ _ (local_within 1 1 255) (λ count. local_done _))

local_volume_count : (d : Durable Entry) → IsLocal (volume_count d)
unfolding volume_count
local_volume_count d = local_then _ _ (local_number 2) (λ count. local_done _)

local_next_container : (left : ℕ) (d : Durable Entry) → IsLocal (next_container left d)
unfolding next_container
local_next_container left d = local_then _ _ (local_container d.containers) (λ next. local_done _)

local_context_count : (d : Durable Entry) → IsLocal (context_count d)
unfolding context_count
local_context_count d = local_then _ _ (local_number 1) (λ count. local_done _)

local_next_volume : (spelling left : ℕ) (d : Durable Entry) → IsLocal (next_volume spelling left d)
unfolding next_volume
local_next_volume spelling left d = local_then _ _ (local_volume_head spelling d.volumes) (λ head. local_then _ _ (local_number 4) (λ count. local_done _))

local_next_volume_entry : (head : Volume Entry) (so_far : List Entry) (left volumes : ℕ) (d : Durable Entry) → IsLocal (next_volume_entry head so_far left volumes d)
unfolding next_volume_entry
local_next_volume_entry head so_far left volumes d = local_then _ _ local_entry (λ next. local_done _)

local_binding_count : (d : Durable Entry) → IsLocal (binding_count d)
unfolding binding_count
local_binding_count d = local_then _ _ (local_number 2) (λ count. local_done _)

local_next_context : (left : ℕ) (d : Durable Entry) → IsLocal (next_context left d)
unfolding next_context
local_next_context left d = local_then _ _ (local_context d.contexts) (λ next. local_done _)

local_task_count : (d : Durable Entry) → IsLocal (task_count d)
unfolding task_count
local_task_count d = local_then _ _ (local_number 2) (λ count. local_done _)

local_next_binding : (left : ℕ) (d : Durable Entry) → IsLocal (next_binding left d)
unfolding next_binding
local_next_binding left d = local_then _ _ (local_binding d.bindings) (λ next. local_done _)

local_next_task : (left : ℕ) (d : Durable Entry) → IsLocal (next_task left d)
unfolding next_task
local_next_task left d = local_then _ _ (local_task d.tasks) (λ next. local_done _)

local_begin_clone : (spelling own next : ℕ) (d : Durable Entry) → IsLocal (begin_clone spelling own next d)
unfolding begin_clone
local_begin_clone spelling own next d = local_then _ _ (local_clone_head spelling own) (λ head. local_then _ _ (local_number 4) (λ count. local_done _))

local_begin_copy : (own next : ℕ) (d : Durable Entry) → IsLocal (begin_copy own next d)
unfolding begin_copy
local_begin_copy own next d = local_then _ _ (local_number 4) (λ count. local_done _)

local_begin_run : (spelling : ℕ) (t : Task) (next : ℕ) (d : Durable Entry) → IsLocal (begin_run spelling t next d)
local_begin_run spelling t next d =
    local_cond (is_running t) _ _
    (local_cond (is_clone t.job) _ _ (local_begin_clone spelling t.number next d) (local_begin_copy t.number next d))
    (local_done _)

local_run_step : (spelling next : ℕ) (d : Durable Entry) (found : Option Task) → IsLocal (run_step_at spelling next d found)
local_run_step spelling next d (Some t) = local_begin_run spelling t (next + 1) d
local_run_step spelling next d None = local_done _

local_target_count : (head : RunningClone Entry) (image : List Entry) (next : ℕ) (d : Durable Entry) → IsLocal (target_count head image next d)
unfolding target_count
local_target_count head image next d = local_then _ _ (local_number 4) (λ count. local_done _)

local_next_image_entry : (head : RunningClone Entry) (so_far : List Entry) (left next : ℕ) (d : Durable Entry) → IsLocal (next_image_entry head so_far left next d)
unfolding next_image_entry
local_next_image_entry head so_far left next d = local_then _ _ local_entry (λ more. local_done _)

local_next_target_entry : (head : RunningClone Entry) (so_far : List Entry) (left next : ℕ) (d : Durable Entry) → IsLocal (next_target_entry head so_far left next d)
unfolding next_target_entry
local_next_target_entry head so_far left next d = local_then _ _ local_entry (λ more. local_done _)

local_next_piece : (own : ℕ) (so_far : List (Piece Entry)) (left next : ℕ) (d : Durable Entry) → IsLocal (next_piece own so_far left next d)
unfolding next_piece
local_next_piece own so_far left next d = local_then _ _ local_piece (λ more. local_done _)

pub local_step : (spelling : ℕ) (d : Durable Entry) (at : Stage) → IsLocal (step_at spelling d at)
local_step spelling d stage.Start = local_start_step d
local_step spelling d (stage.Containers left) = local_cond (left == 0) _ _ (local_volume_count d) (local_next_container left d)
local_step spelling d (stage.Volumes left) = local_cond (left == 0) _ _ (local_context_count d) (local_next_volume spelling left d)
local_step spelling d (stage.VolumeEntries head so_far left volumes) = local_cond (left == 0) _ _ (local_done _) (local_next_volume_entry head so_far left volumes d)
local_step spelling d (stage.Contexts left) = local_cond (left == 0) _ _ (local_binding_count d) (local_next_context left d)
local_step spelling d (stage.Bindings left) = local_cond (left == 0) _ _ (local_task_count d) (local_next_binding left d)
local_step spelling d (stage.Tasks left) = local_cond (left == 0) _ _ (local_done _) (local_next_task left d)
local_step spelling d (stage.Runs next) = local_run_step spelling next d (slice_get d.tasks next)
local_step spelling d (stage.Image head so_far left next) = local_cond (left == 0) _ _ (local_target_count head so_far next d) (local_next_image_entry head so_far left next d)
local_step spelling d (stage.Target head so_far left next) = local_cond (left == 0) _ _ (local_done _) (local_next_target_entry head so_far left next d)
local_step spelling d (stage.Pieces own so_far left next) = local_cond (left == 0) _ _ (local_done _) (local_next_piece own.0 so_far left next d)

-- ---- whole items

local_entries : IsLocal entries
unfolding entries
local_entries = local_then _ _ (local_number 4) (λ count. local_items (λ before. entry) (λ before. local_entry) count [])

local_pieces : IsLocal pieces
unfolding pieces
local_pieces = local_then _ _ (local_number 4) (λ count. local_items (λ before. piece) (λ before. local_piece) count [])

local_volume : (spelling : ℕ) (before : List (Volume Entry)) → IsLocal (volume spelling before)
unfolding volume
local_volume spelling before =
    local_then _ _ (local_volume_number before) (λ own. local_then _ _ (local_number 8) (λ container. local_then _ _ local_type (λ vtype. local_then _ _ local_kind (λ kind.
    local_then _ _ (local_reverted spelling) (λ reverted. local_then _ _ local_needs (λ asked. local_then _ _ (local_metadata spelling) (λ pairs. local_then _ _ local_entries (λ chunks. local_done _))))))))

local_running_clone : (spelling own : ℕ) → IsLocal (running_clone spelling own)
unfolding running_clone
local_running_clone spelling own =
    local_then _ _ (local_number 8) (λ container. local_then _ _ local_type (λ vtype. local_then _ _ local_needs (λ asked. local_then _ _ (local_metadata spelling) (λ pairs.
    local_then _ _ local_entries (λ image. local_then _ _ local_entries (λ target. local_done _))))))

local_running_copy : (own : ℕ) → IsLocal (running_copy own)
unfolding running_copy
local_running_copy own = local_then _ _ local_pieces (λ list. local_done _)

local_next_clone : (spelling own : ℕ) (before : Runs) → IsLocal (next_clone spelling own before)
unfolding next_clone
local_next_clone spelling own before = local_then _ _ (local_running_clone spelling own) (λ clone. local_done _)

local_next_copy : (own : ℕ) (before : Runs) → IsLocal (next_copy own before)
unfolding next_copy
local_next_copy own before = local_then _ _ (local_running_copy own) (λ copy. local_done _)

local_next_run : (spelling : ℕ) (t : Task) (before : Runs) → IsLocal (next_run spelling t before)
local_next_run spelling t before =
    local_cond (is_running t) _ _
    (local_cond (is_clone t.job) _ _ (local_next_clone spelling t.number before) (local_next_copy t.number before))
    (local_done before)

local_runs : (spelling : ℕ) (ts : List Task) (before : Runs) → IsLocal (runs spelling ts before)
unfolding runs
local_runs spelling [] before = local_done before
local_runs spelling (t ∷ ts) before = local_then _ _ (local_next_run spelling t before) (λ held. local_runs spelling ts held)

-- ---- what is still to be read

local_runs_rest : (spelling next : ℕ) (d : Durable Entry) → IsLocal (runs_rest spelling next d)
unfolding runs_rest
local_runs_rest spelling next d = local_then _ _ (local_runs spelling (drop next d.tasks) _) (λ held. local_done _)

local_tasks_rest : (spelling left : ℕ) (d : Durable Entry) → IsLocal (tasks_rest spelling left d)
unfolding tasks_rest
local_tasks_rest spelling left d = local_then _ _ (local_items task local_task left d.tasks) (λ jobs. local_runs_rest spelling 0 _)

local_after_bindings : (spelling : ℕ) (d : Durable Entry) → IsLocal (after_bindings spelling d)
unfolding after_bindings
local_after_bindings spelling d = local_then _ _ (local_number 2) (λ count. local_tasks_rest spelling count d)

local_bindings_rest : (spelling left : ℕ) (d : Durable Entry) → IsLocal (bindings_rest spelling left d)
unfolding bindings_rest
local_bindings_rest spelling left d = local_then _ _ (local_items binding local_binding left d.bindings) (λ bound. local_after_bindings spelling _)

local_after_contexts : (spelling : ℕ) (d : Durable Entry) → IsLocal (after_contexts spelling d)
unfolding after_contexts
local_after_contexts spelling d = local_then _ _ (local_number 2) (λ count. local_bindings_rest spelling count d)

local_contexts_rest : (spelling left : ℕ) (d : Durable Entry) → IsLocal (contexts_rest spelling left d)
unfolding contexts_rest
local_contexts_rest spelling left d = local_then _ _ (local_items context local_context left d.contexts) (λ list. local_after_contexts spelling _)

local_after_volumes : (spelling : ℕ) (d : Durable Entry) → IsLocal (after_volumes spelling d)
unfolding after_volumes
local_after_volumes spelling d = local_then _ _ (local_number 1) (λ count. local_contexts_rest spelling count d)

local_volumes_rest : (spelling left : ℕ) (d : Durable Entry) → IsLocal (volumes_rest spelling left d)
unfolding volumes_rest
local_volumes_rest spelling left d = local_then _ _ (local_items (volume spelling) (local_volume spelling) left d.volumes) (λ vols. local_after_volumes spelling _)

local_volume_entries_rest : (spelling : ℕ) (head : Volume Entry) (so_far : List Entry) (left volumes : ℕ) (d : Durable Entry) → IsLocal (volume_entries_rest spelling head so_far left volumes d)
unfolding volume_entries_rest
local_volume_entries_rest spelling head so_far left volumes d =
    local_then _ _ (local_items (λ before. entry) (λ before. local_entry) left so_far) (λ chunks. local_volumes_rest spelling volumes _)

local_after_containers : (spelling : ℕ) (d : Durable Entry) → IsLocal (after_containers spelling d)
unfolding after_containers
local_after_containers spelling d = local_then _ _ (local_number 2) (λ count. local_volumes_rest spelling count d)

local_containers_rest : (spelling left : ℕ) (d : Durable Entry) → IsLocal (containers_rest spelling left d)
unfolding containers_rest
local_containers_rest spelling left d = local_then _ _ (local_items container local_container left d.containers) (λ boxes. local_after_containers spelling _)

local_start_rest : (spelling : ℕ) (d : Durable Entry) → IsLocal (start_rest spelling d)
unfolding start_rest
local_start_rest spelling d = local_then _ _ (local_number 8) (λ lsn. local_then _ _ (local_within 1 1 255) (λ count. local_containers_rest spelling count _))

local_target_rest : (spelling : ℕ) (head : RunningClone Entry) (so_far : List Entry) (left next : ℕ) (d : Durable Entry) → IsLocal (target_rest spelling head so_far left next d)
unfolding target_rest
local_target_rest spelling head so_far left next d =
    local_then _ _ (local_items (λ before. entry) (λ before. local_entry) left so_far) (λ target. local_runs_rest spelling next _)

local_after_image : (spelling : ℕ) (head : RunningClone Entry) (next : ℕ) (d : Durable Entry) → IsLocal (after_image spelling head next d)
unfolding after_image
local_after_image spelling head next d = local_then _ _ (local_number 4) (λ count. local_target_rest spelling head [] count next d)

local_image_rest : (spelling : ℕ) (head : RunningClone Entry) (so_far : List Entry) (left next : ℕ) (d : Durable Entry) → IsLocal (image_rest spelling head so_far left next d)
unfolding image_rest
local_image_rest spelling head so_far left next d =
    local_then _ _ (local_items (λ before. entry) (λ before. local_entry) left so_far) (λ image. local_after_image spelling _ next d)

local_pieces_rest : (spelling own : ℕ) (so_far : List (Piece Entry)) (left next : ℕ) (d : Durable Entry) → IsLocal (pieces_rest spelling own so_far left next d)
unfolding pieces_rest
local_pieces_rest spelling own so_far left next d =
    local_then _ _ (local_items (λ before. piece) (λ before. local_piece) left so_far) (λ list. local_runs_rest spelling next _)

pub local_rest : (spelling : ℕ) (d : Durable Entry) (at : Stage) → IsLocal (rest_at spelling d at)
local_rest spelling d stage.Start = local_start_rest spelling d
local_rest spelling d (stage.Containers left) = local_containers_rest spelling left d
local_rest spelling d (stage.Volumes left) = local_volumes_rest spelling left d
local_rest spelling d (stage.VolumeEntries head so_far left volumes) = local_volume_entries_rest spelling head so_far left volumes d
local_rest spelling d (stage.Contexts left) = local_contexts_rest spelling left d
local_rest spelling d (stage.Bindings left) = local_bindings_rest spelling left d
local_rest spelling d (stage.Tasks left) = local_tasks_rest spelling left d
local_rest spelling d (stage.Runs next) = local_runs_rest spelling next d
local_rest spelling d (stage.Image head so_far left next) = local_image_rest spelling head so_far left next d
local_rest spelling d (stage.Target head so_far left next) = local_target_rest spelling head so_far left next d
local_rest spelling d (stage.Pieces own so_far left next) = local_pieces_rest spelling own.0 so_far left next d
