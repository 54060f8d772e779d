-- No step reads more than so many bytes.
use Rattle.std.proofs.Common.{ℕ, ◌+◌, ◌≤◌, ◌==◌, Bool, true, false, cond, List, [], Option, Some, None, lit<, lit≤, arith}
use Rattle.std.specs.Prelude.{slice_get}
use Rattle.vv_record.specs.Reading.{done, number}
use Rattle.vv_record.specs.Forms.{quota, vvol_type_field, note, name_bytes, other_name, offer, offers, need, needs, endpoint, other_endpoint, endpoints}
use Rattle.vv_units.specs.declared.volume.Offer.{Offer}
use Rattle.vv_units.specs.declared.volume.Need.{Need}
use Rattle.vv_units.specs.declared.numbers.EndpointId.{EndpointId}
use Rattle.vv_flat.specs.State.{Container, Volume, Context, Binding, Task, RunningClone, Piece, Durable}
use Rattle.vv_flat.specs.Space.{is_running, is_clone}
use Rattle.vv_flat.specs.Chunks.{Entry}
use Rattle.vv_area.specs.Forms.{container_number, container, source_of, kind_field, reverted_field, most_pairs, key_bytes, other_key, pair, metadata, place_field, entry, volume_number, context_host, context, binding_host, binding_endpoint, binding_secondary, address, binding, clone_job, copy_job, job_field, state_field, task_number, task, piece}
use Rattle.vv_area_reader.specs.Heads.{volume_head, clone_head}
use Rattle.vv_area_reader.specs.Steps.{start_step, volume_count, next_container, context_count, next_volume, next_volume_entry, binding_count, next_context, task_count, next_binding, next_task, begin_clone, begin_copy, begin_run, run_step_at, target_count, next_image_entry, next_target_entry, next_piece, step_at}
use Rattle.vv_area_reader.specs.Making.{step_limit}
use Rattle.vv_area_reader.specs.declared.stage.Stage.{Stage}
use Rattle.vv_area_reader.specs.declared.stage.Stage.TheVariants as stage
use Rattle.vv_area_reader.proofs.Short.{IsShort, short_longer, short_then, short_done, short_cond, short_number, short_bytes, short_allowed, short_within, short_few, short_list}

-- ---- fields

short_quota : IsShort 8 quota
unfolding quota
short_quota = short_allowed 8 _ _ (lit< tt) (short_number 8)

short_type : IsShort 1 vvol_type_field
unfolding vvol_type_field
short_type = short_then 1 0 _ _ (short_within 1 0 4 (lit< tt)) (λ n. short_done _)

short_note : IsShort 97 note
unfolding note
short_note = short_few 1 96 0 96 _ (lit< tt) (λ n le. short_allowed 96 _ _ (lit< tt) (short_longer n 96 _ le (short_bytes n)))

short_other_name : (is_taken : List ℕ → Bool) → IsShort 25 (other_name is_taken)
unfolding other_name name_bytes
short_other_name is_taken =
    short_few 1 24 1 24 _ (lit< tt) (λ n le. short_allowed 24 _ _ (lit< tt) (short_allowed 24 _ _ (lit< tt) (short_longer n 24 _ le (short_bytes n))))

short_offer : (before : List Offer) → IsShort 33 (offer before)
unfolding offer
short_offer before = short_then 25 8 _ _ (short_other_name _) (λ name. short_then 8 0 _ _ (short_number 8) (λ value. short_done _))

short_offers : IsShort 529 offers
unfolding offers
short_offers = short_few 1 528 0 16 _ (lit< tt) (λ n le. short_list 33 16 offer short_offer n le [])

short_need : (before : List Need) → IsShort 33 (need before)
unfolding need
short_need before = short_then 25 8 _ _ (short_other_name _) (λ name. short_then 8 0 _ _ (short_number 8) (λ value. short_done _))

short_needs : IsShort 265 needs
unfolding needs
short_needs = short_few 1 264 0 8 _ (lit< tt) (λ n le. short_list 33 8 need short_need n le [])

short_other_endpoint : (before : List EndpointId) → IsShort 2 (other_endpoint before)
unfolding other_endpoint endpoint
short_other_endpoint before = short_allowed 2 _ _ (lit< tt) (short_then 2 0 _ _ (short_number 2) (λ n. short_done _))

short_endpoints : IsShort 17 endpoints
unfolding endpoints
short_endpoints = short_few 1 16 0 8 _ (lit< tt) (λ n le. short_list 2 8 other_endpoint short_other_endpoint n le [])

-- ---- containers

short_container : (before : List Container) → IsShort 545 (container before)
unfolding container container_number
short_container before =
    short_then 8 537 _ _ (short_allowed 8 _ _ (lit< tt) (short_number 8)) (λ own. short_then 8 529 _ _ short_quota (λ most. short_then 529 0 _ _ short_offers (λ offered. short_done _)))

-- ---- volumes

short_kind : IsShort 9 kind_field
unfolding kind_field source_of
short_kind = short_then 1 8 _ _ (short_within 1 0 3 (lit< tt)) (λ kind. short_then 8 0 _ _ (short_allowed 8 _ _ (lit< tt) (short_number 8)) (λ source. short_done _))

short_reverted : (spelling : ℕ) → IsShort 8 (reverted_field spelling)
short_reverted spelling = short_cond 8 (spelling == 1) (done 0) (number 8) (short_longer 0 8 _ (lit≤ tt) (short_done 0)) (short_number 8)

short_other_key : (before : List (List ℕ × List ℕ)) → IsShort 33 (other_key before)
unfolding other_key key_bytes
short_other_key before =
    short_few 1 32 1 32 _ (lit< tt) (λ n le. short_allowed 32 _ _ (lit< tt) (short_allowed 32 _ _ (lit< tt) (short_longer n 32 _ le (short_bytes n))))

short_pair : (before : List (List ℕ × List ℕ)) → IsShort 130 (pair before)
unfolding pair
short_pair before = short_then 33 97 _ _ (short_other_key before) (λ key. short_then 97 0 _ _ short_note (λ text. short_done _))

most_by : (b : Bool) → cond b 16 64 ≤ 64
most_by true = lit≤ tt
most_by false = lit≤ tt

at_most : (n m k : ℕ) → n ≤ m → m ≤ k → n ≤ k
at_most n m k one two = omega arith

short_metadata : (spelling : ℕ) → IsShort 8321 (metadata spelling)
unfolding metadata
short_metadata spelling =
    short_few 1 8320 0 (most_pairs spelling) _ (lit< tt) (λ n le. short_list 130 64 pair short_pair n (at_most n (most_pairs spelling) 64 le (most_by (spelling == 1))) [])

short_place : IsShort 4 place_field
unfolding place_field
short_place = short_then 4 0 _ _ (short_number 4) (λ n. short_done _)

short_entry : IsShort 12 entry
unfolding entry
short_entry = short_then 4 8 _ _ short_place (λ place. short_then 8 0 _ _ (short_number 8) (λ stamp. short_done _))

short_volume_head : (spelling : ℕ) (before : List (Volume Entry)) → IsShort 8620 (volume_head spelling before)
unfolding volume_head volume_number
short_volume_head spelling before =
    short_then 8 8612 _ _ (short_allowed 8 _ _ (lit< tt) (short_number 8)) (λ own. short_then 8 8604 _ _ (short_number 8) (λ container. short_then 1 8603 _ _ short_type (λ vtype.
    short_then 9 8594 _ _ short_kind (λ kind. short_then 8 8586 _ _ (short_reverted spelling) (λ reverted. short_then 265 8321 _ _ short_needs (λ asked. short_then 8321 0 _ _ (short_metadata spelling) (λ pairs. short_done _)))))))

-- ---- contexts, bindings

short_context : (before : List Context) → IsShort 21 (context before)
unfolding context context_host
short_context before =
    short_then 4 17 _ _ (short_allowed 4 _ _ (lit< tt) (short_within 4 1 64 (lit< tt))) (λ host. short_then 17 0 _ _ short_endpoints (λ list. short_done _))

short_address : (before : List Binding) → IsShort 8 (address before)
unfolding address binding_host binding_endpoint binding_secondary
short_address before =
    short_then 4 4 _ _ (short_allowed 4 _ _ (lit< tt) (short_within 4 1 64 (lit< tt))) (λ host. short_then 2 2 _ _ (short_allowed 2 _ _ (lit< tt) (short_number 2)) (λ point.
    short_then 2 0 _ _ (short_allowed 2 _ _ (lit< tt) (short_number 2)) (λ secondary. short_done _)))

short_binding : (before : List Binding) → IsShort 18 (binding before)
unfolding binding
short_binding before = short_then 8 10 _ _ (short_address before) (λ bound_at. short_then 8 2 _ _ (short_number 8) (λ volume. short_then 2 0 _ _ (short_number 2) (λ count. short_done _)))

-- ---- tasks

short_clone_job : IsShort 24 clone_job
unfolding clone_job
short_clone_job = short_longer 8 24 _ (lit≤ tt) (short_then 8 0 _ _ (short_number 8) (λ volume. short_done _))

short_copy_job : IsShort 24 copy_job
unfolding copy_job
short_copy_job = short_then 8 16 _ _ (short_number 8) (λ source. short_then 8 8 _ _ (short_number 8) (λ base. short_then 8 0 _ _ (short_number 8) (λ target. short_done _)))

short_job : IsShort 25 job_field
unfolding job_field
short_job = short_then 1 24 _ _ (short_within 1 1 2 (lit< tt)) (λ kind. short_cond 24 (kind == 1) clone_job copy_job short_clone_job short_copy_job)

short_state : IsShort 1 state_field
unfolding state_field
short_state = short_then 1 0 _ _ (short_within 1 0 3 (lit< tt)) (λ n. short_done _)

short_task : (before : List Task) → IsShort 42 (task before)
unfolding task task_number
short_task before =
    short_then 8 34 _ _ (short_allowed 8 _ _ (lit< tt) (short_number 8)) (λ own. short_then 25 9 _ _ short_job (λ job. short_then 1 8 _ _ short_state (λ state.
    short_then 4 4 _ _ (short_number 4) (λ so_far. short_then 4 0 _ _ (short_number 4) (λ total. short_done _)))))

-- ---- what running tasks hold

short_clone_head : (spelling own : ℕ) → IsShort 8595 (clone_head spelling own)
unfolding clone_head
short_clone_head spelling own =
    short_then 8 8587 _ _ (short_number 8) (λ container. short_then 1 8586 _ _ short_type (λ vtype. short_then 265 8321 _ _ short_needs (λ asked. short_then 8321 0 _ _ (short_metadata spelling) (λ pairs. short_done _))))

short_piece : IsShort 16 piece
unfolding piece
short_piece = short_then 4 12 _ _ (short_number 4) (λ index. short_then 12 0 _ _ short_entry (λ chunk. short_done _))

-- ---- steps

short_start_step : (d : Durable Entry) → IsShort step_limit (start_step d)
unfolding start_step
short_start_step d = short_longer 9 step_limit _ (lit≤ tt) (short_then 8 1 _ _ (short_number 8) (λ lsn. short_then 1 0 _ _ (short_within 1 1 255 (lit< tt)) (λ count. short_done _)))

short_volume_count : (d : Durable Entry) → IsShort step_limit (volume_count d)
unfolding volume_count
short_volume_count d = short_longer 2 step_limit _ (lit≤ tt) (short_then 2 0 _ _ (short_number 2) (λ count. short_done _))

short_next_container : (left : ℕ) (d : Durable Entry) → IsShort step_limit (next_container left d)
unfolding next_container
short_next_container left d = short_longer 545 step_limit _ (lit≤ tt) (short_then 545 0 _ _ (short_container d.containers) (λ next. short_done _))

short_context_count : (d : Durable Entry) → IsShort step_limit (context_count d)
unfolding context_count
short_context_count d = short_longer 1 step_limit _ (lit≤ tt) (short_then 1 0 _ _ (short_number 1) (λ count. short_done _))

short_next_volume : (spelling left : ℕ) (d : Durable Entry) → IsShort step_limit (next_volume spelling left d)
unfolding next_volume
short_next_volume spelling left d = short_then 8620 4 _ _ (short_volume_head spelling d.volumes) (λ head. short_then 4 0 _ _ (short_number 4) (λ count. short_done _))

short_next_volume_entry : (head : Volume Entry) (so_far : List Entry) (left volumes : ℕ) (d : Durable Entry) → IsShort step_limit (next_volume_entry head so_far left volumes d)
unfolding next_volume_entry
short_next_volume_entry head so_far left volumes d = short_longer 12 step_limit _ (lit≤ tt) (short_then 12 0 _ _ short_entry (λ next. short_done _))

short_binding_count : (d : Durable Entry) → IsShort step_limit (binding_count d)
unfolding binding_count
short_binding_count d = short_longer 2 step_limit _ (lit≤ tt) (short_then 2 0 _ _ (short_number 2) (λ count. short_done _))

short_next_context : (left : ℕ) (d : Durable Entry) → IsShort step_limit (next_context left d)
unfolding next_context
short_next_context left d = short_longer 21 step_limit _ (lit≤ tt) (short_then 21 0 _ _ (short_context d.contexts) (λ next. short_done _))

short_task_count : (d : Durable Entry) → IsShort step_limit (task_count d)
unfolding task_count
short_task_count d = short_longer 2 step_limit _ (lit≤ tt) (short_then 2 0 _ _ (short_number 2) (λ count. short_done _))

short_next_binding : (left : ℕ) (d : Durable Entry) → IsShort step_limit (next_binding left d)
unfolding next_binding
short_next_binding left d = short_longer 18 step_limit _ (lit≤ tt) (short_then 18 0 _ _ (short_binding d.bindings) (λ next. short_done _))

short_next_task : (left : ℕ) (d : Durable Entry) → IsShort step_limit (next_task left d)
unfolding next_task
short_next_task left d = short_longer 42 step_limit _ (lit≤ tt) (short_then 42 0 _ _ (short_task d.tasks) (λ next. short_done _))

short_none : {p : Type 0} (value : p) → IsShort step_limit (done value)
short_none value = short_longer 0 step_limit _ (lit≤ tt) (short_done value)

short_begin_clone : (spelling own next : ℕ) (d : Durable Entry) → IsShort step_limit (begin_clone spelling own next d)
unfolding begin_clone
short_begin_clone spelling own next d =
    short_longer 8599 step_limit _ (lit≤ tt) (short_then 8595 4 _ _ (short_clone_head spelling own) (λ head. short_then 4 0 _ _ (short_number 4) (λ count. short_done _)))

short_begin_copy : (own next : ℕ) (d : Durable Entry) → IsShort step_limit (begin_copy own next d)
unfolding begin_copy
short_begin_copy own next d = short_longer 4 step_limit _ (lit≤ tt) (short_then 4 0 _ _ (short_number 4) (λ count. short_done _))

short_begin_run : (spelling : ℕ) (t : Task) (next : ℕ) (d : Durable Entry) → IsShort step_limit (begin_run spelling t next d)
short_begin_run spelling t next d =
    short_cond step_limit (is_running t) _ _
    (short_cond step_limit (is_clone t.job) _ _ (short_begin_clone spelling t.number next d) (short_begin_copy t.number next d))
    (short_none _)

short_run_step : (spelling next : ℕ) (d : Durable Entry) (found : Option Task) → IsShort step_limit (run_step_at spelling next d found)
short_run_step spelling next d (Some t) = short_begin_run spelling t (next + 1) d
short_run_step spelling next d None = short_none _

short_target_count : (head : RunningClone Entry) (image : List Entry) (next : ℕ) (d : Durable Entry) → IsShort step_limit (target_count head image next d)
unfolding target_count
short_target_count head image next d = short_longer 4 step_limit _ (lit≤ tt) (short_then 4 0 _ _ (short_number 4) (λ count. short_done _))

short_next_image_entry : (head : RunningClone Entry) (so_far : List Entry) (left next : ℕ) (d : Durable Entry) → IsShort step_limit (next_image_entry head so_far left next d)
unfolding next_image_entry
short_next_image_entry head so_far left next d = short_longer 12 step_limit _ (lit≤ tt) (short_then 12 0 _ _ short_entry (λ more. short_done _))

short_next_target_entry : (head : RunningClone Entry) (so_far : List Entry) (left next : ℕ) (d : Durable Entry) → IsShort step_limit (next_target_entry head so_far left next d)
unfolding next_target_entry
short_next_target_entry head so_far left next d = short_longer 12 step_limit _ (lit≤ tt) (short_then 12 0 _ _ short_entry (λ more. short_done _))

short_next_piece : (own : ℕ) (so_far : List (Piece Entry)) (left next : ℕ) (d : Durable Entry) → IsShort step_limit (next_piece own so_far left next d)
unfolding next_piece
short_next_piece own so_far left next d = short_longer 16 step_limit _ (lit≤ tt) (short_then 16 0 _ _ short_piece (λ more. short_done _))

pub short_step : (spelling : ℕ) (d : Durable Entry) (at : Stage) → IsShort step_limit (step_at spelling d at)
short_step spelling d stage.Start = short_start_step d
short_step spelling d (stage.Containers left) = short_cond step_limit (left == 0) _ _ (short_volume_count d) (short_next_container left d)
short_step spelling d (stage.Volumes left) = short_cond step_limit (left == 0) _ _ (short_context_count d) (short_next_volume spelling left d)
short_step spelling d (stage.VolumeEntries head so_far left volumes) = short_cond step_limit (left == 0) _ _ (short_none _) (short_next_volume_entry head so_far left volumes d)
short_step spelling d (stage.Contexts left) = short_cond step_limit (left == 0) _ _ (short_binding_count d) (short_next_context left d)
short_step spelling d (stage.Bindings left) = short_cond step_limit (left == 0) _ _ (short_task_count d) (short_next_binding left d)
short_step spelling d (stage.Tasks left) = short_cond step_limit (left == 0) _ _ (short_none _) (short_next_task left d)
short_step spelling d (stage.Runs next) = short_run_step spelling next d (slice_get d.tasks next)
short_step spelling d (stage.Image head so_far left next) = short_cond step_limit (left == 0) _ _ (short_target_count head so_far next d) (short_next_image_entry head so_far left next d)
short_step spelling d (stage.Target head so_far left next) = short_cond step_limit (left == 0) _ _ (short_none _) (short_next_target_entry head so_far left next d)
short_step spelling d (stage.Pieces own so_far left next) = short_cond step_limit (left == 0) _ _ (short_none _) (short_next_piece own.0 so_far left next d)
