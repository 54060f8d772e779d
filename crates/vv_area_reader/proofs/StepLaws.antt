-- What is still to be read is the step that comes next, and then what is still to be read behind it.
use Rattle.std.proofs.Common.{◌≡◌, ℕ, zero, suc, ◌+◌, ◌-◌, ◌<◌, ◌==◌, Bool, true, false, cond, List, [], ◌∷◌, ◌++◌, drop, drop-cons, add-one, Option, Some, None, refl, sym, ap, ◌∙◌, arith, get_or, length}
use Rattle.std.specs.Prelude.{slice_get}
use Rattle.std.proofs.lemmas.Bool.{ne_eqb}
use Rattle.std.proofs.lemmas.Option.{slice_get_within, get_or_from_slice_get}
use Rattle.vv_units.specs.declared.geometry.Geometry.{Geometry}
use Rattle.vv_fields.specs.Fields.{ReaderState}
use Rattle.vv_record.specs.Reading.{Form, Reading, Read, Fault, then_read, done, number, number_within, items}
use Rattle.vv_record.specs.Forms.{vvol_type_field, needs}
use Rattle.vv_flat.specs.State.{Volume, Task, RunningClone, Piece, RunningCopy, Durable}
use Rattle.vv_flat.specs.Space.{is_running, is_clone}
use Rattle.vv_flat.specs.Chunks.{Entry}
use Rattle.vv_area.specs.Forms.{container, containers, volume_number, kind_field, reverted_field, metadata, volume, volumes, entry, entries, context, contexts, binding, bindings, task, tasks, piece, pieces, running_clone, running_copy, Runs, next_clone, next_copy, next_run, runs, tables}
use Rattle.vv_area_reader.specs.Progress.{come_to}
use Rattle.vv_area_reader.specs.Heads.{volume_head, clone_head}
use Rattle.vv_area_reader.specs.Steps.{with_container, with_volume, with_context, with_binding, with_task, with_clone, with_copy, start_step, volume_count, next_container, container_step, context_count, next_volume, volume_step, next_volume_entry, volume_entry_step, binding_count, next_context, context_step, task_count, next_binding, binding_step, next_task, task_step, begin_clone, begin_copy, run_step_at, target_count, next_image_entry, image_step, next_target_entry, target_step, next_piece, piece_step, step_at}
use Rattle.vv_area_reader.specs.Rest.{runs_rest, tasks_rest, after_bindings, bindings_rest, after_contexts, contexts_rest, after_volumes, volumes_rest, volume_entries_rest, after_containers, containers_rest, start_rest, target_rest, after_image, image_rest, pieces_rest, rest_at, rest_of}
use Rattle.vv_area_reader.specs.Told.{no_tables}
use Rattle.vv_area_reader.specs.declared.stage.Stage.{Stage}
use Rattle.vv_area_reader.specs.declared.stage.Stage.TheVariants as stage

-- ---- forms one after the other, joined otherwise

then_more : {A B C : Type 0} (first : Reading A) (second : A → Form B) (third : B → Form C) (both : A → Form C) → ((v : A) (r : ReaderState) → then_read (second v r) third ≡ both v r)
    → then_read (then_read first second) third ≡ then_read first both
then_more (Read v r) second third both same = same v r
then_more (Fault at) second third both same = refl

then_same : {A B : Type 0} (first : Reading A) (one other : A → Form B) → ((v : A) (r : ReaderState) → one v r ≡ other v r) → then_read first one ≡ then_read first other
then_same (Read v r) one other same = same v r
then_same (Fault at) one other same = refl

-- one item of a list that has more, and the others
list_step : {A P C : Type 0} (item : List A → Form A) (n : ℕ) (before : List A) (behind : List A → Form C) (come : A → P) (rest : P → Form C) (reader : ReaderState)
    → ((next : A) (r : ReaderState) → rest (come next) r ≡ then_read (items item n (before ++ next ∷ []) r) behind)
    → then_read (items item (suc n) before reader) behind ≡ then_read (then_read (item before reader) (λ next. done (come next))) rest
unfolding items
list_step item n before behind come rest reader same =
    then_more (item before reader) (λ next. items item n (before ++ next ∷ [])) behind (λ next r. then_read (items item n (before ++ next ∷ []) r) behind) (λ next r. refl)
    ∙ sym (then_more (item before reader) (λ next. done (come next)) rest (λ next r. then_read (items item n (before ++ next ∷ []) r) behind) same)

-- ---- one more is left

is_more : (n : ℕ) → (suc n == 0) ≡ false
is_more n = ne_eqb (suc n) 0 (λ e. absurd (omega arith))

fewer : (n : ℕ) → suc n - 1 ≡ n
fewer n = omega arith

taken : {A B : Type 0} (n : ℕ) (none more : Form A) (rest : A → Form B) (reader : ReaderState) → then_read (cond (suc n == 0) none more reader) rest ≡ then_read (more reader) rest
taken n none more rest reader = ap (λ (b : Bool). then_read (cond b none more reader) rest) (is_more n)

-- ---- sections with a list

start_law : (spelling : ℕ) (d : Durable Entry) (reader : ReaderState) → start_rest spelling d reader ≡ then_read (start_step d reader) (rest_of spelling)
unfolding start_rest start_step
start_law spelling d reader =
    sym (then_more (number 8 reader) _ _ _ (λ lsn r. then_more (number_within 1 1 255 r) _ _ _ (λ count s. refl)))

containers_law : (spelling left : ℕ) (d : Durable Entry) (reader : ReaderState) → containers_rest spelling left d reader ≡ then_read (container_step left d reader) (rest_of spelling)
unfolding containers_rest after_containers volume_count next_container items
containers_law spelling zero d reader = sym (then_more (number 2 reader) _ _ _ (λ count r. refl))
containers_law spelling (suc n) d reader =
    list_step container n d.containers (λ boxes. after_containers spelling (record d { containers = boxes })) (λ next. come_to (with_container d next) (stage.Containers (suc n - 1))) (rest_of spelling) reader
    (λ next r. ap (λ k. containers_rest spelling k (with_container d next) r) (fewer n))
    ∙ sym (taken n (volume_count d) (next_container (suc n) d) (rest_of spelling) reader)

contexts_law : (spelling left : ℕ) (d : Durable Entry) (reader : ReaderState) → contexts_rest spelling left d reader ≡ then_read (context_step left d reader) (rest_of spelling)
unfolding contexts_rest after_contexts binding_count next_context items
contexts_law spelling zero d reader = sym (then_more (number 2 reader) _ _ _ (λ count r. refl))
contexts_law spelling (suc n) d reader =
    list_step context n d.contexts (λ list. after_contexts spelling (record d { contexts = list })) (λ next. come_to (with_context d next) (stage.Contexts (suc n - 1))) (rest_of spelling) reader
    (λ next r. ap (λ k. contexts_rest spelling k (with_context d next) r) (fewer n))
    ∙ sym (taken n (binding_count d) (next_context (suc n) d) (rest_of spelling) reader)

bindings_law : (spelling left : ℕ) (d : Durable Entry) (reader : ReaderState) → bindings_rest spelling left d reader ≡ then_read (binding_step left d reader) (rest_of spelling)
unfolding bindings_rest after_bindings task_count next_binding items
bindings_law spelling zero d reader = sym (then_more (number 2 reader) _ _ _ (λ count r. refl))
bindings_law spelling (suc n) d reader =
    list_step binding n d.bindings (λ bound. after_bindings spelling (record d { bindings = bound })) (λ next. come_to (with_binding d next) (stage.Bindings (suc n - 1))) (rest_of spelling) reader
    (λ next r. ap (λ k. bindings_rest spelling k (with_binding d next) r) (fewer n))
    ∙ sym (taken n (task_count d) (next_binding (suc n) d) (rest_of spelling) reader)

tasks_law : (spelling left : ℕ) (d : Durable Entry) (reader : ReaderState) → tasks_rest spelling left d reader ≡ then_read (task_step left d reader) (rest_of spelling)
unfolding tasks_rest next_task items
tasks_law spelling zero d reader = refl
tasks_law spelling (suc n) d reader =
    list_step task n d.tasks (λ jobs. runs_rest spelling 0 (record d { tasks = jobs })) (λ next. come_to (with_task d next) (stage.Tasks (suc n - 1))) (rest_of spelling) reader
    (λ next r. ap (λ k. tasks_rest spelling k (with_task d next) r) (fewer n))
    ∙ sym (taken n (done (come_to d (stage.Runs 0))) (next_task (suc n) d) (rest_of spelling) reader)

-- ---- volumes

abbrev volume_tail : Volume Entry → Form (Volume Entry)
volume_tail head reader = then_read (number 4 reader) (λ count r. then_read (items (λ before. entry) count [] r) (λ chunks. done (record head { chunks = chunks })))

volume_parts : (spelling : ℕ) (before : List (Volume Entry)) (reader : ReaderState) → volume spelling before reader ≡ then_read (volume_head spelling before reader) volume_tail
unfolding volume volume_head entries
volume_parts spelling before reader =
    sym (then_more (volume_number before reader) _ _ _ (λ own r1. then_more (number 8 r1) _ _ _ (λ container r2. then_more (vvol_type_field r2) _ _ _ (λ vtype r3. then_more (kind_field r3) _ _ _ (λ kind r4.
    then_more (reverted_field spelling r4) _ _ _ (λ reverted r5. then_more (needs r5) _ _ _ (λ asked r6. then_more (metadata spelling r6) _ _ _ (λ pairs r7.
    sym (then_more (number 4 r7) _ _ _ (λ count r8. refl))))))))))

volumes_law : (spelling left : ℕ) (d : Durable Entry) (reader : ReaderState) → volumes_rest spelling left d reader ≡ then_read (volume_step spelling left d reader) (rest_of spelling)
unfolding volumes_rest after_volumes volume_entries_rest context_count next_volume items
volumes_law spelling zero d reader = sym (then_more (number 1 reader) _ _ _ (λ count r. refl))
volumes_law spelling (suc n) d reader =
    let behind : Volume Entry → Form (Durable Entry) = λ v. volumes_rest spelling n (with_volume d v) in
    let parts : Volume Entry → Form (Durable Entry) = λ head r. then_read (number 4 r) (λ count. volume_entries_rest spelling head [] count n d) in
    then_more (volume spelling d.volumes reader) _ _ behind (λ v r. refl)
    ∙ ap (λ reading. then_read reading behind) (volume_parts spelling d.volumes reader)
    ∙ then_more (volume_head spelling d.volumes reader) volume_tail behind parts
    (λ head r. then_more (number 4 r) _ _ _ (λ count s. then_more (items (λ before. entry) count [] s) _ _ _ (λ chunks t. refl)))
    ∙ sym (then_more (volume_head spelling d.volumes reader) _ (rest_of spelling) parts
    (λ head r. then_more (number 4 r) _ _ _ (λ count s. ap (λ k. volume_entries_rest spelling head [] count k d s) (fewer n))))
    ∙ sym (taken n (context_count d) (next_volume spelling (suc n) d) (rest_of spelling) reader)

volume_entries_law : (spelling : ℕ) (head : Volume Entry) (so_far : List Entry) (left volumes : ℕ) (d : Durable Entry) (reader : ReaderState)
    → volume_entries_rest spelling head so_far left volumes d reader ≡ then_read (volume_entry_step head so_far left volumes d reader) (rest_of spelling)
unfolding volume_entries_rest next_volume_entry items
volume_entries_law spelling head so_far zero volumes d reader = refl
volume_entries_law spelling head so_far (suc n) volumes d reader =
    list_step (λ before. entry) n so_far (λ chunks. volumes_rest spelling volumes (with_volume d (record head { chunks = chunks })))
    (λ next. come_to d (stage.VolumeEntries head (so_far ++ next ∷ []) (suc n - 1) volumes)) (rest_of spelling) reader
    (λ next r. ap (λ k. volume_entries_rest spelling head (so_far ++ next ∷ []) k volumes d r) (fewer n))
    ∙ sym (taken n (done (come_to (with_volume d (record head { chunks = so_far })) (stage.Volumes volumes))) (next_volume_entry head so_far (suc n) volumes d) (rest_of spelling) reader)

-- ---- what running tasks hold

target_law : (spelling : ℕ) (head : RunningClone Entry) (so_far : List Entry) (left next : ℕ) (d : Durable Entry) (reader : ReaderState)
    → target_rest spelling head so_far left next d reader ≡ then_read (target_step head so_far left next d reader) (rest_of spelling)
unfolding target_rest next_target_entry items
target_law spelling head so_far zero next d reader = refl
target_law spelling head so_far (suc n) next d reader =
    list_step (λ before. entry) n so_far (λ target. runs_rest spelling next (with_clone d (record head { target = target })))
    (λ more. come_to d (stage.Target head (so_far ++ more ∷ []) (suc n - 1) next)) (rest_of spelling) reader
    (λ more r. ap (λ k. target_rest spelling head (so_far ++ more ∷ []) k next d r) (fewer n))
    ∙ sym (taken n (done (come_to (with_clone d (record head { target = so_far })) (stage.Runs next))) (next_target_entry head so_far (suc n) next d) (rest_of spelling) reader)

image_law : (spelling : ℕ) (head : RunningClone Entry) (so_far : List Entry) (left next : ℕ) (d : Durable Entry) (reader : ReaderState)
    → image_rest spelling head so_far left next d reader ≡ then_read (image_step head so_far left next d reader) (rest_of spelling)
unfolding image_rest after_image target_count next_image_entry items
image_law spelling head so_far zero next d reader = sym (then_more (number 4 reader) _ _ _ (λ count r. refl))
image_law spelling head so_far (suc n) next d reader =
    list_step (λ before. entry) n so_far (λ image. after_image spelling (record head { image = image }) next d)
    (λ more. come_to d (stage.Image head (so_far ++ more ∷ []) (suc n - 1) next)) (rest_of spelling) reader
    (λ more r. ap (λ k. image_rest spelling head (so_far ++ more ∷ []) k next d r) (fewer n))
    ∙ sym (taken n (target_count head so_far next d) (next_image_entry head so_far (suc n) next d) (rest_of spelling) reader)

pieces_law : (spelling own : ℕ) (so_far : List (Piece Entry)) (left next : ℕ) (d : Durable Entry) (reader : ReaderState)
    → pieces_rest spelling own so_far left next d reader ≡ then_read (piece_step own so_far left next d reader) (rest_of spelling)
unfolding pieces_rest next_piece items
pieces_law spelling own so_far zero next d reader = refl
pieces_law spelling own so_far (suc n) next d reader =
    list_step (λ before. piece) n so_far (λ list. runs_rest spelling next (with_copy d (record { number = own; pieces = list })))
    (λ more. come_to d (stage.Pieces (record { 0 = own }) (so_far ++ more ∷ []) (suc n - 1) next)) (rest_of spelling) reader
    (λ more r. ap (λ k. pieces_rest spelling own (so_far ++ more ∷ []) k next d r) (fewer n))
    ∙ sym (taken n (done (come_to (with_copy d (record { number = own; pieces = so_far })) (stage.Runs next))) (next_piece own so_far (suc n) next d) (rest_of spelling) reader)

abbrev clone_tail : RunningClone Entry → Form (RunningClone Entry)
clone_tail head reader =
    then_read (number 4 reader) (λ count r. then_read (items (λ before. entry) count [] r) (λ image s. then_read (number 4 s) (λ count t. then_read (items (λ before. entry) count [] t)
    (λ target. done (record head { image = image; target = target })))))

clone_parts : (spelling own : ℕ) (reader : ReaderState) → running_clone spelling own reader ≡ then_read (clone_head spelling own reader) clone_tail
unfolding running_clone clone_head entries
clone_parts spelling own reader =
    sym (then_more (number 8 reader) _ _ _ (λ container r1. then_more (vvol_type_field r1) _ _ _ (λ vtype r2. then_more (needs r2) _ _ _ (λ asked r3. then_more (metadata spelling r3) _ _ _ (λ pairs r4.
    sym (then_more (number 4 r4) _ _ _ (λ count r5. then_same (items (λ before. entry) count [] r5) _ _ (λ image r6. then_more (number 4 r6) _ _ _ (λ more r7. refl)))))))))

-- what the tasks behind one hold
abbrev behind_run : ℕ → ℕ → Durable Entry → Runs → Form (Durable Entry)
behind_run spelling next d held reader =
    then_read (runs spelling (drop next d.tasks) held reader) (λ all. done (record d { clones = all.clones; copies = all.copies }))

abbrev runs_in : Durable Entry → Runs
runs_in d = record { clones = d.clones; copies = d.copies }

clone_law : (spelling own next : ℕ) (d : Durable Entry) (reader : ReaderState)
    → then_read (next_clone spelling own (runs_in d) reader) (behind_run spelling next d) ≡ then_read (begin_clone spelling own next d reader) (rest_of spelling)
unfolding next_clone begin_clone runs_rest target_rest after_image image_rest
clone_law spelling own next d reader =
    let behind : RunningClone Entry → Form (Durable Entry) = λ c. runs_rest spelling next (with_clone d c) in
    let parts : RunningClone Entry → Form (Durable Entry) = λ head r. then_read (number 4 r) (λ count. image_rest spelling head [] count next d) in
    then_more (running_clone spelling own reader) _ _ behind (λ c r. refl)
    ∙ ap (λ reading. then_read reading behind) (clone_parts spelling own reader)
    ∙ then_more (clone_head spelling own reader) clone_tail behind parts
    (λ head r. then_more (number 4 r) _ _ _ (λ count s. then_more (items (λ before. entry) count [] s) _ _ _ (λ image t. then_more (number 4 t) _ _ _ (λ more u.
    then_more (items (λ before. entry) more [] u) _ _ _ (λ target v. refl)))))
    ∙ sym (then_more (clone_head spelling own reader) _ (rest_of spelling) parts (λ head r. then_more (number 4 r) _ _ _ (λ count s. refl)))

copy_law : (spelling own next : ℕ) (d : Durable Entry) (reader : ReaderState)
    → then_read (next_copy own (runs_in d) reader) (behind_run spelling next d) ≡ then_read (begin_copy own next d reader) (rest_of spelling)
unfolding next_copy running_copy pieces begin_copy runs_rest pieces_rest
copy_law spelling own next d reader =
    let behind : RunningCopy Entry → Form (Durable Entry) = λ c. runs_rest spelling next (with_copy d c) in
    let parts : ℕ → Form (Durable Entry) = λ count. pieces_rest spelling own [] count next d in
    then_more (running_copy own reader) _ _ behind (λ c r. refl)
    ∙ then_more (pieces reader) _ _ (λ list. behind (record { number = own; pieces = list })) (λ list r. refl)
    ∙ then_more (number 4 reader) _ _ parts (λ count r. refl)
    ∙ sym (then_more (number 4 reader) _ (rest_of spelling) parts (λ count r. refl))

run_law : (spelling : ℕ) (t : Task) (next : ℕ) (d : Durable Entry) (reader : ReaderState) (runs_on of_clone : Bool)
    → then_read (cond runs_on (cond of_clone (next_clone spelling t.number (runs_in d)) (next_copy t.number (runs_in d))) (done (runs_in d)) reader) (behind_run spelling next d)
    ≡ then_read (cond runs_on (cond of_clone (begin_clone spelling t.number next d) (begin_copy t.number next d)) (done (come_to d (stage.Runs next))) reader) (rest_of spelling)
unfolding runs_rest
run_law spelling t next d reader true true = clone_law spelling t.number next d reader
run_law spelling t next d reader true false = copy_law spelling t.number next d reader
run_law spelling t next d reader false of_clone = refl

task_is : (tasks : List Task) (next : ℕ) (t : Task) → slice_get tasks next ≡ Some t → drop next tasks ≡ t ∷ drop (next + 1) tasks
task_is tasks next t found =
    let here : next < length tasks = slice_get_within tasks next t found in
    let is : get_or tasks next t ≡ t = get_or_from_slice_get tasks next t t found in
    rw (add-one, drop-cons tasks next t) (ap (λ u. u ∷ drop (suc next) tasks) is)

runs_law_at : (spelling next : ℕ) (d : Durable Entry) (reader : ReaderState) (found : Option Task) → slice_get d.tasks next ≡ found
    → runs_rest spelling next d reader ≡ then_read (run_step_at spelling next d found reader) (rest_of spelling)
unfolding runs_rest runs
runs_law_at spelling next d reader (Some t) is =
    ap (λ ts. then_read (runs spelling ts (runs_in d) reader) (λ all. done (record d { clones = all.clones; copies = all.copies }))) (task_is d.tasks next t is)
    ∙ then_more (next_run spelling t (runs_in d) reader) _ _ (behind_run spelling (next + 1) d) (λ held r. refl)
    ∙ run_law spelling t (next + 1) d reader (is_running t) (is_clone t.job)
runs_law_at spelling next d reader None is = refl

-- ---- the whole

pub step_law : (spelling : ℕ) (d : Durable Entry) (at : Stage) (reader : ReaderState) → rest_at spelling d at reader ≡ then_read (step_at spelling d at reader) (rest_of spelling)
step_law spelling d stage.Start reader = start_law spelling d reader
step_law spelling d (stage.Containers left) reader = containers_law spelling left d reader
step_law spelling d (stage.Volumes left) reader = volumes_law spelling left d reader
step_law spelling d (stage.VolumeEntries head so_far left volumes) reader = volume_entries_law spelling head so_far left volumes d reader
step_law spelling d (stage.Contexts left) reader = contexts_law spelling left d reader
step_law spelling d (stage.Bindings left) reader = bindings_law spelling left d reader
step_law spelling d (stage.Tasks left) reader = tasks_law spelling left d reader
step_law spelling d (stage.Runs next) reader = runs_law_at spelling next d reader (slice_get d.tasks next) refl
step_law spelling d (stage.Image head so_far left next) reader = image_law spelling head so_far left next d reader
step_law spelling d (stage.Target head so_far left next) reader = target_law spelling head so_far left next d reader
step_law spelling d (stage.Pieces own so_far left next) reader = pieces_law spelling own.0 so_far left next d reader

-- Nothing is left behind the last task.
pub nothing_left : (spelling next : ℕ) (d : Durable Entry) (reader : ReaderState) → drop next d.tasks ≡ [] → runs_rest spelling next d reader ≡ Read d reader
unfolding runs_rest runs
nothing_left spelling next d reader none =
    ap (λ ts. then_read (runs spelling ts (runs_in d) reader) (λ all. done (record d { clones = all.clones; copies = all.copies }))) none

-- All is left at the start.
pub all_left : (geometry : Geometry) (spelling : ℕ) (reader : ReaderState) → tables geometry spelling reader ≡ start_rest spelling (no_tables geometry) reader
unfolding tables containers volumes contexts bindings tasks start_rest containers_rest after_containers volumes_rest after_volumes contexts_rest after_contexts bindings_rest after_bindings tasks_rest runs_rest
all_left geometry spelling reader =
    then_same (number 8 reader) _ _ (λ lsn r1.
    then_more (number_within 1 1 255 r1) _ _ _ (λ count r2. then_same (items container count [] r2) _ _ (λ boxes r3.
    then_more (number 2 r3) _ _ _ (λ count r4. then_same (items (volume spelling) count [] r4) _ _ (λ vols r5.
    then_more (number 1 r5) _ _ _ (λ count r6. then_same (items context count [] r6) _ _ (λ list r7.
    then_more (number 2 r7) _ _ _ (λ count r8. then_same (items binding count [] r8) _ _ (λ bound r9.
    then_more (number 2 r9) _ _ _ (λ count r10. refl))))))))))
