-- How long spellings are.
use Rattle.std.proofs.Common.{◌≡◌, ℕ, suc, ◌+◌, ◌*◌, ◌^◌, ◌≤◌, ◌&&◌, Bool, true, false, cond, eqb, leb, List, [], ◌∷◌, ◌++◌, length, take, drop, Option, Some, None, refl, ap, arith, length-append}
use Rattle.std.specs.Prelude.{sum_by}
use Rattle.std.specs.List.{list_all, flat_map, concat}
use Rattle.std.proofs.lemmas.Bool.{and_parts, eqb-true, ltb-true}
use Rattle.std.proofs.lemmas.List.Sums.{sum_by-cons}
use Rattle.vv_fields.specs.Fields.{be_bytes}
use Rattle.vv_fields.proofs.ByteLemmas.{length-be_bytes}
use Rattle.vv_units.specs.Names.{is_key, is_note}
use Rattle.vv_units.specs.declared.volume.Offer.{Offer}
use Rattle.vv_units.specs.declared.volume.Need.{Need}
use Rattle.vv_units.specs.declared.numbers.EndpointId.{EndpointId}
use Rattle.vv_record.specs.Spelling.{text_spelling, list_spelling, type_number, offer_spelling, need_spelling, endpoint_spelling, offers_spelling, needs_spelling, endpoints_spelling, are_offers, are_needs, are_endpoints, each_behind, fits}
use Rattle.vv_record.proofs.Lengths.{length-text, length-list, length-offers, length-needs, length-endpoints, length-key, length-note}
use Rattle.vv_flat.specs.State.{Container, Volume, Context, Address, Binding, Job, Clone, Copy, Task, RunningClone, Piece, RunningCopy, Durable}
use Rattle.vv_flat.specs.Chunks.{Entry}
use Rattle.vv_flat.specs.Space.{is_running, is_clone}
use Rattle.vv_area.specs.Spelling.{container_spelling, kind_number, source_number, kind_spelling, reverted_spelling, pair_spelling, metadata_spelling, place_spelling, entry_spelling, entries_spelling, volume_spelling, as_endpoints, context_spelling, address_spelling, binding_spelling, job_spelling, state_number, task_spelling, clone_spelling, piece_spelling, copy_spelling, runs_spelling, area_spelling, is_pair_behind, are_pairs, is_container_behind, are_containers, is_volume_behind, are_volumes, is_context_behind, are_contexts, are_bindings, are_tasks, is_clone_row, is_clone_of, is_copy_of, are_runs, is_spellable}
use Rattle.vv_area.specs.Lengths.{offers_length, needs_length, metadata_length, entries_length, container_length, volume_length, context_length, binding_length, job_length, task_length, clone_length, copy_length, area_length, area_limit}
use Rattle.vv_flat.specs.Chunks.{shape_of_tables}
use Rattle.vv_flat.specs.Space.{entries as entries_in}
use Rattle.vv_flat.specs.Form.{is_formed}
use Rattle.vv_flat.specs.Rules.{meets_rules}
use Rattle.vv_flat.specs.Fields.{have_forms}
use Rattle.vv_flat.proofs.KeepRules.{rules_met}
use Rattle.vv_area.specs.Spelling.{are_entries}
use Rattle.vv_area.proofs.WellFormed.{LimitsKept, limits_kept, entries_of_shape, volumes_of_shape, pairs_of_shape, has_spelling}
use Rattle.vv_area.proofs.Each.{Each}

-- ---- lists

length-flat : {A : Type 0} (item : A → List ℕ) (size : A → ℕ) → ((x : A) → length (item x) ≡ size x) → (xs : List A) → length (flat_map item xs) ≡ sum_by size xs
length-flat item size each [] = refl
length-flat item size each (x ∷ xs) = omega (arith, length-append (item x) (flat_map item xs), each x, length-flat item size each xs, sum_by-cons size x xs)

pub length-counted : {A : Type 0} (n : ℕ) (item : A → List ℕ) (size : A → ℕ) → ((x : A) → length (item x) ≡ size x) → (xs : List A) → length (list_spelling n item xs) ≡ n + sum_by size xs
length-counted n item size each xs = omega (arith, length-list n item xs, length-flat item size each xs)

-- items of one length
pub sum-same : {A : Type 0} (w : ℕ) (size : A → ℕ) → ((x : A) → size x ≡ w) → (xs : List A) → sum_by size xs ≡ w * length xs
sum-same w size each [] = omega arith
sum-same w size each (x ∷ xs) =
    let k : w * suc (length xs) ≡ w + w * length xs = omega arith in
    omega (arith, each x, sum-same w size each xs, sum_by-cons size x xs, k)

sum-8 : (a b c d e f g h : List ℕ) → length (concat (a ∷ b ∷ c ∷ d ∷ e ∷ f ∷ g ∷ h ∷ [])) ≡ length a + length b + length c + length d + length e + length f + length g + length h
sum-8 a b c d e f g h = simp length-append (omega arith)

sum-3 : (a b c : List ℕ) → length (concat (a ∷ b ∷ c ∷ [])) ≡ length a + length b + length c
sum-3 a b c = simp length-append (omega arith)

sum-5 : (a b c d e : List ℕ) → length (concat (a ∷ b ∷ c ∷ d ∷ e ∷ [])) ≡ length a + length b + length c + length d + length e
sum-5 a b c d e = simp length-append (omega arith)

sum-6 : (a b c d e f : List ℕ) → length (concat (a ∷ b ∷ c ∷ d ∷ e ∷ f ∷ [])) ≡ length a + length b + length c + length d + length e + length f
sum-6 a b c d e f = simp length-append (omega arith)

sum-2 : (a b : List ℕ) → length (concat (a ∷ b ∷ [])) ≡ length a + length b
sum-2 a b = simp length-append (omega arith)

-- ---- the items

length-offer : (o : Offer) → length (offer_spelling o) ≡ 9 + length o.name
length-offer o = omega (arith, length-append (text_spelling o.name) (be_bytes 8 o.value), length-be_bytes 8 o.value, length-text o.name)

length-need : (n : Need) → length (need_spelling n) ≡ 9 + length n.name
length-need n = omega (arith, length-append (text_spelling n.name) (be_bytes 8 n.value), length-be_bytes 8 n.value, length-text n.name)

length-pair : (p : List ℕ × List ℕ) → length (pair_spelling p) ≡ 2 + length p.0 + length p.1
length-pair p = omega (arith, sum-2 (text_spelling p.0) (text_spelling p.1), length-text p.0, length-text p.1)

length-place : (place : Option ℕ) → length (place_spelling place) ≡ 4
length-place None = length-be_bytes 4 4294967295
length-place (Some p) = length-be_bytes 4 p

pub length-entry : (e : Entry) → length (entry_spelling e) ≡ 12
length-entry e = omega (arith, sum-2 (place_spelling e.place) (be_bytes 8 e.stamp), length-place e.place, length-be_bytes 8 e.stamp)

length-entries : (xs : List Entry) → length (entries_spelling xs) ≡ entries_length xs
length-entries xs = omega (arith, length-counted 4 entry_spelling (λ e. 12) length-entry xs, sum-same 12 (λ (e : Entry). 12) (λ e. refl) xs)

length-offered : (xs : List Offer) → length (offers_spelling xs) ≡ offers_length xs
length-offered xs = length-counted 1 offer_spelling (λ o. 9 + length o.name) length-offer xs

length-needed : (xs : List Need) → length (needs_spelling xs) ≡ needs_length xs
length-needed xs = length-counted 1 need_spelling (λ n. 9 + length n.name) length-need xs

length-metadata : (xs : List (List ℕ × List ℕ)) → length (metadata_spelling xs) ≡ metadata_length xs
length-metadata xs = length-counted 1 pair_spelling (λ p. 2 + length p.0 + length p.1) length-pair xs

pub length-container : (k : Container) → length (container_spelling k) ≡ container_length k
length-container k = omega (arith, sum-3 (be_bytes 8 k.number) (be_bytes 8 k.quota) (offers_spelling k.offers), length-be_bytes 8 k.number, length-be_bytes 8 k.quota, length-offered k.offers)

length-reverted : (b : Bool) (n : ℕ) → length (cond b [] (be_bytes 8 n)) ≡ cond b 0 8
length-reverted true n = refl
length-reverted false n = length-be_bytes 8 n

length-kind : (v : Volume Entry) → length (kind_spelling v.kind) ≡ 9
length-kind v = omega (arith, length-append (be_bytes 1 (kind_number v.kind)) (be_bytes 8 (source_number v.kind)), length-be_bytes 1 (kind_number v.kind), length-be_bytes 8 (source_number v.kind))

pub length-volume : (spelling : ℕ) (v : Volume Entry) → length (volume_spelling spelling v) ≡ volume_length spelling v
length-volume spelling v =
    let all = sum-8 (be_bytes 8 v.number) (be_bytes 8 v.container) (be_bytes 1 (type_number v.vtype)) (kind_spelling v.kind) (reverted_spelling spelling v.reverted) (needs_spelling v.needs) (metadata_spelling v.metadata) (entries_spelling v.chunks) in
    omega (arith, all, length-be_bytes 8 v.number, length-be_bytes 8 v.container, length-be_bytes 1 (type_number v.vtype), length-kind v, length-reverted (eqb spelling 1) v.reverted, length-needed v.needs, length-metadata v.metadata, length-entries v.chunks)

length-numbers : (ns : List ℕ) → length (as_endpoints ns) ≡ length ns
length-numbers [] = refl
length-numbers (n ∷ ns) = ap (λ k. suc k) (length-numbers ns)

pub length-context : (c : Context) → length (context_spelling c) ≡ context_length c
length-context c =
    let list = length-counted 1 endpoint_spelling (λ e. 2) (λ e. length-be_bytes 2 e.0) (as_endpoints c.endpoints) in
    let same = sum-same 2 (λ (e : EndpointId). 2) (λ e. refl) (as_endpoints c.endpoints) in
    omega (arith, sum-2 (be_bytes 4 c.host) (endpoints_spelling (as_endpoints c.endpoints)), length-be_bytes 4 c.host, list, same, length-numbers c.endpoints)

length-address : (a : Address) → length (address_spelling a) ≡ 8
length-address a = omega (arith, sum-3 (be_bytes 4 a.host) (be_bytes 2 a.endpoint) (be_bytes 2 a.secondary), length-be_bytes 4 a.host, length-be_bytes 2 a.endpoint, length-be_bytes 2 a.secondary)

pub length-binding : (b : Binding) → length (binding_spelling b) ≡ binding_length
length-binding b = omega (arith, sum-3 (address_spelling b.address) (be_bytes 8 b.volume) (be_bytes 2 b.count), length-address b.address, length-be_bytes 8 b.volume, length-be_bytes 2 b.count)

length-job : (job : Job) → length (job_spelling job) ≡ job_length job
length-job (Clone volume) = simp length-append (omega (arith, length-be_bytes 1 1, length-be_bytes 8 volume))
length-job (Copy source base target) = simp length-append (omega (arith, length-be_bytes 1 2, length-be_bytes 8 source, length-be_bytes 8 base, length-be_bytes 8 target))

pub length-task : (t : Task) → length (task_spelling t) ≡ task_length t
length-task t =
    let all = sum-5 (be_bytes 8 t.number) (job_spelling t.job) (be_bytes 1 (state_number t.state)) (be_bytes 4 t.done) (be_bytes 4 t.total) in
    omega (arith, all, length-be_bytes 8 t.number, length-job t.job, length-be_bytes 1 (state_number t.state), length-be_bytes 4 t.done, length-be_bytes 4 t.total)

pub length-clone : (c : RunningClone Entry) → length (clone_spelling c) ≡ clone_length c
length-clone c =
    let all = sum-6 (be_bytes 8 c.container) (be_bytes 1 (type_number c.vtype)) (needs_spelling c.needs) (metadata_spelling c.metadata) (entries_spelling c.image) (entries_spelling c.target) in
    omega (arith, all, length-be_bytes 8 c.container, length-be_bytes 1 (type_number c.vtype), length-needed c.needs, length-metadata c.metadata, length-entries c.image, length-entries c.target)

pub length-piece : (p : Piece Entry) → length (piece_spelling p) ≡ 16
length-piece p = omega (arith, sum-2 (be_bytes 4 p.index) (entry_spelling p.chunk), length-be_bytes 4 p.index, length-entry p.chunk)

pub length-copy : (c : RunningCopy Entry) → length (copy_spelling c) ≡ copy_length c
length-copy c = omega (arith, length-counted 4 piece_spelling (λ p. 16) length-piece c.pieces, sum-same 16 (λ (p : Piece Entry). 16) (λ p. refl) c.pieces)

-- ---- what running tasks hold

abbrev pub RunsLong : List Task → Type 0
RunsLong ts =
    (spelling : ℕ) (clones : List (RunningClone Entry)) (copies : List (RunningCopy Entry)) → are_runs spelling ts clones copies ≡ true
    → (length (runs_spelling ts clones copies) ≡ sum_by clone_length clones + sum_by copy_length copies) × (length clones + length copies ≤ length ts)

clone_long : (t : Task) (ts : List Task) → RunsLong ts → (spelling : ℕ) (clones : List (RunningClone Entry)) (copies : List (RunningCopy Entry))
    → (leb 1 (length clones) && list_all (is_clone_of spelling t.number) (take 1 clones) && are_runs spelling ts (drop 1 clones) copies) ≡ true
    → (length (flat_map clone_spelling (take 1 clones) ++ runs_spelling ts (drop 1 clones) copies) ≡ sum_by clone_length clones + sum_by copy_length copies) × (length clones + length copies ≤ length (t ∷ ts))
clone_long t ts more spelling [] copies h = absurd cc
clone_long t ts more spelling (c ∷ cs) copies h =
    let rest = more spelling cs copies (and_parts (leb 1 (length (c ∷ cs)) && list_all (is_clone_of spelling t.number) (c ∷ [])) (are_runs spelling ts cs copies) h).1 in
    let few : length cs + length copies ≤ length ts = rest.1 in
    (omega (arith, length-append (clone_spelling c ++ []) (runs_spelling ts cs copies), length-append (clone_spelling c) [], length-clone c, sum_by-cons clone_length c cs, rest.0), omega arith)

copy_long : (t : Task) (ts : List Task) → RunsLong ts → (spelling : ℕ) (clones : List (RunningClone Entry)) (copies : List (RunningCopy Entry))
    → (leb 1 (length copies) && list_all (is_copy_of t.number) (take 1 copies) && are_runs spelling ts clones (drop 1 copies)) ≡ true
    → (length (flat_map copy_spelling (take 1 copies) ++ runs_spelling ts clones (drop 1 copies)) ≡ sum_by clone_length clones + sum_by copy_length copies) × (length clones + length copies ≤ length (t ∷ ts))
copy_long t ts more spelling clones [] h = absurd cc
copy_long t ts more spelling clones (c ∷ cs) h =
    let rest = more spelling clones cs (and_parts (leb 1 (length (c ∷ cs)) && list_all (is_copy_of t.number) (c ∷ [])) (are_runs spelling ts clones cs) h).1 in
    let few : length clones + length cs ≤ length ts = rest.1 in
    (omega (arith, length-append (copy_spelling c ++ []) (runs_spelling ts clones cs), length-append (copy_spelling c) [], length-copy c, sum_by-cons copy_length c cs, rest.0), omega arith)

step_long : (t : Task) (ts : List Task) → RunsLong ts → (runs_on of_clone : Bool) (spelling : ℕ) (clones : List (RunningClone Entry)) (copies : List (RunningCopy Entry))
    → cond runs_on (cond of_clone (leb 1 (length clones) && list_all (is_clone_of spelling t.number) (take 1 clones) && are_runs spelling ts (drop 1 clones) copies)
    (leb 1 (length copies) && list_all (is_copy_of t.number) (take 1 copies) && are_runs spelling ts clones (drop 1 copies))) (are_runs spelling ts clones copies) ≡ true
    → (length (cond runs_on (cond of_clone (flat_map clone_spelling (take 1 clones) ++ runs_spelling ts (drop 1 clones) copies)
    (flat_map copy_spelling (take 1 copies) ++ runs_spelling ts clones (drop 1 copies))) (runs_spelling ts clones copies)) ≡ sum_by clone_length clones + sum_by copy_length copies) × (length clones + length copies ≤ length (t ∷ ts))
step_long t ts more true true spelling clones copies h = clone_long t ts more spelling clones copies h
step_long t ts more true false spelling clones copies h = copy_long t ts more spelling clones copies h
step_long t ts more false of_clone spelling clones copies h =
    let rest = more spelling clones copies h in
    let few : length clones + length copies ≤ length ts = rest.1 in
    (rest.0, omega arith)

no_items : {A : Type 0} (xs : List A) → eqb (length xs) 0 ≡ true → xs ≡ []
no_items [] h = refl
no_items (x ∷ xs) h = let e = eqb-true (length (x ∷ xs)) 0 h in absurd (omega arith)

pub runs_long : (ts : List Task) → RunsLong ts
unfolding are_runs runs_spelling
runs_long [] spelling clones copies h =
    let both = and_parts (eqb (length clones) 0) (eqb (length copies) 0) h in
    let a = no_items clones both.0 in
    let b = no_items copies both.1 in
    rw (a, b) (refl, omega arith)
runs_long (t ∷ ts) spelling clones copies h = step_long t ts (runs_long ts) (is_running t) (is_clone t.job) spelling clones copies h

-- ---- the whole

sum-7 : (a b c d e f g : List ℕ) → length (concat (a ∷ b ∷ c ∷ d ∷ e ∷ f ∷ g ∷ [])) ≡ length a + length b + length c + length d + length e + length f + length g
sum-7 a b c d e f g = simp length-append (omega arith)

pub length-area : (spelling : ℕ) (d : Durable Entry) → is_spellable spelling d ≡ true → length (area_spelling spelling d) ≡ area_length spelling d
unfolding area_spelling area_length is_spellable
length-area spelling d h =
    let runs = (runs_long d.tasks spelling d.clones d.copies (and_parts _ _ h).1).0 in
    let all = sum-7 (be_bytes 8 d.lsn) (list_spelling 1 container_spelling d.containers) (list_spelling 2 (volume_spelling spelling) d.volumes) (list_spelling 1 context_spelling d.contexts)
    (list_spelling 2 binding_spelling d.bindings) (list_spelling 2 task_spelling d.tasks) (runs_spelling d.tasks d.clones d.copies)
    in
    omega (
      arith,
      all,
      runs,
      length-be_bytes 8 d.lsn,
      length-counted 1 container_spelling container_length length-container d.containers,
      length-counted 2 (volume_spelling spelling) (volume_length spelling) (length-volume spelling) d.volumes,
      length-counted 1 context_spelling context_length length-context d.contexts,
      length-counted 2 binding_spelling (λ b. binding_length) length-binding d.bindings,
      sum-same binding_length (λ (b : Binding). binding_length) (λ b. refl) d.bindings,
      length-counted 2 task_spelling task_length length-task d.tasks,
    )

-- ---- the most bytes

pub each_in : {A : Type 0} (is_behind : List A → A → Bool) (P : A → Type 0) → ((before : List A) (x : A) → is_behind before x ≡ true → P x) → (before xs : List A) → each_behind is_behind before xs ≡ true → Each P xs
each_in is_behind P one before [] h = tt
each_in is_behind P one before (x ∷ xs) h =
    let both = and_parts (is_behind before x) (each_behind is_behind (before ++ x ∷ []) xs) h in
    (one before x both.0, each_in is_behind P one (before ++ x ∷ []) xs both.1)

sum_most : {A : Type 0} (w : ℕ) (size : A → ℕ) (xs : List A) → Each (λ x. size x ≤ w) xs → sum_by size xs ≤ w * length xs
sum_most w size [] h = omega arith
sum_most w size (x ∷ xs) h =
    let k : w * suc (length xs) ≡ w + w * length xs = omega arith in
    let le = h.0 in
    let rest = sum_most w size xs h.1 in
    omega (arith, sum_by-cons size x xs, k)

-- a part for each item, one for each pair and one for each entry
sum_parts : {A : Type 0} (w : ℕ) (size pairs entries : A → ℕ) (xs : List A) → Each (λ x. size x ≤ w + 130 * pairs x + 12 * entries x) xs → sum_by size xs ≤ w * length xs + 130 * sum_by pairs xs + 12 * sum_by entries xs
sum_parts w size pairs entries [] h = omega arith
sum_parts w size pairs entries (x ∷ xs) h =
    let k : w * suc (length xs) ≡ w + w * length xs = omega arith in
    let le = h.0 in
    let rest = sum_parts w size pairs entries xs h.1 in
    omega (arith, sum_by-cons size x xs, sum_by-cons pairs x xs, sum_by-cons entries x xs, k)

offers_most : (xs : List Offer) → are_offers xs ≡ true → offers_length xs ≤ 529
offers_most xs h = omega (arith, length-offers xs h, length-offered xs)

needs_most : (xs : List Need) → are_needs xs ≡ true → needs_length xs ≤ 265
needs_most xs h = omega (arith, length-needs xs h, length-needed xs)

pair_most : (before : List (List ℕ × List ℕ)) (p : List ℕ × List ℕ) → is_pair_behind before p ≡ true → 2 + length p.0 + length p.1 ≤ 130
pair_most before p h =
    let both = and_parts _ (is_note p.1) h in
    let key = length-key p.0 (and_parts (is_key p.0) _ both.0).0 in
    let text = length-note p.1 both.1 in
    omega arith

pairs_most : (spelling : ℕ) (ps : List (List ℕ × List ℕ)) → are_pairs spelling ps ≡ true → metadata_length ps ≤ 1 + 130 * length ps
pairs_most spelling ps h =
    let each = each_in is_pair_behind (λ p. 2 + length p.0 + length p.1 ≤ 130) pair_most [] ps (and_parts _ (each_behind is_pair_behind [] ps) h).1 in
    let sum = sum_most 130 (λ (p : List ℕ × List ℕ). 2 + length p.0 + length p.1) ps each in
    omega arith

container_most : (before : List Container) (k : Container) → is_container_behind before k ≡ true → container_length k ≤ 545
container_most before k h = let most = offers_most k.offers (and_parts _ (are_offers k.offers) h).1 in omega arith

volume_most : (before : List (Volume Entry)) (v : Volume Entry) → is_volume_behind 2 before v ≡ true → volume_length 2 v ≤ 304 + 130 * length v.metadata + 12 * length v.chunks
volume_most before v h =
    let front = and_parts _ (are_entries v.chunks) h in
    let pairs = and_parts _ (are_pairs 2 v.metadata) front.0 in
    let needs = and_parts _ (are_needs v.needs) pairs.0 in
    let a = needs_most v.needs needs.1 in
    let b = pairs_most 2 v.metadata pairs.1 in
    omega arith

context_most : (before : List Context) (c : Context) → is_context_behind before c ≡ true → context_length c ≤ 21
context_most before c h =
    let list = and_parts _ (are_endpoints (as_endpoints c.endpoints)) h in
    let most = length-endpoints (as_endpoints c.endpoints) list.1 in
    let same = length-counted 1 endpoint_spelling (λ e. 2) (λ e. length-be_bytes 2 e.0) (as_endpoints c.endpoints) in
    let sum = sum-same 2 (λ (e : EndpointId). 2) (λ e. refl) (as_endpoints c.endpoints) in
    omega (arith, length-numbers c.endpoints)

job_most : (job : Job) → job_length job ≤ 25
job_most (Clone volume) = omega arith
job_most (Copy source base target) = omega arith

tasks_most : (ts : List Task) → Each (λ t. task_length t ≤ 42) ts
tasks_most [] = tt
tasks_most (t ∷ ts) = (omega (arith, job_most t.job), tasks_most ts)

clone_most : (c : RunningClone Entry) → is_clone_row 2 c ≡ true → clone_length c ≤ 304 + 130 * length c.metadata + 12 * (length c.image + length c.target)
clone_most c h =
    let target = and_parts _ (are_entries c.target) h in
    let image = and_parts _ (are_entries c.image) target.0 in
    let pairs = and_parts (fits 8 c.container && are_needs c.needs) (are_pairs 2 c.metadata) image.0 in
    let needs = and_parts (fits 8 c.container) (are_needs c.needs) pairs.0 in
    let a = needs_most c.needs needs.1 in
    let b = pairs_most 2 c.metadata pairs.1 in
    omega arith

-- each clone that runs has its fields
abbrev CloneMost : RunningClone Entry → Type 0
CloneMost c = clone_length c ≤ 304 + 130 * length c.metadata + 12 * (length c.image + length c.target)

abbrev ClonesMost : List Task → Type 0
ClonesMost ts = (clones : List (RunningClone Entry)) (copies : List (RunningCopy Entry)) → are_runs 2 ts clones copies ≡ true → Each CloneMost clones

clone_step_most : (t : Task) (ts : List Task) → ClonesMost ts → (clones : List (RunningClone Entry)) (copies : List (RunningCopy Entry))
    → (leb 1 (length clones) && list_all (is_clone_of 2 t.number) (take 1 clones) && are_runs 2 ts (drop 1 clones) copies) ≡ true → Each CloneMost clones
clone_step_most t ts more [] copies h = tt
clone_step_most t ts more (c ∷ cs) copies h =
    let both = and_parts (leb 1 (length (c ∷ cs)) && list_all (is_clone_of 2 t.number) (c ∷ [])) (are_runs 2 ts cs copies) h in
    let one = (and_parts (leb 1 (length (c ∷ cs))) (list_all (is_clone_of 2 t.number) (c ∷ [])) both.0).1 in
    let row = and_parts (eqb c.number t.number) (is_clone_row 2 c) (and_parts (is_clone_of 2 t.number c) true one).0 in
    (clone_most c row.1, more cs copies both.1)

step_most : (t : Task) (ts : List Task) → ClonesMost ts → (runs_on of_clone : Bool) (clones : List (RunningClone Entry)) (copies : List (RunningCopy Entry))
    → cond runs_on (cond of_clone (leb 1 (length clones) && list_all (is_clone_of 2 t.number) (take 1 clones) && are_runs 2 ts (drop 1 clones) copies)
    (leb 1 (length copies) && list_all (is_copy_of t.number) (take 1 copies) && are_runs 2 ts clones (drop 1 copies))) (are_runs 2 ts clones copies) ≡ true → Each CloneMost clones
step_most t ts more true true clones copies h = clone_step_most t ts more clones copies h
step_most t ts more true false clones copies h = more clones (drop 1 copies) (and_parts (leb 1 (length copies) && list_all (is_copy_of t.number) (take 1 copies)) (are_runs 2 ts clones (drop 1 copies)) h).1
step_most t ts more false of_clone clones copies h = more clones copies h

clones_most : (ts : List Task) → ClonesMost ts
unfolding are_runs
clones_most [] clones copies h = let none = no_items clones (and_parts (eqb (length clones) 0) (eqb (length copies) 0) h).0 in rw none tt
clones_most (t ∷ ts) clones copies h = step_most t ts (clones_most ts) (is_running t) (is_clone t.job) clones copies h

copies_sum : (cs : List (RunningCopy Entry)) → sum_by copy_length cs ≡ 4 * length cs + 16 * sum_by (λ (c : RunningCopy Entry). length c.pieces) cs
copies_sum [] = omega arith
copies_sum (c ∷ cs) =
    let rest = copies_sum cs in
    omega (arith, sum_by-cons copy_length c cs, sum_by-cons (λ (c : RunningCopy Entry). length c.pieces) c cs)

-- the numbers of the limits, counted in the tables themselves
record Counts (d : Durable Entry) : Type 0 where
  containers : length d.containers ≤ 32
  volumes : length d.volumes + length d.clones ≤ 256
  bindings : length d.bindings ≤ 1024
  tasks : length d.tasks ≤ 256
  pairs : sum_by (λ (v : Volume Entry). length v.metadata) d.volumes + sum_by (λ (c : RunningClone Entry). length c.metadata) d.clones ≤ 4352
  entries : sum_by (λ (v : Volume Entry). length v.chunks) d.volumes + sum_by (λ (c : RunningClone Entry). length c.image + length c.target) d.clones + sum_by (λ (c : RunningCopy Entry). length c.pieces) d.copies ≤ d.geometry.map_chunks

counts : (d : Durable Entry) → LimitsKept (shape_of_tables d) → Counts d
unfolding entries_in
counts d limits =
    let volumes = volumes_of_shape d in
    let few = limits.volumes_few in
    let pairs = pairs_of_shape d in
    let few_pairs = limits.pairs_few in
    let entries = entries_of_shape d in
    let few_entries = limits.entries_few in
    record {
      containers = limits.containers_few;
      volumes = omega arith;
      bindings = limits.bindings_few;
      tasks = limits.tasks_few;
      pairs = omega arith;
      entries = omega arith;
    }

area_most : (d : Durable Entry) → is_spellable 2 d ≡ true → Counts d → area_length 2 d ≤ area_limit d.geometry.map_chunks
unfolding is_spellable area_length
area_most d h n =
    let to_runs = and_parts _ (are_runs 2 d.tasks d.clones d.copies) h in
    let to_tasks = and_parts _ (are_tasks d.tasks) to_runs.0 in
    let to_bindings = and_parts _ (are_bindings d.bindings) to_tasks.0 in
    let to_contexts = and_parts _ (are_contexts d.contexts) to_bindings.0 in
    let to_volumes = and_parts _ (are_volumes 2 d.volumes) to_contexts.0 in
    let containers = and_parts _ (are_containers d.containers) to_volumes.0 in
    let each_container = each_in is_container_behind (λ k. container_length k ≤ 545) container_most [] d.containers (and_parts _ (each_behind is_container_behind [] d.containers) containers.1).1 in
    let each_volume = each_in (is_volume_behind 2) (λ v. volume_length 2 v ≤ 304 + 130 * length v.metadata + 12 * length v.chunks) volume_most [] d.volumes (and_parts (fits 2 (length d.volumes)) (each_behind (is_volume_behind 2) [] d.volumes) to_volumes.1).1 in
    let contexts = and_parts (fits 1 (length d.contexts)) (each_behind is_context_behind [] d.contexts) to_contexts.1 in
    let each_context = each_in is_context_behind (λ c. context_length c ≤ 21) context_most [] d.contexts contexts.1 in
    let a = sum_most 545 container_length d.containers each_container in
    let b = sum_parts 304 (volume_length 2) (λ v. length v.metadata) (λ v. length v.chunks) d.volumes each_volume in
    let c = sum_most 21 context_length d.contexts each_context in
    let contexts_few = ltb-true (length d.contexts) (256 ^ 1) contexts.0 in
    let t = sum_most 42 task_length d.tasks (tasks_most d.tasks) in
    let k = sum_parts 304 clone_length (λ c. length c.metadata) (λ c. length c.image + length c.target) d.clones (clones_most d.tasks d.clones d.copies to_runs.1) in
    let p = copies_sum d.copies in
    let few = (runs_long d.tasks 2 d.clones d.copies to_runs.1).1 in
    let n1 = n.containers in
    let n2 = n.volumes in
    let n3 = n.bindings in
    let n4 = n.tasks in
    let n5 = n.pairs in
    let n6 = n.entries in
    omega arith

-- tables that are well formed have a spelling that fits
pub fits_area : (d : Durable Entry) → is_formed d ≡ true → meets_rules d ≡ true → have_forms d ≡ true → (is_spellable 2 d ≡ true) × (length (area_spelling 2 d) ≤ area_limit d.geometry.map_chunks)
fits_area d form rules forms =
    let spellable = has_spelling d form rules forms in
    let limits = limits_kept (shape_of_tables d) (rules_met d form rules).0.limits in
    let most = area_most d spellable (counts d limits) in
    (spellable, omega (arith, length-area 2 d spellable))
