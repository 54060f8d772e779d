-- Each form of the tables reads exactly what is spelled so.
use Rattle.std.proofs.Common.{◌≡◌, ℕ, zero, suc, ◌^◌, ◌<◌, ◌≤◌, ◌&&◌, Bool, true, false, cond, eqb, not, List, [], ◌∷◌, ◌++◌, length, Option, Some, None, refl, sym, ap, subst, ◌∙◌, arith}
use Rattle.std.proofs.lemmas.Bool.{and_parts, and_from, ltb-true, lt-ltb, eqb-true, eqb-false}
use Rattle.std.proofs.lemmas.List.{append-nil}
use Rattle.std.specs.List.{flat_map}
use Rattle.vv_fields.specs.Fields.{ReaderState, be_bytes}
use Rattle.vv_units.specs.Names.{is_key}
use Rattle.vv_units.specs.declared.numbers.EndpointId.{EndpointId}
use Rattle.vv_units.specs.declared.volume.VolumeKind.{VolumeKind}
use Rattle.vv_units.specs.declared.volume.VolumeKind.TheVariants.{Plain, SnapshotOf, FastCloneOf, FullCloneOf}
use Rattle.vv_units.specs.declared.volume.TaskState.{TaskState}
use Rattle.vv_units.specs.declared.volume.TaskState.TheVariants.{Running, Success, Cancelled, Interrupted}
use Rattle.vv_record.specs.Reading.{Form, Read, ◌>>=◌, done, number, bytes, allowed, number_within, is_within, items}
use Rattle.vv_record.specs.Spelling.{fits, text_spelling, list_spelling, each_behind}
use Rattle.vv_record.proofs.Passing.{each_behind-alone, between}
use Rattle.vv_record.proofs.Stands.{Stands, Stands-then, Stands-front, Stands-nothing, Stands-here, IsReader, moved, bytes_again, bytes_takes, allowed_is, allowed_again}
use Rattle.vv_record.proofs.Spells.{Spells, number_spells, number_within_spells, took, done_is, takes_1, again_1, takes_3, again_3, ReadsTexts, text_spells, list_spells, items_again, items_take}
use Rattle.vv_record.proofs.FormLaws.{quota_spells, vvol_type_spells, offers_spells, needs_spells, endpoints_spells, note_spells}
use Rattle.vv_flat.specs.State.{Container, Volume, Context, Binding, Job, Clone, Copy, Task}
use Rattle.vv_flat.specs.Chunks.{Entry}
use Rattle.vv_area.specs.Forms.{is_next_container, container_number, container, containers, kind_numbered, is_source, source_of, kind_field, reverted_field, most_pairs, pairs_have, key_bytes, other_key, pair, metadata, no_place, place_numbered, place_field, entry, entries, rises, number_of_volume, volume_number, volume, volumes, number_of_context, context_host, endpoint_numbers, context, contexts, is_next_host, is_next_endpoint, is_next_address, address_at, binding_host, binding_endpoint, binding_secondary, address, binding, bindings, clone_job, copy_job, job_numbered, job_field, state_numbered, state_field, number_of_task, task_number, task, tasks, running_clone, piece, pieces, running_copy}
use Rattle.vv_area.specs.Spelling.{container_spelling, kind_number, source_number, kind_spelling, reverted_spelling, pair_spelling, metadata_spelling, place_spelling, entry_spelling, entries_spelling, volume_spelling, as_endpoints, context_spelling, address_spelling, binding_spelling, job_spelling, state_number, task_spelling, clone_spelling, piece_spelling, copy_spelling, is_container_behind, are_containers, is_kind, is_reverted, is_pair_behind, are_pairs, is_place, is_entry, are_entries, is_volume_behind, are_volumes, is_context_behind, are_contexts, is_address_behind, is_binding_behind, are_bindings, is_job, is_task_behind, are_tasks, is_clone_row, is_piece, are_pieces}
use Rattle.vv_area.proofs.Rests.{SpellsRest, then_rest, done_rest, same_rest, whole_spells}

-- a number that is allowed besides
pub also_spells : {A : Type 0} (is_allowed : A → Bool) {form : Form A} {text : A → List ℕ} {is : A → Bool} → Spells form text is → Spells (allowed is_allowed form) text (λ x. is_allowed x && is x)
also_spells is_allowed {form = form} s = record {
  again = λ x reader behind h p.
      let both = and_parts _ _ h in
      allowed_again is_allowed form x reader behind both.0 (s.again x reader behind both.1 p);
  takes = λ x reader behind h e.
      let a = allowed_is is_allowed form x reader behind e in
      let t = s.takes x reader behind h a.0 in
      (t.0, and_from _ _ a.1 t.1);
}

-- ---- containers

container_number_spells : (before : List Container) → Spells (container_number before) (be_bytes 8) (λ n. is_next_container before n && fits 8 n)
unfolding container_number
container_number_spells before = also_spells (is_next_container before) (number_spells 8)

pub and_assoc : (a b c : Bool) → ((a && b) && c) ≡ (a && (b && c))
and_assoc true b c = refl
and_assoc false b c = refl

pub and_true : (b : Bool) → (b && true) ≡ b
and_true true = refl
and_true false = refl

container_spells : (before : List Container) → Spells (container before) container_spelling (is_container_behind before)
unfolding container
container_spells before =
    whole_spells (λ k. simp (and_assoc, and_true))
    (then_rest (container_number_spells before) (λ k. k.number) _ _ _ _ (λ own.
    then_rest quota_spells (λ k. k.quota) _ _ _ _ (λ most.
    then_rest offers_spells (λ k. k.offers) _ _ _ _ (λ offered.
    done_rest (record { number = own; quota = most; offers = offered }) _ (λ v f. rw (← f.1, ← f.0.1, ← f.0.0.1) refl) (((tt, refl), refl), refl)))))

pub containers_spells : Spells containers (list_spelling 1 container_spelling) are_containers
unfolding containers
containers_spells = list_spells 1 1 255 container container_spelling is_container_behind are_containers (omega arith) (λ xs. refl) container_spells

-- ---- lists behind a count of any size

counted_spells : {A : Type 0} (n : ℕ) (item : List A → Form A) (text : A → List ℕ) (is : List A → A → Bool) (are : List A → Bool)
    → ((xs : List A) → are xs ≡ (fits n (length xs) && each_behind is [] xs)) → ((before : List A) → Spells (item before) text (is before))
    → Spells (number n >>= λ count. items item count []) (list_spelling n text) are
counted_spells n item text is are same s = record {
  again = λ xs reader behind h p.
      let both = and_parts _ _ (sym (same xs) ∙ h) in
      let q = Stands-front reader (be_bytes n (length xs)) (flat_map text xs) behind p in
      let middle = moved (length (be_bytes n (length xs))) reader in
      rw ((number_spells n).again (length xs) reader middle both.0 q.0) (items_again item text is s xs [] middle behind both.1 q.1);
  takes = λ ys reader behind h e.
      let t = took (number_spells n) (λ count. items item count []) ys reader behind h e in
      let u = items_take item text is s t.first [] ys t.middle behind t.is_reader t.rest in
      let all : u.0 ≡ ys = u.1 in
      let count : t.first ≡ length u.0 = sym u.2 in
      let front : Stands reader (be_bytes n (length u.0)) t.middle = subst (λ k. Stands reader (be_bytes n k) t.middle) count t.stands in
      let whole = Stands-then front u.3 in
      let passes : are u.0 ≡ true = same u.0 ∙ and_from _ _ (subst (λ k. fits n k ≡ true) count t.passes) u.4 in
      (subst (λ xs. Stands reader (list_spelling n text xs) behind) all whole, subst (λ xs. are xs ≡ true) all passes);
}

-- ---- kinds

kind_is : (kind source : ℕ) → kind ≤ 3 → is_source kind source ≡ true → (kind_number (kind_numbered kind source) ≡ kind) × (source_number (kind_numbered kind source) ≡ source)
kind_is zero source h k = (refl, sym (eqb-true source 0 k))
kind_is (suc zero) source h k = (refl, refl)
kind_is (suc (suc zero)) source h k = (refl, refl)
kind_is (suc (suc (suc zero))) source h k = (refl, refl)
kind_is (suc (suc (suc (suc kind)))) source h k = absurd (omega arith)

kind_within : (kind : VolumeKind) → is_within 0 3 (kind_number kind) ≡ true
kind_within Plain = refl
kind_within (SnapshotOf v) = refl
kind_within (FastCloneOf v) = refl
kind_within (FullCloneOf v) = refl

kind_source : (kind : VolumeKind) → is_source (kind_number kind) (source_number kind) ≡ true
kind_source Plain = refl
kind_source (SnapshotOf v) = refl
kind_source (FastCloneOf v) = refl
kind_source (FullCloneOf v) = refl

kind_again : (kind : VolumeKind) → kind_numbered (kind_number kind) (source_number kind) ≡ kind
kind_again Plain = refl
kind_again (SnapshotOf v) = refl
kind_again (FastCloneOf v) = refl
kind_again (FullCloneOf v) = refl

source_spells : (kind : ℕ) → Spells (source_of kind) (be_bytes 8) (λ n. is_source kind n && fits 8 n)
unfolding source_of
source_spells kind = also_spells (is_source kind) (number_spells 8)

kind_spells : Spells kind_field kind_spelling is_kind
unfolding kind_field
kind_spells = record {
  again = λ v reader behind h p.
      let q = Stands-front reader (be_bytes 1 (kind_number v)) (be_bytes 8 (source_number v)) behind p in
      let middle = moved (length (be_bytes 1 (kind_number v))) reader in
      rw ((number_within_spells 1 0 3 (omega arith)).again (kind_number v) reader middle (kind_within v) q.0, (source_spells (kind_number v)).again (source_number v) middle behind (and_from _ _ (kind_source v) h) q.1, kind_again v) refl;
  takes = λ v reader behind h e.
      let t = took (number_within_spells 1 0 3 (omega arith)) (λ kind. source_of kind >>= λ source. done (kind_numbered kind source)) v reader behind h e in
      let u = takes_1 (source_spells t.first) (kind_numbered t.first) v t.middle behind t.is_reader t.rest in
      let both = and_parts _ _ u.3 in
      let k = kind_is t.first u.0 (between 0 3 t.first t.passes).to both.0 in
      let kind : t.first ≡ kind_number v = sym k.0 ∙ ap kind_number u.1 in
      let source : u.0 ≡ source_number v = sym k.1 ∙ ap source_number u.1 in
      let front : Stands reader (be_bytes 1 (kind_number v)) t.middle = subst (λ n. Stands reader (be_bytes 1 n) t.middle) kind t.stands in
      let back : Stands t.middle (be_bytes 8 (source_number v)) behind = subst (λ n. Stands t.middle (be_bytes 8 n) behind) source u.2 in
      (Stands-then front back, subst (λ n. fits 8 n ≡ true) source both.1);
}

-- ---- the log number of the last revert

reverted_by : (b : Bool) → Spells (cond b (done 0) (number 8)) (λ n. cond b [] (be_bytes 8 n)) (λ n. cond b (eqb n 0) (fits 8 n))
reverted_by true = record {
  again = λ n reader behind h p. let z = eqb-true n 0 h in let r = Stands-nothing reader behind p in rw (z, r) refl;
  takes = λ n reader behind h e.
      let d = done_is 0 n reader behind e in
      (subst (λ r. Stands reader [] r) d.1 (Stands-here reader h), subst (λ k. eqb k 0 ≡ true) d.0 refl);
}
reverted_by false = number_spells 8

reverted_spells : (spelling : ℕ) → Spells (reverted_field spelling) (reverted_spelling spelling) (is_reverted spelling)
reverted_spells spelling = reverted_by (eqb spelling 1)

-- ---- metadata

key_texts : (before : List (List ℕ × List ℕ)) → ReadsTexts (λ n. allowed (λ key. not (pairs_have before key)) (key_bytes n)) (λ key. is_key key && not (pairs_have before key))
unfolding key_bytes
key_texts before = record {
  again = λ text reader behind h p.
      let both = and_parts _ _ h in
      let inner = allowed_again is_key (bytes (length text)) text reader behind both.0 (bytes_again (length text) text reader behind refl p) in
      allowed_again (λ key. not (pairs_have before key)) (allowed is_key (bytes (length text))) text reader behind both.1 inner;
  takes = λ n text reader behind e.
      let a = allowed_is (λ key. not (pairs_have before key)) (allowed is_key (bytes n)) text reader behind e in
      let b = allowed_is is_key (bytes n) text reader behind a.0 in
      let t = bytes_takes n text reader behind b.0 in
      (t.0, t.1, and_from _ _ b.1 a.1);
}

other_key_spells : (before : List (List ℕ × List ℕ)) → Spells (other_key before) text_spelling (λ key. is_key key && not (pairs_have before key))
unfolding other_key
other_key_spells before =
    text_spells 1 32 (λ n. allowed (λ key. not (pairs_have before key)) (key_bytes n)) (λ key. is_key key && not (pairs_have before key)) (omega arith) (λ text h. (and_parts _ _ (and_parts _ _ h).0).0) (key_texts before)

pair_spells : (before : List (List ℕ × List ℕ)) → Spells (pair before) pair_spelling (is_pair_behind before)
unfolding pair
pair_spells before =
    whole_spells (λ p. simp (and_assoc, and_true))
    (then_rest (other_key_spells before) (λ p. p.0) _ _ _ _ (λ key.
    then_rest note_spells (λ p. p.1) _ _ _ _ (λ text.
    done_rest (key, text) _ (λ v f. rw (← f.1, ← f.0.1) refl) ((tt, refl), refl))))

most_pairs-fit : (b : Bool) → cond b 16 64 < 256 ^ 1
most_pairs-fit true = omega arith
most_pairs-fit false = omega arith

metadata_spells : (spelling : ℕ) → Spells (metadata spelling) metadata_spelling (are_pairs spelling)
unfolding metadata
metadata_spells spelling = list_spells 1 0 (most_pairs spelling) pair pair_spelling is_pair_behind (are_pairs spelling) (most_pairs-fit (eqb spelling 1)) (λ xs. refl) pair_spells

-- ---- entries

not_from : (b : Bool) (m n : ℕ) → eqb m n ≡ b → m < n → b ≡ false
not_from true m n e h = let same = eqb-true m n e in absurd (omega arith)
not_from false m n e h = refl

lt-not_eqb : (m n : ℕ) → m < n → eqb m n ≡ false
lt-not_eqb m n h = not_from (eqb m n) m n refl h

place_by : (n : ℕ) (b : Bool) → eqb n no_place ≡ b → fits 4 n ≡ true → (place_spelling (cond b None (Some n)) ≡ be_bytes 4 n) × (is_place (cond b None (Some n)) ≡ true)
place_by n true e h = (ap (be_bytes 4) (sym (eqb-true n no_place e)), refl)
place_by n false e h =
    let lt = ltb-true n (256 ^ 4) h in
    let other = eqb-false n no_place e in
    (refl, lt-ltb n no_place (omega arith))

place_again : (place : Option ℕ) (reader behind : ReaderState) → is_place place ≡ true → Stands reader (place_spelling place) behind → place_field reader ≡ Read place behind
unfolding place_field
place_again None reader behind h p = again_1 (number_spells 4) place_numbered no_place reader behind refl p
place_again (Some n) reader behind h p =
    let lt = ltb-true n no_place h in
    let other : eqb n no_place ≡ false = lt-not_eqb n no_place lt in
    again_1 (number_spells 4) place_numbered n reader behind (lt-ltb n (256 ^ 4) (omega arith)) p ∙ ap (λ b. Read (cond b None (Some n)) behind) other

place_spells : Spells place_field place_spelling is_place
unfolding place_field
place_spells = record {
  again = place_again;
  takes = λ v reader behind h e.
      let t = takes_1 (number_spells 4) place_numbered v reader behind h e in
      let k = place_by t.0 (eqb t.0 no_place) refl t.3 in
      let same : place_spelling v ≡ be_bytes 4 t.0 = ap place_spelling (sym t.1) ∙ k.0 in
      (subst (λ x. Stands reader x behind) (sym same) t.2, ap is_place (sym t.1) ∙ k.1);
}

entry_spells : Spells entry entry_spelling is_entry
unfolding entry
entry_spells =
    whole_spells (λ e. simp (and_assoc, and_true))
    (then_rest place_spells (λ e. e.place) _ _ _ _ (λ place.
    then_rest (number_spells 8) (λ e. e.stamp) _ _ _ _ (λ stamp.
    done_rest (record { place = place; stamp = stamp }) _ (λ v f. rw (← f.1, ← f.0.1) refl) ((tt, refl), refl))))

entries_spells : Spells entries entries_spelling are_entries
unfolding entries
entries_spells = counted_spells 4 (λ before. entry) entry_spelling (λ before. is_entry) are_entries (λ xs. ap (λ rest. fits 4 (length xs) && rest) (sym (each_behind-alone is_entry [] xs))) (λ before. entry_spells)

-- ---- volumes

volume_number_spells : (before : List (Volume Entry)) → Spells (volume_number before) (be_bytes 8) (λ n. rises number_of_volume before n && fits 8 n)
unfolding volume_number
volume_number_spells before = also_spells (rises number_of_volume before) (number_spells 8)

volume_spells : (spelling : ℕ) (before : List (Volume Entry)) → Spells (volume spelling before) (volume_spelling spelling) (is_volume_behind spelling before)
unfolding volume
volume_spells spelling before =
    whole_spells (λ v. simp (and_assoc, and_true))
    (then_rest (volume_number_spells before) (λ v. v.number) _ _ _ _ (λ own.
    then_rest (number_spells 8) (λ v. v.container) _ _ _ _ (λ container.
    then_rest vvol_type_spells (λ v. v.vtype) _ _ _ _ (λ vtype.
    then_rest kind_spells (λ v. v.kind) _ _ _ _ (λ kind.
    then_rest (reverted_spells spelling) (λ v. v.reverted) _ _ _ _ (λ reverted.
    then_rest needs_spells (λ v. v.needs) _ _ _ _ (λ asked.
    then_rest (metadata_spells spelling) (λ v. v.metadata) _ _ _ _ (λ pairs.
    then_rest entries_spells (λ v. v.chunks) _ _ _ _ (λ chunks.
    done_rest (record { number = own; container = container; vtype = vtype; kind = kind; reverted = reverted; needs = asked; metadata = pairs; chunks = chunks }) _
    (λ v f. rw (← f.1, ← f.0.1, ← f.0.0.1, ← f.0.0.0.1, ← f.0.0.0.0.1, ← f.0.0.0.0.0.1, ← f.0.0.0.0.0.0.1, ← f.0.0.0.0.0.0.0.1) refl)
    ((((((((tt, refl), refl), refl), refl), refl), refl), refl), refl))))))))))

pub volumes_spells : (spelling : ℕ) → Spells (volumes spelling) (list_spelling 2 (volume_spelling spelling)) (are_volumes spelling)
unfolding volumes
volumes_spells spelling = counted_spells 2 (volume spelling) (volume_spelling spelling) (is_volume_behind spelling) (are_volumes spelling) (λ xs. refl) (volume_spells spelling)

-- ---- contexts

host_spells : Spells (number_within 4 1 64) (be_bytes 4) (is_within 1 64)
host_spells = number_within_spells 4 1 64 (omega arith)

context_host_spells : (before : List Context) → Spells (context_host before) (be_bytes 4) (λ n. rises number_of_context before n && is_within 1 64 n)
unfolding context_host
context_host_spells before = also_spells (rises number_of_context before) host_spells

numbers_again : (numbers : List ℕ) → endpoint_numbers (as_endpoints numbers) ≡ numbers
numbers_again [] = refl
numbers_again (n ∷ ns) = ap (λ rest. n ∷ rest) (numbers_again ns)

endpoints_again : (list : List EndpointId) → as_endpoints (endpoint_numbers list) ≡ list
endpoints_again [] = refl
endpoints_again (e ∷ es) = ap (λ rest. e ∷ rest) (endpoints_again es)

same_context : (host : ℕ) (list : List EndpointId) (v : Context) → v.host ≡ host → as_endpoints v.endpoints ≡ list → record { host = host; endpoints = endpoint_numbers list } ≡ v
same_context host list v h e =
    let numbers : endpoint_numbers list ≡ v.endpoints = ap endpoint_numbers (sym e) ∙ numbers_again v.endpoints in
    rw (← h, numbers) refl

context_spells : (before : List Context) → Spells (context before) context_spelling (is_context_behind before)
unfolding context
context_spells before =
    whole_spells (λ c. simp (and_assoc, and_true))
    (then_rest (context_host_spells before) (λ c. c.host) _ _ _ _ (λ host.
    then_rest endpoints_spells (λ c. as_endpoints c.endpoints) _ _ _ _ (λ list.
    done_rest (record { host = host; endpoints = endpoint_numbers list }) _ (λ v f. same_context host list v f.0.1 f.1) ((tt, refl), endpoints_again list))))

pub contexts_spells : Spells contexts (list_spelling 1 context_spelling) are_contexts
unfolding contexts
contexts_spells = counted_spells 1 context context_spelling is_context_behind are_contexts (λ xs. refl) context_spells

-- ---- bindings

binding_host_spells : (before : List Binding) → Spells (binding_host before) (be_bytes 4) (λ n. is_next_host before n && is_within 1 64 n)
unfolding binding_host
binding_host_spells before = also_spells (is_next_host before) host_spells

binding_endpoint_spells : (before : List Binding) (host : ℕ) → Spells (binding_endpoint before host) (be_bytes 2) (λ n. is_next_endpoint before host n && fits 2 n)
unfolding binding_endpoint
binding_endpoint_spells before host = also_spells (is_next_endpoint before host) (number_spells 2)

binding_secondary_spells : (before : List Binding) (host endpoint : ℕ) → Spells (binding_secondary before host endpoint) (be_bytes 2) (λ n. is_next_address before (address_at host endpoint n) && fits 2 n)
unfolding binding_secondary
binding_secondary_spells before host endpoint = also_spells (λ n. is_next_address before (address_at host endpoint n)) (number_spells 2)

address_spells : (before : List Binding) → Spells (address before) address_spelling (is_address_behind before)
unfolding address
address_spells before =
    whole_spells (λ a. simp (and_assoc, and_true))
    (then_rest (binding_host_spells before) (λ a. a.host) _ _ (λ a. (is_next_endpoint before a.host a.endpoint && fits 2 a.endpoint) && ((is_next_address before a && fits 2 a.secondary) && true)) _ (λ host.
    same_rest (λ a f. refl) (λ a f. ap (λ h. (is_next_endpoint before h a.endpoint && fits 2 a.endpoint) && ((is_next_address before a && fits 2 a.secondary) && true)) (sym f.1))
    (then_rest (binding_endpoint_spells before host) (λ a. a.endpoint) _ _ (λ a. (is_next_address before a && fits 2 a.secondary) && true) _ (λ endpoint.
    same_rest (λ a f. refl) (λ a f. rw (← f.1, ← f.0.1) refl)
    (then_rest (binding_secondary_spells before host endpoint) (λ a. a.secondary) _ _ _ _ (λ secondary.
    done_rest (address_at host endpoint secondary) _ (λ v f. rw (← f.1, ← f.0.1, ← f.0.0.1) refl) (((tt, refl), refl), refl)))))))

binding_spells : (before : List Binding) → Spells (binding before) binding_spelling (is_binding_behind before)
unfolding binding
binding_spells before =
    whole_spells (λ b. simp (and_assoc, and_true))
    (then_rest (address_spells before) (λ b. b.address) _ _ _ _ (λ bound_at.
    then_rest (number_spells 8) (λ b. b.volume) _ _ _ _ (λ volume.
    then_rest (number_spells 2) (λ b. b.count) _ _ _ _ (λ count.
    done_rest (record { address = bound_at; volume = volume; count = count }) _ (λ v f. rw (← f.1, ← f.0.1, ← f.0.0.1) refl) (((tt, refl), refl), refl)))))

pub bindings_spells : Spells bindings (list_spelling 2 binding_spelling) are_bindings
unfolding bindings
bindings_spells = counted_spells 2 binding binding_spelling is_binding_behind are_bindings (λ xs. refl) binding_spells

-- ---- tasks

job_take : (kind : ℕ) (b : Bool) (job : Job) (reader middle behind : ReaderState) → eqb kind 1 ≡ b → is_within 1 2 kind ≡ true → Stands reader (be_bytes 1 kind) middle → IsReader middle
    → (cond b clone_job copy_job) middle ≡ Read job behind → Stands reader (job_spelling job) behind × (is_job job ≡ true)
unfolding clone_job copy_job
job_take kind true job reader middle behind e within p h read =
    let t = takes_1 (number_spells 8) (λ volume. Clone volume) job middle behind h read in
    let front : Stands reader (be_bytes 1 1) middle = subst (λ n. Stands reader (be_bytes 1 n) middle) (eqb-true kind 1 e) p in
    subst (λ j. Stands reader (job_spelling j) behind × (is_job j ≡ true)) t.1 (Stands-then front t.2, t.3)
job_take kind false job reader middle behind e within p h read =
    let t = takes_3 (number_spells 8) (number_spells 8) (number_spells 8) Copy job middle behind h read in
    let other = eqb-false kind 1 e in
    let two : kind ≡ 2 = omega (arith, (between 1 2 kind within).from, (between 1 2 kind within).to) in
    let front : Stands reader (be_bytes 1 2) middle = subst (λ n. Stands reader (be_bytes 1 n) middle) two p in
    subst (λ j. Stands reader (job_spelling j) behind × (is_job j ≡ true)) t.3 (Stands-then front t.4, and_from _ _ (and_from _ _ t.5 t.6) t.7)

job_again : (job : Job) (reader behind : ReaderState) → is_job job ≡ true → Stands reader (job_spelling job) behind → job_field reader ≡ Read job behind
unfolding job_field clone_job copy_job
job_again (Clone volume) reader behind h p =
    let q = Stands-front reader (be_bytes 1 1) (be_bytes 8 volume) behind p in
    let middle = moved (length (be_bytes 1 1)) reader in
    rw ((number_within_spells 1 1 2 (omega arith)).again 1 reader middle refl q.0) (again_1 (number_spells 8) (λ volume. Clone volume) volume middle behind h q.1)
job_again (Copy source base target) reader behind h p =
    let q = Stands-front reader (be_bytes 1 2) (be_bytes 8 source ++ be_bytes 8 base ++ be_bytes 8 target) behind p in
    let middle = moved (length (be_bytes 1 2)) reader in
    let both = and_parts (fits 8 source && fits 8 base) (fits 8 target) h in
    let first = and_parts (fits 8 source) (fits 8 base) both.0 in
    rw ((number_within_spells 1 1 2 (omega arith)).again 2 reader middle refl q.0) (again_3 (number_spells 8) (number_spells 8) (number_spells 8) Copy source base target middle behind first.0 first.1 both.1 q.1)

job_spells : Spells job_field job_spelling is_job
unfolding job_field
job_spells = record {
  again = job_again;
  takes = λ job reader behind h e.
      let t = took (number_within_spells 1 1 2 (omega arith)) job_numbered job reader behind h e in
      job_take t.first (eqb t.first 1) job reader t.middle behind refl t.passes t.stands t.is_reader t.rest;
}

state_within : (state : TaskState) → is_within 0 3 (state_number state) ≡ true
state_within Running = refl
state_within Success = refl
state_within Cancelled = refl
state_within Interrupted = refl

state_again : (state : TaskState) → state_numbered (state_number state) ≡ state
state_again Running = refl
state_again Success = refl
state_again Cancelled = refl
state_again Interrupted = refl

state_is : (n : ℕ) → n ≤ 3 → state_number (state_numbered n) ≡ n
state_is zero h = refl
state_is (suc zero) h = refl
state_is (suc (suc zero)) h = refl
state_is (suc (suc (suc zero))) h = refl
state_is (suc (suc (suc (suc n)))) h = absurd (omega arith)

state_spells : Spells state_field (λ state. be_bytes 1 (state_number state)) (λ state. true)
unfolding state_field
state_spells =
    let numbers = number_within_spells 1 0 3 (omega arith) in
    record {
      again = λ state reader behind h p. again_1 numbers state_numbered (state_number state) reader behind (state_within state) p ∙ ap (λ x. Read x behind) (state_again state);
      takes = λ state reader behind h e.
          let k = takes_1 numbers state_numbered state reader behind h e in
          let same : k.0 ≡ state_number state = sym (state_is k.0 (between 0 3 k.0 k.3).to) ∙ ap state_number k.1 in
          (subst (λ n. Stands reader (be_bytes 1 n) behind) same k.2, refl);
    }

task_number_spells : (before : List Task) → Spells (task_number before) (be_bytes 8) (λ n. rises number_of_task before n && fits 8 n)
unfolding task_number
task_number_spells before = also_spells (rises number_of_task before) (number_spells 8)

task_spells : (before : List Task) → Spells (task before) task_spelling (is_task_behind before)
unfolding task
task_spells before =
    whole_spells (λ t. simp (and_assoc, and_true))
    (then_rest (task_number_spells before) (λ t. t.number) _ _ _ _ (λ own.
    then_rest job_spells (λ t. t.job) _ _ _ _ (λ job.
    then_rest state_spells (λ t. t.state) _ _ _ _ (λ state.
    then_rest (number_spells 4) (λ t. t.done) _ _ _ _ (λ so_far.
    then_rest (number_spells 4) (λ t. t.total) _ _ _ _ (λ total.
    done_rest (record { number = own; job = job; state = state; done = so_far; total = total }) _
    (λ v f. rw (← f.1, ← f.0.1, ← f.0.0.1, ← f.0.0.0.1, ← f.0.0.0.0.1) refl) (((((tt, refl), refl), refl), refl), refl)))))))

pub tasks_spells : Spells tasks (list_spelling 2 task_spelling) are_tasks
unfolding tasks
tasks_spells = counted_spells 2 task task_spelling is_task_behind are_tasks (λ xs. refl) task_spells

-- ---- what running tasks hold

pub clone_rest : (spelling own : ℕ) → SpellsRest (running_clone spelling own) clone_spelling (is_clone_row spelling) (λ c. c.number ≡ own)
unfolding running_clone
clone_rest spelling own =
    same_rest (λ c f. refl) (λ c f. simp (and_assoc, and_true))
    (then_rest (number_spells 8) (λ c. c.container) _ _ _ _ (λ container.
    then_rest vvol_type_spells (λ c. c.vtype) _ _ _ _ (λ vtype.
    then_rest needs_spells (λ c. c.needs) _ _ _ _ (λ asked.
    then_rest (metadata_spells spelling) (λ c. c.metadata) _ _ _ _ (λ pairs.
    then_rest entries_spells (λ c. c.image) _ _ _ _ (λ image.
    then_rest entries_spells (λ c. c.target) _ _ _ _ (λ target.
    done_rest (record { number = own; container = container; vtype = vtype; needs = asked; metadata = pairs; image = image; target = target }) _
    (λ v f. rw (← f.1, ← f.0.1, ← f.0.0.1, ← f.0.0.0.1, ← f.0.0.0.0.1, ← f.0.0.0.0.0.1, ← f.0.0.0.0.0.0) refl)
    ((((((refl, refl), refl), refl), refl), refl), refl))))))))

piece_spells : Spells piece piece_spelling is_piece
unfolding piece
piece_spells =
    whole_spells (λ p. simp (and_assoc, and_true))
    (then_rest (number_spells 4) (λ p. p.index) _ _ _ _ (λ index.
    then_rest entry_spells (λ p. p.chunk) _ _ _ _ (λ chunk.
    done_rest (record { index = index; chunk = chunk }) _ (λ v f. rw (← f.1, ← f.0.1) refl) ((tt, refl), refl))))

pieces_spells : Spells pieces (list_spelling 4 piece_spelling) are_pieces
unfolding pieces
pieces_spells = counted_spells 4 (λ before. piece) piece_spelling (λ before. is_piece) are_pieces (λ xs. ap (λ rest. fits 4 (length xs) && rest) (sym (each_behind-alone is_piece [] xs))) (λ before. piece_spells)

pub copy_rest : (own : ℕ) → SpellsRest (running_copy own) copy_spelling (λ c. are_pieces c.pieces) (λ c. c.number ≡ own)
unfolding running_copy
copy_rest own =
    same_rest (λ c f. append-nil (copy_spelling c)) (λ c f. and_true (are_pieces c.pieces))
    (then_rest pieces_spells (λ c. c.pieces) _ _ _ _ (λ list.
    done_rest (record { number = own; pieces = list }) _ (λ v f. rw (← f.1, ← f.0) refl) (refl, refl)))
