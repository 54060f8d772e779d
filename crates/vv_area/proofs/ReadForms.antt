-- Tables that have a spelling have their form, and so have their fields.
use Rattle.std.proofs.Common.{◌≡◌, ℕ, ◌≤◌, ◌&&◌, ◌||◌, Bool, true, false, cond, eqb, leb, ltb, not, List, [], ◌∷◌, ◌++◌, map, length, take, drop, refl, sym, ap, ◌∙◌, arith}
use Rattle.std.specs.Prelude.{filter}
use Rattle.std.specs.List.{list_all, list_any}
use Rattle.std.specs.Str.{bytes_eq}
use Rattle.std.proofs.lemmas.Bool.{and_parts, and_from, or_parts, or_from, not-true, not_from_false, eqb-true, eqb-false, ne_eqb, le-leb}
use Rattle.vv_units.specs.Names.{is_name, is_key, is_note}
use Rattle.vv_units.specs.declared.volume.Offer.{Offer}
use Rattle.vv_units.specs.declared.volume.Need.{Need}
use Rattle.vv_units.specs.declared.numbers.EndpointId.{EndpointId}
use Rattle.vv_record.specs.Reading.{is_within}
use Rattle.vv_record.specs.Forms.{is_quota, same_text}
use Rattle.vv_record.specs.Spelling.{each_behind, fits, are_offers, are_needs, are_endpoints, is_offer_behind, is_need_behind, is_endpoint_behind}
use Rattle.vv_flat.specs.Lists.{if_found, all_above, all_rising, all_different}
use Rattle.vv_flat.specs.State.{Container, Volume, Context, Binding, Job, Clone, Copy, Task, RunningClone, RunningCopy, Durable}
use Rattle.vv_flat.specs.Chunks.{Entry}
use Rattle.vv_flat.specs.Space.{is_running, is_clone}
use Rattle.vv_flat.specs.Bindings.{is_below}
use Rattle.vv_flat.specs.Form.{is_formed, all_below, bindings_rise, begins_with_zero, running_clones, running_copies}
use Rattle.vv_flat.specs.Fields.{is_number, have_forms, texts_differ, is_job as job_has_form, are_offers as offers_have_forms, are_needs as needs_have_forms, are_pairs as pairs_have_forms, are_endpoints as endpoints_have_forms}
use Rattle.vv_area.specs.Forms.{rises, is_next_container, is_next_host, is_next_endpoint, is_next_address, pairs_have, number_of_volume, number_of_context, number_of_task}
use Rattle.vv_area.specs.Spelling.{as_endpoints, is_container_behind, are_containers, is_pair_behind, are_pairs, are_entries, is_volume_behind, are_volumes, is_context_behind, are_contexts, is_address_behind, is_binding_behind, are_bindings, is_job, is_task_behind, are_tasks, is_clone_row, is_clone_of, are_pieces, is_copy_of, are_runs, is_spellable}
use Rattle.vv_area.proofs.Each.{Each, all_from, last_is, Differ}
use Rattle.vv_area.proofs.AreaLengths.{each_in}

-- ---- lists that rise

above_from : {A : Type 0} (key : A → ℕ) (is_behind : List A → A → Bool) → ((before : List A) (x : A) → is_behind before x ≡ true → rises key before (key x) ≡ true)
    → (before : List A) (x : A) (ys : List A) → each_behind is_behind (before ++ x ∷ []) ys ≡ true → all_above (key x) (map key ys) ≡ true
above_from key is_behind one before x [] h = refl
above_from key is_behind one before x (y ∷ ys) h =
    let both = and_parts (is_behind (before ++ x ∷ []) y) (each_behind is_behind ((before ++ x ∷ []) ++ y ∷ []) ys) h in
    let lt : ltb (key x) (key y) ≡ true = sym (ap (λ o. if_found o (λ z. ltb (key z) (key y)) true) (last_is before x)) ∙ one (before ++ x ∷ []) y both.0 in
    and_from _ _ lt (above_from key is_behind one (before ++ x ∷ []) y ys both.1)

rising_from : {A : Type 0} (key : A → ℕ) (is_behind : List A → A → Bool) → ((before : List A) (x : A) → is_behind before x ≡ true → rises key before (key x) ≡ true)
    → (xs : List A) → each_behind is_behind [] xs ≡ true → all_rising (map key xs) ≡ true
rising_from key is_behind one [] h = refl
rising_from key is_behind one (x ∷ xs) h = above_from key is_behind one [] x xs (and_parts (is_behind [] x) (each_behind is_behind (x ∷ []) xs) h).1

volume_rises : (spelling : ℕ) (before : List (Volume Entry)) (v : Volume Entry) → is_volume_behind spelling before v ≡ true → rises number_of_volume before v.number ≡ true
volume_rises spelling before v h = (and_parts _ _ (and_parts _ _ (and_parts _ _ (and_parts _ _ (and_parts _ _ (and_parts _ _ (and_parts _ _ h).0).0).0).0).0).0).0

context_rises : (before : List Context) (c : Context) → is_context_behind before c ≡ true → rises number_of_context before c.host ≡ true
context_rises before c h = (and_parts _ _ (and_parts _ _ h).0).0

task_rises : (before : List Task) (t : Task) → is_task_behind before t ≡ true → rises number_of_task before t.number ≡ true
task_rises before t h = (and_parts _ _ (and_parts _ _ (and_parts _ _ (and_parts _ _ h).0).0).0).0

container_next : (before : List Container) (k : Container) → is_container_behind before k ≡ true → is_next_container before k.number ≡ true
container_next before k h = (and_parts _ _ (and_parts _ _ (and_parts _ _ h).0).0).0

containers_above : (before : List Container) (x : Container) (ys : List Container) → each_behind is_container_behind (before ++ x ∷ []) ys ≡ true → all_above x.number (map (λ (k : Container). k.number) ys) ≡ true
containers_above before x [] h = refl
containers_above before x (y ∷ ys) h =
    let both = and_parts (is_container_behind (before ++ x ∷ []) y) (each_behind is_container_behind ((before ++ x ∷ []) ++ y ∷ []) ys) h in
    let lt : ltb x.number y.number ≡ true = sym (ap (λ o. if_found o (λ (k : Container). ltb k.number y.number) (eqb y.number 0)) (last_is before x)) ∙ container_next (before ++ x ∷ []) y both.0 in
    and_from _ _ lt (containers_above (before ++ x ∷ []) y ys both.1)

containers_formed : (xs : List Container) → are_containers xs ≡ true → (begins_with_zero xs ≡ true) × (all_rising (map (λ (k : Container). k.number) xs) ≡ true)
containers_formed [] h = absurd cc
containers_formed (x ∷ xs) h =
    let each = and_parts (is_container_behind [] x) (each_behind is_container_behind (x ∷ []) xs) (and_parts (is_within 1 255 (length (x ∷ xs))) (each_behind is_container_behind [] (x ∷ xs)) h).1 in
    (container_next [] x each.0, containers_above [] x xs each.1)

binding_next : (before : List Binding) (b : Binding) → is_binding_behind before b ≡ true → is_next_address before b.address ≡ true
binding_next before b h = (and_parts _ _ (and_parts (is_next_host before b.address.host && is_within 1 64 b.address.host && is_next_endpoint before b.address.host b.address.endpoint && fits 2 b.address.endpoint && is_next_address before b.address) _ (and_parts (is_address_behind before b.address) _ (and_parts _ _ h).0).0).0).1

bindings_below : (before : List Binding) (x : Binding) (ys : List Binding) → each_behind is_binding_behind (before ++ x ∷ []) ys ≡ true → all_below x.address ys ≡ true
bindings_below before x [] h = refl
bindings_below before x (y ∷ ys) h =
    let both = and_parts (is_binding_behind (before ++ x ∷ []) y) (each_behind is_binding_behind ((before ++ x ∷ []) ++ y ∷ []) ys) h in
    let lt : is_below x.address y.address ≡ true = sym (ap (λ o. if_found o (λ (b : Binding). is_below b.address y.address) true) (last_is before x)) ∙ binding_next (before ++ x ∷ []) y both.0 in
    and_from _ _ lt (bindings_below (before ++ x ∷ []) y ys both.1)

bindings_formed : (xs : List Binding) → each_behind is_binding_behind [] xs ≡ true → bindings_rise xs ≡ true
bindings_formed [] h = refl
bindings_formed (x ∷ xs) h = bindings_below [] x xs (and_parts (is_binding_behind [] x) (each_behind is_binding_behind (x ∷ []) xs) h).1

-- ---- what running tasks hold

abbrev clone_numbers : List (RunningClone Entry) → List ℕ
clone_numbers clones = map (λ (c : RunningClone Entry). c.number) clones

abbrev copy_numbers : List (RunningCopy Entry) → List ℕ
copy_numbers copies = map (λ (c : RunningCopy Entry). c.number) copies

abbrev task_numbers : List Task → List ℕ
task_numbers ts = map (λ (t : Task). t.number) ts

abbrev CloneHasForms : RunningClone Entry → Type 0
CloneHasForms c = (needs_have_forms c.needs && pairs_have_forms c.metadata) ≡ true

record RunsFormed (ts : List Task) (clones : List (RunningClone Entry)) (copies : List (RunningCopy Entry)) : Type 0 where
  clones_are : bytes_eq (clone_numbers clones) (running_clones ts) ≡ true
  copies_are : bytes_eq (copy_numbers copies) (running_copies ts) ≡ true

abbrev AreFormed : ℕ → List Task → Type 0
AreFormed spelling ts = (clones : List (RunningClone Entry)) (copies : List (RunningCopy Entry)) → are_runs spelling ts clones copies ≡ true → RunsFormed ts clones copies

record StepFormed (t : Task) (ts : List Task) (runs_on of_clone : Bool) (clones : List (RunningClone Entry)) (copies : List (RunningCopy Entry)) : Type 0 where
  clones_are : bytes_eq (clone_numbers clones) (task_numbers (cond (runs_on && of_clone) (t ∷ filter (λ t. is_running t && is_clone t.job) ts) (filter (λ t. is_running t && is_clone t.job) ts))) ≡ true
  copies_are : bytes_eq (copy_numbers copies) (task_numbers (cond (runs_on && not of_clone) (t ∷ filter (λ t. is_running t && not (is_clone t.job)) ts) (filter (λ t. is_running t && not (is_clone t.job)) ts))) ≡ true

clone_step : (spelling : ℕ) (t : Task) (ts : List Task) → AreFormed spelling ts → (clones : List (RunningClone Entry)) (copies : List (RunningCopy Entry))
    → (leb 1 (length clones) && list_all (is_clone_of spelling t.number) (take 1 clones) && are_runs spelling ts (drop 1 clones) copies) ≡ true → StepFormed t ts true true clones copies
clone_step spelling t ts more [] copies h = absurd cc
clone_step spelling t ts more (c ∷ cs) copies h =
    let both = and_parts (leb 1 (length (c ∷ cs)) && list_all (is_clone_of spelling t.number) (c ∷ [])) (are_runs spelling ts cs copies) h in
    let one = (and_parts (leb 1 (length (c ∷ cs))) (list_all (is_clone_of spelling t.number) (c ∷ [])) both.0).1 in
    let row = and_parts (eqb c.number t.number) (is_clone_row spelling c) (and_parts (is_clone_of spelling t.number c) true one).0 in
    let rest = more cs copies both.1 in
    record { clones_are = and_from _ _ row.0 rest.clones_are; copies_are = rest.copies_are }

copy_step : (spelling : ℕ) (t : Task) (ts : List Task) → AreFormed spelling ts → (clones : List (RunningClone Entry)) (copies : List (RunningCopy Entry))
    → (leb 1 (length copies) && list_all (is_copy_of t.number) (take 1 copies) && are_runs spelling ts clones (drop 1 copies)) ≡ true → StepFormed t ts true false clones copies
copy_step spelling t ts more clones [] h = absurd cc
copy_step spelling t ts more clones (c ∷ cs) h =
    let both = and_parts (leb 1 (length (c ∷ cs)) && list_all (is_copy_of t.number) (c ∷ [])) (are_runs spelling ts clones cs) h in
    let one = (and_parts (leb 1 (length (c ∷ cs))) (list_all (is_copy_of t.number) (c ∷ [])) both.0).1 in
    let row = and_parts (eqb c.number t.number) (are_pieces c.pieces) (and_parts (is_copy_of t.number c) true one).0 in
    let rest = more clones cs both.1 in
    record { clones_are = rest.clones_are; copies_are = and_from _ _ row.0 rest.copies_are }

run_step : (spelling : ℕ) (t : Task) (ts : List Task) → AreFormed spelling ts → (runs_on of_clone : Bool) (clones : List (RunningClone Entry)) (copies : List (RunningCopy Entry))
    → cond runs_on (cond of_clone (leb 1 (length clones) && list_all (is_clone_of spelling t.number) (take 1 clones) && are_runs spelling ts (drop 1 clones) copies)
    (leb 1 (length copies) && list_all (is_copy_of t.number) (take 1 copies) && are_runs spelling ts clones (drop 1 copies))) (are_runs spelling ts clones copies) ≡ true → StepFormed t ts runs_on of_clone clones copies
run_step spelling t ts more true true clones copies h = clone_step spelling t ts more clones copies h
run_step spelling t ts more true false clones copies h = copy_step spelling t ts more clones copies h
run_step spelling t ts more false of_clone clones copies h = let rest = more clones copies h in record { clones_are = rest.clones_are; copies_are = rest.copies_are }

none_left : {A : Type 0} (key : A → ℕ) (xs : List A) → eqb (length xs) 0 ≡ true → bytes_eq (map key xs) [] ≡ true
none_left key [] h = refl
none_left key (x ∷ xs) h = let e = eqb-true (length (x ∷ xs)) 0 h in absurd (omega arith)

runs_formed : (spelling : ℕ) (ts : List Task) → AreFormed spelling ts
unfolding are_runs
runs_formed spelling [] clones copies h =
    let both = and_parts (eqb (length clones) 0) (eqb (length copies) 0) h in
    record { clones_are = none_left (λ (c : RunningClone Entry). c.number) clones both.0; copies_are = none_left (λ (c : RunningCopy Entry). c.number) copies both.1 }
runs_formed spelling (t ∷ ts) clones copies h =
    let s = run_step spelling t ts (runs_formed spelling ts) (is_running t) (is_clone t.job) clones copies h in
    record { clones_are = s.clones_are; copies_are = s.copies_are }

pub has_form : (spelling : ℕ) (d : Durable Entry) → is_spellable spelling d ≡ true → is_formed d ≡ true
unfolding is_spellable is_formed
has_form spelling d h =
    let to_runs = and_parts _ (are_runs spelling d.tasks d.clones d.copies) h in
    let to_tasks = and_parts _ (are_tasks d.tasks) to_runs.0 in
    let to_bindings = and_parts _ (are_bindings d.bindings) to_tasks.0 in
    let to_contexts = and_parts _ (are_contexts d.contexts) to_bindings.0 in
    let to_volumes = and_parts _ (are_volumes spelling d.volumes) to_contexts.0 in
    let containers = containers_formed d.containers (and_parts (fits 8 d.lsn) (are_containers d.containers) to_volumes.0).1 in
    let volumes = rising_from number_of_volume (is_volume_behind spelling) (volume_rises spelling) d.volumes (and_parts (fits 2 (length d.volumes)) (each_behind (is_volume_behind spelling) [] d.volumes) to_volumes.1).1 in
    let contexts = rising_from number_of_context is_context_behind context_rises d.contexts (and_parts (fits 1 (length d.contexts)) (each_behind is_context_behind [] d.contexts) to_contexts.1).1 in
    let bindings = bindings_formed d.bindings (and_parts (fits 2 (length d.bindings)) (each_behind is_binding_behind [] d.bindings) to_bindings.1).1 in
    let tasks = rising_from number_of_task is_task_behind task_rises d.tasks (and_parts (fits 2 (length d.tasks)) (each_behind is_task_behind [] d.tasks) to_tasks.1).1 in
    let runs = runs_formed spelling d.tasks d.clones d.copies to_runs.1 in
    and_from _ _ (and_from _ _ (and_from _ _ (and_from _ _ (and_from _ _ (and_from _ _ (and_from _ _ containers.0 containers.1) volumes) contexts) bindings) tasks) runs.clones_are) runs.copies_are

-- ---- texts and numbers that differ

-- an item before which differs from what none before is the same as
abbrev StandsBefore : {A : Type 0} → (A → A → Bool) → A → List A → Type 0
StandsBefore {A} same b before = (x : A) → list_any (λ c. same c x) before ≡ false → same b x ≡ false

any_front : {A : Type 0} (q : A → Bool) (xs : List A) (y : A) → list_any q (xs ++ y ∷ []) ≡ false → (list_any q xs ≡ false) × (q y ≡ false)
any_front q [] y h = (refl, (or_parts (q y) false h).0)
any_front q (x ∷ xs) y h =
    let both = or_parts (q x) (list_any q (xs ++ y ∷ [])) h in
    let rest = any_front q xs y both.1 in
    (or_from (q x) (list_any q xs) both.0 rest.0, rest.1)

later_differ : {A : Type 0} (is_behind : List A → A → Bool) (same : A → A → Bool) → ((before : List A) (x : A) → is_behind before x ≡ true → list_any (λ c. same c x) before ≡ false)
    → (b : A) (before xs : List A) → StandsBefore same b before → each_behind is_behind before xs ≡ true → Each (λ x. same b x ≡ false) xs
later_differ is_behind same one b before [] s h = tt
later_differ is_behind same one b before (x ∷ xs) s h =
    let both = and_parts (is_behind before x) (each_behind is_behind (before ++ x ∷ []) xs) h in
    (s x (one before x both.0), later_differ is_behind same one b (before ++ x ∷ []) xs (λ y e. s y (any_front (λ c. same c y) before x e).0) both.1)

all_differ : {A : Type 0} (is_behind : List A → A → Bool) (same : A → A → Bool) → ((before : List A) (x : A) → is_behind before x ≡ true → list_any (λ c. same c x) before ≡ false)
    → (before xs : List A) → each_behind is_behind before xs ≡ true → Differ same xs
all_differ is_behind same one before [] h = tt
all_differ is_behind same one before (x ∷ xs) h =
    let both = and_parts (is_behind before x) (each_behind is_behind (before ++ x ∷ []) xs) h in
    (later_differ is_behind same one x (before ++ x ∷ []) xs (λ y e. (any_front (λ c. same c y) before x e).1) both.1, all_differ is_behind same one (before ++ x ∷ []) xs both.1)

none_any : {A B : Type 0} (f : A → B) (q : B → Bool) (xs : List A) → Each (λ x. q (f x) ≡ false) xs → list_any q (map f xs) ≡ false
none_any f q [] h = refl
none_any f q (x ∷ xs) h = or_from (q (f x)) (list_any q (map f xs)) h.0 (none_any f q xs h.1)

texts_from : {A : Type 0} (text : A → List ℕ) (xs : List A) → Differ (λ x y. bytes_eq (text x) (text y)) xs → texts_differ (map text xs) ≡ true
texts_from text [] h = refl
texts_from text (x ∷ xs) h = and_from _ _ (not_from_false _ (none_any text (bytes_eq (text x)) xs h.0)) (texts_from text xs h.1)

pub offers_fine : (xs : List Offer) → are_offers xs ≡ true → offers_have_forms xs ≡ true
offers_fine xs h =
    let each = (and_parts _ (each_behind is_offer_behind [] xs) h).1 in
    let good = each_in is_offer_behind (λ o. (is_name o.name && is_number 64 o.value) ≡ true) (λ before o e. let two = and_parts (is_name o.name && not (list_any (λ b. same_text b.name o.name) before)) (fits 8 o.value) e in and_from _ _ (and_parts (is_name o.name) _ two.0).0 two.1) [] xs each in
    let apart = all_differ is_offer_behind (λ b o. same_text b.name o.name) (λ before o e. not-true _ (and_parts (is_name o.name) (not (list_any (λ b. same_text b.name o.name) before)) (and_parts _ (fits 8 o.value) e).0).1) [] xs each in
    and_from _ _ (all_from (λ (o : Offer). is_name o.name && is_number 64 o.value) xs good) (texts_from (λ (o : Offer). o.name) xs apart)

pub needs_fine : (xs : List Need) → are_needs xs ≡ true → needs_have_forms xs ≡ true
needs_fine xs h =
    let each = (and_parts _ (each_behind is_need_behind [] xs) h).1 in
    let good = each_in is_need_behind (λ o. (is_name o.name && is_number 64 o.value) ≡ true) (λ before o e. let two = and_parts (is_name o.name && not (list_any (λ b. same_text b.name o.name) before)) (fits 8 o.value) e in and_from _ _ (and_parts (is_name o.name) _ two.0).0 two.1) [] xs each in
    let apart = all_differ is_need_behind (λ b o. same_text b.name o.name) (λ before o e. not-true _ (and_parts (is_name o.name) (not (list_any (λ b. same_text b.name o.name) before)) (and_parts _ (fits 8 o.value) e).0).1) [] xs each in
    and_from _ _ (all_from (λ (o : Need). is_name o.name && is_number 64 o.value) xs good) (texts_from (λ (o : Need). o.name) xs apart)

pairs_fine : (spelling : ℕ) (xs : List (List ℕ × List ℕ)) → are_pairs spelling xs ≡ true → pairs_have_forms xs ≡ true
pairs_fine spelling xs h =
    let each = (and_parts _ (each_behind is_pair_behind [] xs) h).1 in
    let good = each_in is_pair_behind (λ p. (is_key p.0 && is_note p.1) ≡ true) (λ before p e. let two = and_parts (is_key p.0 && not (pairs_have before p.0)) (is_note p.1) e in and_from _ _ (and_parts (is_key p.0) _ two.0).0 two.1) [] xs each in
    let apart = all_differ is_pair_behind (λ b p. same_text b.0 p.0) (λ before p e. not-true _ (and_parts (is_key p.0) (not (pairs_have before p.0)) (and_parts _ (is_note p.1) e).0).1) [] xs each in
    and_from _ _ (all_from (λ (p : List ℕ × List ℕ). is_key p.0 && is_note p.1) xs good) (texts_from (λ (p : List ℕ × List ℕ). p.0) xs apart)

other_way : (m n : ℕ) → eqb m n ≡ false → eqb n m ≡ false
other_way m n h = ne_eqb n m (λ e. eqb-false m n h (sym e))

apart_from : (n : ℕ) (ns : List ℕ) → Each (λ (e : EndpointId). eqb n e.0 ≡ false) (as_endpoints ns) → list_any (λ m. eqb m n) ns ≡ false
apart_from n [] h = refl
apart_from n (m ∷ ns) h = or_from (eqb m n) (list_any (λ k. eqb k n) ns) (other_way n m h.0) (apart_from n ns h.1)

numbers_from : (ns : List ℕ) → Differ (λ (b e : EndpointId). eqb b.0 e.0) (as_endpoints ns) → all_different ns ≡ true
numbers_from [] h = refl
numbers_from (n ∷ ns) h = and_from _ _ (not_from_false _ (apart_from n ns h.0)) (numbers_from ns h.1)

above_zero : (n : ℕ) → eqb n 0 ≡ false → leb 1 n ≡ true
above_zero n h = le-leb 1 n (not_zero n h)
  where
    not_zero : (n : ℕ) → eqb n 0 ≡ false → 1 ≤ n
    not_zero n h = let e = eqb-false n 0 h in omega arith

good_numbers : (ns : List ℕ) → Each (λ (e : EndpointId). (is_number 16 e.0 && leb 1 e.0) ≡ true) (as_endpoints ns) → list_all (λ e. is_number 16 e && leb 1 e) ns ≡ true
good_numbers [] h = refl
good_numbers (n ∷ ns) h = and_from _ _ h.0 (good_numbers ns h.1)

pub endpoints_fine : (ns : List ℕ) → are_endpoints (as_endpoints ns) ≡ true → endpoints_have_forms ns ≡ true
endpoints_fine ns h =
    let each = (and_parts _ (each_behind is_endpoint_behind [] (as_endpoints ns)) h).1 in
    let parts : (before : List EndpointId) (e : EndpointId) → is_endpoint_behind before e ≡ true → (eqb e.0 0 ≡ false) × (list_any (λ b. eqb b.0 e.0) before ≡ false) × (fits 2 e.0 ≡ true) =
    λ before e p. let two = and_parts (not (eqb e.0 0 || list_any (λ b. eqb b.0 e.0) before)) (fits 2 e.0) p in let three = or_parts (eqb e.0 0) (list_any (λ b. eqb b.0 e.0) before) (not-true _ two.0) in (three.0, three.1, two.1)
    in
    let good = each_in is_endpoint_behind (λ e. (is_number 16 e.0 && leb 1 e.0) ≡ true) (λ before e p. and_from _ _ (parts before e p).2 (above_zero e.0 (parts before e p).0)) [] (as_endpoints ns) each in
    let apart = all_differ is_endpoint_behind (λ b e. eqb b.0 e.0) (λ before e p. (parts before e p).1) [] (as_endpoints ns) each in
    and_from _ _ (good_numbers ns good) (numbers_from ns apart)

-- ---- fields

abbrev ClonesHave : ℕ → List Task → Type 0
ClonesHave spelling ts = (clones : List (RunningClone Entry)) (copies : List (RunningCopy Entry)) → are_runs spelling ts clones copies ≡ true → Each CloneHasForms clones

clone_has : (spelling : ℕ) (c : RunningClone Entry) → is_clone_row spelling c ≡ true → CloneHasForms c
clone_has spelling c h =
    let image = and_parts _ (are_entries c.image) (and_parts _ (are_entries c.target) h).0 in
    let pairs = and_parts (fits 8 c.container && are_needs c.needs) (are_pairs spelling c.metadata) image.0 in
    and_from _ _ (needs_fine c.needs (and_parts (fits 8 c.container) (are_needs c.needs) pairs.0).1) (pairs_fine spelling c.metadata pairs.1)

clone_step_has : (spelling : ℕ) (t : Task) (ts : List Task) → ClonesHave spelling ts → (clones : List (RunningClone Entry)) (copies : List (RunningCopy Entry))
    → (leb 1 (length clones) && list_all (is_clone_of spelling t.number) (take 1 clones) && are_runs spelling ts (drop 1 clones) copies) ≡ true → Each CloneHasForms clones
clone_step_has spelling t ts more [] copies h = tt
clone_step_has spelling t ts more (c ∷ cs) copies h =
    let both = and_parts (leb 1 (length (c ∷ cs)) && list_all (is_clone_of spelling t.number) (c ∷ [])) (are_runs spelling ts cs copies) h in
    let one = (and_parts (leb 1 (length (c ∷ cs))) (list_all (is_clone_of spelling t.number) (c ∷ [])) both.0).1 in
    let row = and_parts (eqb c.number t.number) (is_clone_row spelling c) (and_parts (is_clone_of spelling t.number c) true one).0 in
    (clone_has spelling c row.1, more cs copies both.1)

run_has : (spelling : ℕ) (t : Task) (ts : List Task) → ClonesHave spelling ts → (runs_on of_clone : Bool) (clones : List (RunningClone Entry)) (copies : List (RunningCopy Entry))
    → cond runs_on (cond of_clone (leb 1 (length clones) && list_all (is_clone_of spelling t.number) (take 1 clones) && are_runs spelling ts (drop 1 clones) copies)
    (leb 1 (length copies) && list_all (is_copy_of t.number) (take 1 copies) && are_runs spelling ts clones (drop 1 copies))) (are_runs spelling ts clones copies) ≡ true → Each CloneHasForms clones
run_has spelling t ts more true true clones copies h = clone_step_has spelling t ts more clones copies h
run_has spelling t ts more true false clones copies h = more clones (drop 1 copies) (and_parts (leb 1 (length copies) && list_all (is_copy_of t.number) (take 1 copies)) (are_runs spelling ts clones (drop 1 copies)) h).1
run_has spelling t ts more false of_clone clones copies h = more clones copies h

no_clone : (clones : List (RunningClone Entry)) → eqb (length clones) 0 ≡ true → Each CloneHasForms clones
no_clone [] h = tt
no_clone (c ∷ cs) h = let e = eqb-true (length (c ∷ cs)) 0 h in absurd (omega arith)

clones_have : (spelling : ℕ) (ts : List Task) → ClonesHave spelling ts
unfolding are_runs
clones_have spelling [] clones copies h = no_clone clones (and_parts (eqb (length clones) 0) (eqb (length copies) 0) h).0
clones_have spelling (t ∷ ts) clones copies h = run_has spelling t ts (clones_have spelling ts) (is_running t) (is_clone t.job) clones copies h

container_has : (before : List Container) (k : Container) → is_container_behind before k ≡ true → (is_number 32 k.quota && offers_have_forms k.offers) ≡ true
container_has before k h =
    let offers = and_parts _ (are_offers k.offers) h in
    and_from _ _ (and_parts _ (is_quota k.quota) offers.0).1 (offers_fine k.offers offers.1)

volume_has : (spelling : ℕ) (before : List (Volume Entry)) (v : Volume Entry) → is_volume_behind spelling before v ≡ true → (needs_have_forms v.needs && pairs_have_forms v.metadata) ≡ true
volume_has spelling before v h =
    let pairs = and_parts _ (are_pairs spelling v.metadata) (and_parts _ (are_entries v.chunks) h).0 in
    and_from _ _ (needs_fine v.needs (and_parts _ (are_needs v.needs) pairs.0).1) (pairs_fine spelling v.metadata pairs.1)

context_has : (before : List Context) (c : Context) → is_context_behind before c ≡ true → endpoints_have_forms c.endpoints ≡ true
context_has before c h = endpoints_fine c.endpoints (and_parts _ (are_endpoints (as_endpoints c.endpoints)) h).1

binding_has : (before : List Binding) (b : Binding) → is_binding_behind before b ≡ true → (is_number 16 b.address.endpoint && is_number 16 b.address.secondary) ≡ true
binding_has before b h =
    let address = (and_parts (is_address_behind before b.address) _ (and_parts (is_address_behind before b.address && fits 8 b.volume) _ h).0).0 in
    let last = and_parts (is_next_host before b.address.host && is_within 1 64 b.address.host && is_next_endpoint before b.address.host b.address.endpoint && fits 2 b.address.endpoint && is_next_address before b.address) (fits 2 b.address.secondary) address in
    let next = and_parts (is_next_host before b.address.host && is_within 1 64 b.address.host && is_next_endpoint before b.address.host b.address.endpoint && fits 2 b.address.endpoint) (is_next_address before b.address) last.0 in
    and_from _ _ (and_parts (is_next_host before b.address.host && is_within 1 64 b.address.host && is_next_endpoint before b.address.host b.address.endpoint) (fits 2 b.address.endpoint) next.0).1 last.1

job_has : (job : Job) → is_job job ≡ true → job_has_form job ≡ true
job_has (Clone volume) h = h
job_has (Copy source base target) h = h

task_has : (before : List Task) (t : Task) → is_task_behind before t ≡ true → (job_has_form t.job && is_number 32 t.done && is_number 32 t.total) ≡ true
task_has before t h =
    let total = and_parts _ (fits 4 t.total) h in
    let so_far = and_parts _ (fits 4 t.done) total.0 in
    and_from _ _ (and_from _ _ (job_has t.job (and_parts _ (is_job t.job) so_far.0).1) so_far.1) total.1

pub has_forms : (spelling : ℕ) (d : Durable Entry) → is_spellable spelling d ≡ true → have_forms d ≡ true
unfolding is_spellable have_forms
has_forms spelling d h =
    let to_runs = and_parts _ (are_runs spelling d.tasks d.clones d.copies) h in
    let to_tasks = and_parts _ (are_tasks d.tasks) to_runs.0 in
    let to_bindings = and_parts _ (are_bindings d.bindings) to_tasks.0 in
    let to_contexts = and_parts _ (are_contexts d.contexts) to_bindings.0 in
    let to_volumes = and_parts _ (are_volumes spelling d.volumes) to_contexts.0 in
    let containers = (and_parts (is_within 1 255 (length d.containers)) (each_behind is_container_behind [] d.containers) (and_parts (fits 8 d.lsn) (are_containers d.containers) to_volumes.0).1).1 in
    let volumes = (and_parts (fits 2 (length d.volumes)) (each_behind (is_volume_behind spelling) [] d.volumes) to_volumes.1).1 in
    let contexts = (and_parts (fits 1 (length d.contexts)) (each_behind is_context_behind [] d.contexts) to_contexts.1).1 in
    let bindings = (and_parts (fits 2 (length d.bindings)) (each_behind is_binding_behind [] d.bindings) to_bindings.1).1 in
    let tasks = (and_parts (fits 2 (length d.tasks)) (each_behind is_task_behind [] d.tasks) to_tasks.1).1 in
    and_from _ _ (and_from _ _ (and_from _ _ (and_from _ _ (and_from _ _
    (all_from _ d.containers (each_in is_container_behind (λ k. (is_number 32 k.quota && offers_have_forms k.offers) ≡ true) container_has [] d.containers containers))
    (all_from _ d.volumes (each_in (is_volume_behind spelling) (λ v. (needs_have_forms v.needs && pairs_have_forms v.metadata) ≡ true) (volume_has spelling) [] d.volumes volumes)))
    (all_from _ d.contexts (each_in is_context_behind (λ c. endpoints_have_forms c.endpoints ≡ true) context_has [] d.contexts contexts)))
    (all_from _ d.bindings (each_in is_binding_behind (λ b. (is_number 16 b.address.endpoint && is_number 16 b.address.secondary) ≡ true) binding_has [] d.bindings bindings)))
    (all_from _ d.tasks (each_in is_task_behind (λ t. (job_has_form t.job && is_number 32 t.done && is_number 32 t.total) ≡ true) task_has [] d.tasks tasks)))
    (all_from _ d.clones (clones_have spelling d.tasks d.clones d.copies to_runs.1))
