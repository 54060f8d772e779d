-- An accepted change keeps the form: the maps rise, container 0 is the first container, and the running clones and copies are
-- those of the running tasks. The law the_rules_of_the_shape_stay rests on these.
use Rattle.std.proofs.Common.{◌≡◌, ℕ, ◌+◌, ◌-◌, ◌==◌, ◌&&◌, ◌||◌, not, refl, ap, sym, ◌∙◌, Bool, true, false, cond, List, [], ◌∷◌, ◌++◌, map, length, arith}
use Rattle.std.specs.Prelude.{Option, Some, None, is_some, is_none, nat_lt, nat_le, slice_index, unwrap_or}
use Rattle.std.specs.List.{find, filter, list_all, list_any}
use Rattle.std.proofs.lemmas.List.{append-nil, map-append}
use Rattle.std.proofs.lemmas.List.Elements.{filter-append}
use Rattle.std.proofs.lemmas.List.Folds.{list_all-map, list_any-append}
use Rattle.std.proofs.lemmas.Bool.{and_left as false_and, and_right as and_false, or_left, eqb-true, false_from_ne_true, not-true}
use Rattle.std.proofs.lemmas.Bool.Decides.{nat_tests}
use Rattle.std.proofs.lemmas.Slice.Eq.{bytes_eq-Decides}
use Rattle.vv_units.specs.declared.volume.TaskState.TheVariants.{Running, Success, Cancelled}
use Rattle.vv_flat.specs.Lists.{first_changed, put_before, first_removed, numbers_from, all_different, all_rising}
use Rattle.vv_flat.specs.State.{Container, Volume, Context, Address, Binding, Job, Copy, Task, RunningClone, RunningCopy, Durable, task_of, clone_of}
use Rattle.vv_flat.specs.Space.{is_running_state, is_running, is_clone}
use Rattle.vv_flat.specs.Bindings.{is_address, is_below, context_of, was_set, endpoints_of, with_context, binding_at, binding_of, is_binding_of, free_secondary, new_address, with_binding, count_left, without_binding, is_of_host}
use Rattle.vv_flat.specs.Tasks.{record_limit, is_last, with_room, started, with_task, advanced, next_piece, cloned_volume, without_clone, without_copy, clone_of_volume, clone_started, copy_started, clone_goes_on, clone_ends, copy_goes_on, copy_ends, pieces_put, cancelled}
use Rattle.vv_flat.specs.Profiles.{Misfit}
use Rattle.vv_flat.specs.Refusals.{Accept}
use Rattle.vv_flat.specs.Form.{begins_with_zero, bindings_rise, running_clones, running_copies, is_formed}
use Rattle.vv_flat.specs.Rules.{is_logged, numbers_rule, bindings_rule, keeps_shape_rules, has_its_fields}
use Rattle.vv_flat.specs.Changes.{Change, judge, apply, apply_shape}
use Rattle.vv_flat.proofs.Shares.{and_left, and_right, and_both, list_all-follows}
use Rattle.vv_flat.proofs.MapLists.{map-first_removed}
use Rattle.vv_flat.proofs.Steps.{find-passes}
use Rattle.vv_flat.proofs.Known.{all-removed, all-filter}
use Rattle.vv_flat.proofs.Lookups.{comes_twice, any-found}
use Rattle.vv_flat.proofs.KeepLists.{rising-put, rising-removed, bindings-put, bindings-removed, bindings-filter, bindings-changed, map-changed_same, picked-same, picked-after, put-last, filter-removed, all-where_none, all-where_not_any}
use Rattle.vv_flat.proofs.Kept.{Kept, kept}
use Rattle.vv_flat.proofs.KeepSteps.{Turning, Steps, by_steps}

form_of : (e : Durable ℕ) → begins_with_zero e.containers ≡ true → all_rising (map (λ (k : Container). k.number) e.containers) ≡ true
    → all_rising (map (λ (v : Volume ℕ). v.number) e.volumes) ≡ true → all_rising (map (λ (c : Context). c.host) e.contexts) ≡ true
    → bindings_rise e.bindings ≡ true → all_rising (map (λ (t : Task). t.number) e.tasks) ≡ true
    → map (λ (c : RunningClone ℕ). c.number) e.clones ≡ running_clones e.tasks
    → map (λ (c : RunningCopy ℕ). c.number) e.copies ≡ running_copies e.tasks → is_formed e ≡ true
unfolding is_formed
form_of e zero containers volumes contexts bindings tasks clones copies =
    and_both _ _ (and_both _ _ (and_both _ _ (and_both _ _ (and_both _ _ (and_both _ _ (and_both _ _ zero containers) volumes) contexts) bindings) tasks)
    ((bytes_eq-Decides (map (λ (c : RunningClone ℕ). c.number) e.clones) (running_clones e.tasks)).1 clones))
    ((bytes_eq-Decides (map (λ (c : RunningCopy ℕ). c.number) e.copies) (running_copies e.tasks)).1 copies)

-- Container 0 stays the first one.

not_below_zero : (n m : ℕ) → (m == 0) ≡ true → nat_lt n m ≡ false
not_below_zero n m e = grind (arith, nat_tests)

zero_first : (n : ℕ) (k : Container) (ks : List Container) → begins_with_zero ks ≡ true
    → begins_with_zero (put_before (λ (j : Container). nat_lt n j.number) k ks) ≡ true
zero_first n k [] e = cc
zero_first n k (j ∷ js) e = let f : nat_lt n j.number ≡ false = not_below_zero n j.number e in rw f e

-- A binding is put at an address where there is none.

no_zero : (s : ℕ) → nat_le 1 s ≡ true → (s == 0) ≡ false
no_zero s e = grind (arith, nat_tests)

none_is : {A : Type 0} (o : Option A) → is_none o ≡ true → o ≡ None
none_is None e = refl
none_is (Some x) e = cc

not_some : {A : Type 0} (o : Option A) → is_some o ≡ false → o ≡ None
not_some None e = refl
not_some (Some x) e = cc

free_address : (bs : List Binding) (host endpoint : ℕ) → list_all (λ (b : Binding). nat_le 1 b.address.secondary) bs ≡ true
    → list_all (λ (b : Binding). not (is_address b.address (record { host = host; endpoint = endpoint; secondary = free_secondary bs host endpoint }))) bs ≡ true
free_address bs host endpoint from_one =
    of_find (find (λ s. is_none (binding_at bs (record { host = host; endpoint = endpoint; secondary = s }))) (numbers_from 1 (length bs + 1))) refl
  where
    of_find : (o : Option ℕ)
        → find (λ s. is_none (binding_at bs (record { host = host; endpoint = endpoint; secondary = s }))) (numbers_from 1 (length bs + 1)) ≡ o
        → list_all (λ (b : Binding). not (is_address b.address (record { host = host; endpoint = endpoint; secondary = unwrap_or o 0 }))) bs ≡ true
    of_find None e =
        list_all-follows (λ (b : Binding). nat_le 1 b.address.secondary)
        (λ (b : Binding). not (is_address b.address (record { host = host; endpoint = endpoint; secondary = 0 })))
        (λ b one. ap not (and_false ((b.address.host == host) && (b.address.endpoint == endpoint)) (b.address.secondary == 0) (no_zero b.address.secondary one))) bs from_one
    of_find (Some s) e =
        all-where_none (λ (b : Binding). is_address b.address (record { host = host; endpoint = endpoint; secondary = s })) bs
        (none_is (binding_at bs (record { host = host; endpoint = endpoint; secondary = s }))
        (find-passes (λ s. is_none (binding_at bs (record { host = host; endpoint = endpoint; secondary = s }))) (numbers_from 1 (length bs + 1)) s e))

rise_bound : (contexts : List Context) (bs : List Binding) (host n : ℕ) → list_all (λ (b : Binding). nat_le 1 b.address.secondary) bs ≡ true
    → bindings_rise bs ≡ true → bindings_rise (with_binding contexts bs host n) ≡ true
unfolding with_binding
rise_bound contexts bs host n from_one rise = of_found (is_some (binding_of bs host n))
  where
    of_found : (b : Bool)
        → bindings_rise (cond b (first_changed (is_binding_of host n) (λ b. record b { count = b.count + 1 }) bs)
        (put_before (λ (b : Binding). is_below (new_address contexts bs host) b.address) (record { address = new_address contexts bs host; volume = n; count = 1 }) bs)) ≡ true
    of_found true = bindings-changed (is_binding_of host n) (λ b. record b { count = b.count + 1 }) (λ b. refl) bs rise
    of_found false =
        bindings-put (record { address = new_address contexts bs host; volume = n; count = 1 }) bs
        (free_address bs host (slice_index (endpoints_of contexts host) 0) from_one) rise

rise_unbound : (bs : List Binding) (a : Address) → bindings_rise bs ≡ true → bindings_rise (without_binding bs a) ≡ true
unfolding without_binding
rise_unbound bs a rise = of_count (count_left bs a == 0)
  where
    of_count : (b : Bool)
        → bindings_rise (cond b (first_removed (λ (b : Binding). is_address b.address a) bs)
        (first_changed (λ (b : Binding). is_address b.address a) (λ b. record b { count = b.count - 1 }) bs)) ≡ true
    of_count true = bindings-removed (λ (b : Binding). is_address b.address a) bs rise
    of_count false = bindings-changed (λ (b : Binding). is_address b.address a) (λ b. record b { count = b.count - 1 }) (λ b. refl) bs rise

rise_set : (cs : List Context) (host : ℕ) (endpoints : List ℕ) → all_rising (map (λ (c : Context). c.host) cs) ≡ true
    → all_rising (map (λ (c : Context). c.host) (with_context cs host endpoints)) ≡ true
rise_set cs host endpoints rise = of_set (was_set cs host) refl
  where
    of_set : (b : Bool) → was_set cs host ≡ b
        → all_rising (map (λ (c : Context). c.host) (cond b (first_changed (λ (c : Context). c.host == host) (λ c. record c { endpoints = endpoints }) cs)
        (put_before (λ (c : Context). nat_lt host c.host) (record { host = host; endpoints = endpoints }) cs))) ≡ true
    of_set true is =
        ap all_rising (map-changed_same (λ (c : Context). c.host) (λ (c : Context). c.host == host) (λ c. record c { endpoints = endpoints }) cs (λ c found. refl))
        ∙ rise
    of_set false is =
        rising-put (λ (c : Context). c.host) (record { host = host; endpoints = endpoints }) cs
        (all-where_none (λ (c : Context). c.host == host) cs (not_some (context_of cs host) is)) rise

-- The numbers of tasks that pass a test, when one starts, goes on, ends or is cancelled.

logged_last : (lsn n : ℕ) → is_logged lsn n ≡ true → not (nat_lt (lsn + 1) n) ≡ true
logged_last lsn n e = grind (arith, nat_tests)

logged_new : (lsn n : ℕ) → is_logged lsn n ≡ true → not (n == lsn + 1) ≡ true
logged_new lsn n e = grind (arith, nat_tests)

zero_new : (lsn n : ℕ) → ((n == 0) || is_logged lsn n) ≡ true → not (n == lsn + 1) ≡ true
zero_new lsn n e = grind (arith, nat_tests)

pub advanced_runs : (t : Task) (k : ℕ) → is_last t k ≡ false → is_running (advanced t k) ≡ true
advanced_runs t k e = ap (λ b. is_running_state (cond b Success Running)) e

pub advanced_ends : (t : Task) (k : ℕ) → is_last t k ≡ true → is_running (advanced t k) ≡ false
advanced_ends t k e = ap (λ b. is_running_state (cond b Success Running)) e

abbrev runs_clone : Task → Bool
runs_clone t = is_running t && is_clone t.job

abbrev runs_copy : Task → Bool
runs_copy t = is_running t && not (is_clone t.job)

module _ (d : Durable ℕ) (kept : Kept d) where
  form_zero : begins_with_zero d.containers ≡ true
  unfolding is_formed
  form_zero = and_left _ _ (and_left _ _ (and_left _ _ (and_left _ _ (and_left _ _ (and_left _ _ (and_left _ _ kept.form))))))

  containers_rise : all_rising (map (λ (k : Container). k.number) d.containers) ≡ true
  unfolding is_formed
  containers_rise = and_right _ _ (and_left _ _ (and_left _ _ (and_left _ _ (and_left _ _ (and_left _ _ (and_left _ _ kept.form))))))

  pub volumes_rise : all_rising (map (λ (v : Volume ℕ). v.number) d.volumes) ≡ true
  unfolding is_formed
  volumes_rise = and_right _ _ (and_left _ _ (and_left _ _ (and_left _ _ (and_left _ _ (and_left _ _ kept.form)))))

  contexts_rise : all_rising (map (λ (c : Context). c.host) d.contexts) ≡ true
  unfolding is_formed
  contexts_rise = and_right _ _ (and_left _ _ (and_left _ _ (and_left _ _ (and_left _ _ kept.form))))

  all_bindings_rise : bindings_rise d.bindings ≡ true
  unfolding is_formed
  all_bindings_rise = and_right _ _ (and_left _ _ (and_left _ _ (and_left _ _ kept.form)))

  pub tasks_rise : all_rising (map (λ (t : Task). t.number) d.tasks) ≡ true
  unfolding is_formed
  tasks_rise = and_right _ _ (and_left _ _ (and_left _ _ kept.form))

  pub clones_are : map (λ (c : RunningClone ℕ). c.number) d.clones ≡ running_clones d.tasks
  unfolding is_formed
  clones_are = (bytes_eq-Decides (map (λ (c : RunningClone ℕ). c.number) d.clones) (running_clones d.tasks)).0 (and_right _ _ (and_left _ _ kept.form))

  pub copies_are : map (λ (c : RunningCopy ℕ). c.number) d.copies ≡ running_copies d.tasks
  unfolding is_formed
  copies_are = (bytes_eq-Decides (map (λ (c : RunningCopy ℕ). c.number) d.copies) (running_copies d.tasks)).0 (and_right _ _ kept.form)

  pub tasks_logged : list_all (λ (t : Task). is_logged d.lsn t.number) d.tasks ≡ true
  unfolding numbers_rule
  tasks_logged =
      list_all-follows _ (λ (t : Task). is_logged d.lsn t.number) (λ t e. and_left (is_logged d.lsn t.number) _ e) d.tasks
      (and_right _ _ (and_left _ _ (and_left _ _ kept.numbers)))

  -- the numbers of running clones and copies are those of tasks
  pub clones_logged : list_all (λ (c : RunningClone ℕ). is_logged d.lsn c.number) d.clones ≡ true
  clones_logged =
      sym (list_all-map (is_logged d.lsn) (λ (c : RunningClone ℕ). c.number) d.clones)
      ∙ ap (list_all (is_logged d.lsn)) clones_are
      ∙ list_all-map (is_logged d.lsn) (λ (t : Task). t.number) (filter runs_clone d.tasks)
      ∙ all-filter (λ (t : Task). is_logged d.lsn t.number) runs_clone d.tasks tasks_logged

  copies_logged : list_all (λ (c : RunningCopy ℕ). is_logged d.lsn c.number) d.copies ≡ true
  copies_logged =
      sym (list_all-map (is_logged d.lsn) (λ (c : RunningCopy ℕ). c.number) d.copies)
      ∙ ap (list_all (is_logged d.lsn)) copies_are
      ∙ list_all-map (is_logged d.lsn) (λ (t : Task). t.number) (filter runs_copy d.tasks)
      ∙ all-filter (λ (t : Task). is_logged d.lsn t.number) runs_copy d.tasks tasks_logged

  pub new_volume_number : list_all (λ (v : Volume ℕ). not (v.number == d.lsn + 1)) d.volumes ≡ true
  unfolding numbers_rule
  new_volume_number =
      list_all-follows _ (λ (v : Volume ℕ). not (v.number == d.lsn + 1))
      (λ v e. logged_new d.lsn v.number (and_left (is_logged d.lsn v.number) _ (and_left _ _ e))) d.volumes
      (and_left _ _ (and_left _ _ (and_left _ _ (and_left _ _ kept.numbers))))

  pub new_container_number : list_all (λ (k : Container). not (k.number == d.lsn + 1)) d.containers ≡ true
  unfolding numbers_rule
  new_container_number =
      list_all-follows _ (λ (k : Container). not (k.number == d.lsn + 1)) (λ k e. zero_new d.lsn k.number e) d.containers
      (and_right _ _ (and_left _ _ (and_left _ _ (and_left _ _ kept.numbers))))

  pub numbers_differ : all_different (map (λ (v : Volume ℕ). v.number) d.volumes ++ map (λ (k : Container). k.number) d.containers
      ++ map (λ (c : RunningClone ℕ). c.number) d.clones) ≡ true
  unfolding numbers_rule
  numbers_differ = and_right _ _ (and_left _ _ kept.numbers)

  -- no volume has the number of a running clone
  pub clone_apart : (n : ℕ) (c : RunningClone ℕ) → clone_of d n ≡ Some c → list_all (λ (v : Volume ℕ). not (v.number == n)) d.volumes ≡ true
  clone_apart n c found =
      let vs : List ℕ = map (λ (v : Volume ℕ). v.number) d.volumes in
      let ks : List ℕ = map (λ (k : Container). k.number) d.containers in
      let cs : List ℕ = map (λ (c : RunningClone ℕ). c.number) d.clones in
      let different : all_different (vs ++ ks ++ cs) ≡ true = numbers_differ in
      let other : list_any (λ m. m == n) cs ≡ true = any-found (λ (c : RunningClone ℕ). c.number) n c d.clones found in
      sym (list_all-map (λ m. not (m == n)) (λ (v : Volume ℕ). v.number) d.volumes)
      ∙ all-where_not_any (λ m. m == n) vs
      (false_from_ne_true (list_any (λ m. m == n) vs)
      (λ one. let both : list_any (λ m. m == n) (vs ++ ks) ≡ true =
      list_any-append (λ m. m == n) vs ks ∙ or_left (list_any (λ m. m == n) vs) (list_any (λ m. m == n) ks) one in
      let f : all_different (vs ++ ks ++ cs) ≡ false = comes_twice n (vs ++ ks) cs both other in
      absurd (cc)))

  -- the records with room for one more
  room_rises : all_rising (map (λ (t : Task). t.number) (with_room d.tasks)) ≡ true
  room_rises = of_room (nat_le record_limit (length d.tasks))
    where
      of_room : (b : Bool) → all_rising (map (λ (t : Task). t.number) (cond b (first_removed (λ (t : Task). not (is_running t)) d.tasks) d.tasks)) ≡ true
      of_room true = rising-removed (λ (t : Task). t.number) (λ (t : Task). not (is_running t)) d.tasks tasks_rise
      of_room false = tasks_rise

  room_logged : list_all (λ (t : Task). is_logged d.lsn t.number) (with_room d.tasks) ≡ true
  room_logged = of_room (nat_le record_limit (length d.tasks))
    where
      of_room : (b : Bool) → list_all (λ (t : Task). is_logged d.lsn t.number) (cond b (first_removed (λ (t : Task). not (is_running t)) d.tasks) d.tasks) ≡ true
      of_room true = all-removed (λ (t : Task). is_logged d.lsn t.number) (λ (t : Task). not (is_running t)) d.tasks tasks_logged
      of_room false = tasks_logged

  room_picked : (r : Task → Bool) → ((t : Task) → not (is_running t) ≡ true → r t ≡ false) → filter r (with_room d.tasks) ≡ filter r d.tasks
  room_picked r stopped = of_room (nat_le record_limit (length d.tasks))
    where
      of_room : (b : Bool) → filter r (cond b (first_removed (λ (t : Task). not (is_running t)) d.tasks) d.tasks) ≡ filter r d.tasks
      of_room true = filter-removed (λ (t : Task). not (is_running t)) r stopped d.tasks
      of_room false = refl

  started_rises : (t : Task) → t.number ≡ d.lsn + 1 → all_rising (map (λ (t : Task). t.number) (started d.tasks t)) ≡ true
  started_rises t number =
      rising-put (λ (t : Task). t.number) t (with_room d.tasks)
      (list_all-follows (λ (u : Task). is_logged d.lsn u.number) (λ (u : Task). not (u.number == t.number))
      (λ u e. rw number (logged_new d.lsn u.number e)) (with_room d.tasks) room_logged) room_rises

  started_picked : (r : Task → Bool) (t : Task) → t.number ≡ d.lsn + 1 → ((t : Task) → not (is_running t) ≡ true → r t ≡ false)
      → map (λ (t : Task). t.number) (filter r (started d.tasks t)) ≡ map (λ (t : Task). t.number) (filter r d.tasks) ++ map (λ (t : Task). t.number) (filter r (t ∷ []))
  started_picked r t number stopped =
      let last : started d.tasks t ≡ with_room d.tasks ++ t ∷ [] =
      put-last (λ (u : Task). nat_lt t.number u.number) t (with_room d.tasks)
      (list_all-follows (λ (u : Task). is_logged d.lsn u.number) (λ (u : Task). not (nat_lt t.number u.number))
      (λ u e. rw number (logged_last d.lsn u.number e)) (with_room d.tasks) room_logged) in
      ap (λ ts. map (λ (t : Task). t.number) (filter r ts)) last
      ∙ ap (map (λ (t : Task). t.number)) (filter-append r (with_room d.tasks) (t ∷ []))
      ∙ map-append (λ (t : Task). t.number) (filter r (with_room d.tasks)) (filter r (t ∷ []))
      ∙ ap (λ ts. map (λ (t : Task). t.number) ts ++ map (λ (t : Task). t.number) (filter r (t ∷ []))) (room_picked r stopped)

  stopped_no_clone : (t : Task) → not (is_running t) ≡ true → runs_clone t ≡ false
  stopped_no_clone t e = false_and (is_running t) (is_clone t.job) (not-true (is_running t) e)

  stopped_no_copy : (t : Task) → not (is_running t) ≡ true → runs_copy t ≡ false
  stopped_no_copy t e = false_and (is_running t) (not (is_clone t.job)) (not-true (is_running t) e)

  is_found : (t u : Task) → Turning d t → find (λ (w : Task). w.number == t.number) d.tasks ≡ Some u → t ≡ u
  is_found t u turning at = let f : task_of d t.number ≡ Some t = turning.found in cc

  advanced_rises : (t : Task) (k : ℕ) → Turning d t → all_rising (map (λ (t : Task). t.number) (with_task d.tasks (advanced t k))) ≡ true
  advanced_rises t k turning =
      ap all_rising (map-changed_same (λ (t : Task). t.number) (λ (u : Task). u.number == t.number) (λ _. advanced t k) d.tasks
      (λ u at. ap (λ (w : Task). w.number) (is_found t u turning at)))
      ∙ tasks_rise

  -- those that pass as before
  advanced_same : (r : Task → Bool) (t : Task) (k : ℕ) → Turning d t → r (advanced t k) ≡ r t
      → map (λ (t : Task). t.number) (filter r (with_task d.tasks (advanced t k))) ≡ map (λ (t : Task). t.number) (filter r d.tasks)
  advanced_same r t k turning same =
      picked-same (λ (t : Task). t.number) (λ (u : Task). u.number == t.number) (λ _. advanced t k) r d.tasks
      (λ u at. same ∙ ap r (is_found t u turning at)) (λ u at. ap (λ (w : Task). w.number) (is_found t u turning at))

  -- and those that pass without the one that ends
  advanced_out : (r : Task → Bool) (t : Task) (k : ℕ) → r (advanced t k) ≡ false
      → map (λ (t : Task). t.number) (filter r (with_task d.tasks (advanced t k))) ≡ first_removed (λ m. m == t.number) (map (λ (t : Task). t.number) (filter r d.tasks))
  advanced_out r t k ends = picked-after (λ (t : Task). t.number) r t.number (λ _. advanced t k) d.tasks tasks_rise (λ u at. ends)

  clones_without : (n : ℕ) → map (λ (c : RunningClone ℕ). c.number) (without_clone n d.clones) ≡ first_removed (λ m. m == n) (running_clones d.tasks)
  clones_without n =
      map-first_removed (λ (c : RunningClone ℕ). c.number) (λ (c : RunningClone ℕ). c.number == n) (λ m. m == n) (λ c. refl) d.clones
      ∙ ap (first_removed (λ m. m == n)) clones_are

  copies_without : (n : ℕ) → map (λ (c : RunningCopy ℕ). c.number) (without_copy n d.copies) ≡ first_removed (λ m. m == n) (running_copies d.tasks)
  copies_without n =
      map-first_removed (λ (c : RunningCopy ℕ). c.number) (λ (c : RunningCopy ℕ). c.number == n) (λ m. m == n) (λ c. refl) d.copies
      ∙ ap (first_removed (λ m. m == n)) copies_are

  goes_on : (r : Job → Bool) (t : Task) (k : ℕ) → Turning d t → is_last t k ≡ false → (is_running (advanced t k) && r t.job) ≡ (is_running t && r t.job)
  goes_on r t k turning last = ap (λ b. b && r t.job) (advanced_runs t k last ∙ sym turning.runs)

  ends : (r : Job → Bool) (t : Task) (k : ℕ) → is_last t k ≡ true → (is_running (advanced t k) && r t.job) ≡ false
  ends r t k last = ap (λ b. b && r t.job) (advanced_ends t k last)

  none_before : (r : Job → Bool) (t : Task) (k : ℕ) → r t.job ≡ false → (is_running (advanced t k) && r t.job) ≡ (is_running t && r t.job)
  none_before r t k e = and_false (is_running (advanced t k)) (r t.job) e ∙ sym (and_false (is_running t) (r t.job) e)

  secondary_from_one : list_all (λ (b : Binding). nat_le 1 b.address.secondary) d.bindings ≡ true
  unfolding bindings_rule
  secondary_from_one =
      list_all-follows _ (λ (b : Binding). nat_le 1 b.address.secondary) (λ b e. and_right _ (nat_le 1 b.address.secondary) (and_left _ _ e)) d.bindings
      (and_left _ _ (and_left _ _ kept.bindings))

  volumes_rise_with : (v : Volume ℕ) → list_all (λ (w : Volume ℕ). not (w.number == v.number)) d.volumes ≡ true
      → all_rising (map (λ (v : Volume ℕ). v.number) (put_before (λ (w : Volume ℕ). nat_lt v.number w.number) v d.volumes)) ≡ true
  volumes_rise_with v other = rising-put (λ (v : Volume ℕ). v.number) v d.volumes other volumes_rise

  new_apart : (v : Volume ℕ) → v.number ≡ d.lsn + 1 → list_all (λ (w : Volume ℕ). not (w.number == v.number)) d.volumes ≡ true
  new_apart v number = rw number new_volume_number

  volumes_rise_changed : (n : ℕ) (g : Volume ℕ → Volume ℕ) → ((v : Volume ℕ) → (g v).number ≡ v.number)
      → all_rising (map (λ (v : Volume ℕ). v.number) (first_changed (λ (v : Volume ℕ). v.number == n) g d.volumes)) ≡ true
  volumes_rise_changed n g same =
      ap all_rising (map-changed_same (λ (v : Volume ℕ). v.number) (λ (v : Volume ℕ). v.number == n) g d.volumes (λ v found. same v)) ∙ volumes_rise

  -- the new volume of a clone that ends
  pub clone_number_apart : (t : Task) (c : RunningClone ℕ) → clone_of d t.number ≡ Some c
      → list_all (λ (v : Volume ℕ). not (v.number == c.number)) d.volumes ≡ true
  clone_number_apart t c found =
      let number : c.number ≡ t.number = eqb-true c.number t.number (find-passes (λ (b : RunningClone ℕ). b.number == t.number) d.clones c found) in
      rw number (clone_apart t.number c found)

  form_steps : Steps d (λ e. is_formed e ≡ true)
  unfolding cancelled
  form_steps = record {
    same = form_of _ form_zero containers_rise volumes_rise contexts_rise all_bindings_rise tasks_rise clones_are copies_are;
    container = λ k number offers room. form_of _ (zero_first (d.lsn + 1) k d.containers form_zero)
        (rw (← number) (rising-put (λ (k : Container). k.number) k d.containers (rw number new_container_number) containers_rise))
        volumes_rise contexts_rise all_bindings_rise tasks_rise clones_are copies_are;
    volume = λ v new. form_of _ form_zero containers_rise (volumes_rise_with v (new_apart v new.number)) contexts_rise all_bindings_rise
        tasks_rise clones_are copies_are;
    deleted = λ n free idle. form_of _ form_zero containers_rise
        (rising-removed (λ (v : Volume ℕ). v.number) (λ (v : Volume ℕ). v.number == n) d.volumes volumes_rise) contexts_rise all_bindings_rise
        tasks_rise clones_are copies_are;
    changed = λ n g change. form_of _ form_zero containers_rise (volumes_rise_changed n g change.number) contexts_rise all_bindings_rise
        tasks_rise clones_are copies_are;
    context = λ host endpoints is few. form_of _ form_zero containers_rise volumes_rise (rise_set d.contexts host endpoints contexts_rise)
        all_bindings_rise tasks_rise clones_are copies_are;
    bound = λ host n is stands room. form_of _ form_zero containers_rise volumes_rise contexts_rise
        (rise_bound d.contexts d.bindings host n secondary_from_one all_bindings_rise) tasks_rise clones_are copies_are;
    unbound = λ a. form_of _ form_zero containers_rise volumes_rise contexts_rise (rise_unbound d.bindings a all_bindings_rise)
        tasks_rise clones_are copies_are;
    host_unbound = λ host. form_of _ form_zero containers_rise volumes_rise contexts_rise
        (bindings-filter (λ b. not (is_of_host host b)) d.bindings all_bindings_rise) tasks_rise clones_are copies_are;
    clone_starts = λ n v start. form_of (clone_started (λ s. s) 0 d n v) form_zero containers_rise volumes_rise contexts_rise all_bindings_rise
        (started_rises _ refl)
        (ap (map (λ (c : RunningClone ℕ). c.number))
        (put-last (λ (c : RunningClone ℕ). nat_lt (d.lsn + 1) c.number) (clone_of_volume 0 (d.lsn + 1) v) d.clones
        (list_all-follows (λ (c : RunningClone ℕ). is_logged d.lsn c.number) (λ (c : RunningClone ℕ). not (nat_lt (d.lsn + 1) c.number))
        (λ c e. logged_last d.lsn c.number e) d.clones clones_logged))
        ∙ map-append (λ (c : RunningClone ℕ). c.number) d.clones (clone_of_volume 0 (d.lsn + 1) v ∷ [])
        ∙ ap (λ ns. ns ++ (d.lsn + 1) ∷ []) clones_are
        ∙ sym (started_picked runs_clone _ refl stopped_no_clone))
        (copies_are ∙ sym (started_picked runs_copy _ refl stopped_no_copy ∙ append-nil (running_copies d.tasks)));
    copy_starts = λ source base target ps stands few. form_of (copy_started d (Copy source base target) ps) form_zero containers_rise volumes_rise
        contexts_rise all_bindings_rise (started_rises _ refl)
        (clones_are ∙ sym (started_picked runs_clone _ refl stopped_no_clone ∙ append-nil (running_clones d.tasks)))
        (ap (map (λ (c : RunningCopy ℕ). c.number))
        (put-last (λ (c : RunningCopy ℕ). nat_lt (d.lsn + 1) c.number) (record { number = d.lsn + 1; pieces = ps }) d.copies
        (list_all-follows (λ (c : RunningCopy ℕ). is_logged d.lsn c.number) (λ (c : RunningCopy ℕ). not (nat_lt (d.lsn + 1) c.number))
        (λ c e. logged_last d.lsn c.number e) d.copies copies_logged))
        ∙ map-append (λ (c : RunningCopy ℕ). c.number) d.copies (record { number = d.lsn + 1; pieces = ps } ∷ [])
        ∙ ap (λ ns. ns ++ (d.lsn + 1) ∷ []) copies_are
        ∙ sym (started_picked runs_copy _ refl stopped_no_copy));
    clone_turns = λ t k source c target turning job found long last. form_of (clone_goes_on d t k target) form_zero containers_rise volumes_rise
        contexts_rise all_bindings_rise (advanced_rises t k turning)
        (map-changed_same (λ (c : RunningClone ℕ). c.number) (λ (c : RunningClone ℕ). c.number == t.number) (λ c. record c { target = target }) d.clones (λ c at. refl)
        ∙ clones_are ∙ sym (advanced_same runs_clone t k turning (goes_on is_clone t k turning last)))
        (copies_are ∙ sym (advanced_same runs_copy t k turning (goes_on (λ j. not (is_clone j)) t k turning last)));
    clone_done = λ t k source c target turning job found long last. form_of (clone_ends d t k source c target) form_zero containers_rise
        (volumes_rise_with (cloned_volume c source target) (clone_number_apart t c found))
        contexts_rise all_bindings_rise (advanced_rises t k turning)
        (clones_without t.number ∙ sym (advanced_out runs_clone t k (ends is_clone t k last)))
        (copies_are ∙ sym (advanced_same runs_copy t k turning (none_before (λ j. not (is_clone j)) t k (ap (λ j. not (is_clone j)) job))));
    copy_turns = λ t source base target turning job last. form_of (copy_goes_on d t) form_zero containers_rise volumes_rise
        contexts_rise all_bindings_rise (advanced_rises t (next_piece t) turning)
        (clones_are ∙ sym (advanced_same runs_clone t (next_piece t) turning (goes_on is_clone t (next_piece t) turning last)))
        (copies_are ∙ sym (advanced_same runs_copy t (next_piece t) turning (goes_on (λ j. not (is_clone j)) t (next_piece t) turning last)));
    copy_done = λ t source base target c turning job found last. form_of (copy_ends d t target c) form_zero containers_rise
        (volumes_rise_changed target (λ v. record v { chunks = pieces_put c.pieces v.chunks }) (λ v. refl))
        contexts_rise all_bindings_rise (advanced_rises t (next_piece t) turning)
        (clones_are ∙ sym (advanced_same runs_clone t (next_piece t) turning (none_before is_clone t (next_piece t) (ap is_clone job))))
        (copies_without t.number ∙ sym (advanced_out runs_copy t (next_piece t) (ends (λ j. not (is_clone j)) t (next_piece t) last)));
    cancels = λ n. form_of _ form_zero containers_rise volumes_rise contexts_rise all_bindings_rise
        (ap all_rising (map-changed_same (λ (t : Task). t.number) (λ (t : Task). t.number == n) (λ t. record t { state = Cancelled }) d.tasks (λ t at. refl)) ∙ tasks_rise)
        (clones_without n ∙ sym (picked-after (λ (t : Task). t.number) runs_clone n (λ t. record t { state = Cancelled }) d.tasks tasks_rise (λ t at. refl)))
        (copies_without n ∙ sym (picked-after (λ (t : Task). t.number) runs_copy n (λ t. record t { state = Cancelled }) d.tasks tasks_rise (λ t at. refl)));
  }

pub form_stays : (misfit : Option Misfit) → (d : Durable ℕ) → (change : Change) → keeps_shape_rules d ≡ true
    → has_its_fields change ≡ true → judge misfit d change ≡ Accept → is_formed (apply_shape d change) ≡ true
unfolding apply_shape apply is_formed
form_stays misfit d change rules fields accepted =
    let kept : Kept d = kept d rules in
    by_steps d kept (λ e. is_formed e ≡ true) (form_steps d kept) misfit _ change fields accepted
