-- An accepted change passes no limit, and leaves volumes and images of whole MB. The law the_rules_of_the_shape_stay rests
-- on these.
use Rattle.std.proofs.Common.{◌≡◌, ◌≤◌, ◌<◌, ℕ, ◌+◌, ◌-◌, ◌==◌, ◌&&◌, not, refl, ap, ◌∙◌, Bool, true, false, cond, List, map, length, arith}
use Rattle.std.specs.Prelude.{Option, Some, None, is_some, nat_lt, nat_le, sum_by, count_by}
use Rattle.std.specs.List.{find, filter, list_all}
use Rattle.std.proofs.lemmas.Bool.{le-leb, leb-true, eqb-true}
use Rattle.vv_flat.specs.Lists.{if_found, first_changed, put_before, first_removed}
use Rattle.vv_flat.specs.State.{Container, Volume, Context, Address, Binding, Task, RunningClone, Piece, Durable, volume_of, clone_of}
use Rattle.vv_flat.specs.Space.{entries, is_running, volume_count, pair_count, running_count, is_volume_size}
use Rattle.vv_flat.specs.Bindings.{is_address, is_below, was_set, with_context, is_binding_of, binding_of, new_address, with_binding, count_left, without_binding, is_of_host, without_host}
use Rattle.vv_flat.specs.Tasks.{record_limit, running_limit, with_room, started, with_task, advanced, next_piece, cloned_volume, without_clone, clone_of_volume, pieces_put, cancelled}
use Rattle.vv_flat.specs.Profiles.{Misfit}
use Rattle.vv_flat.specs.Refusals.{Accept, pairs_limit, too_many}
use Rattle.vv_flat.specs.Rules.{endpoint_limit, offer_limit, need_limit, is_host, limits_rule, sizes_rule, keeps_shape_rules, has_its_fields}
use Rattle.vv_flat.specs.Changes.{Change, volume_limit, container_limit, binding_limit, bind_count_limit, key_limit, judge, apply, apply_shape, changed_indexes, new_stamp}
use Rattle.vv_units.specs.declared.volume.Need.{Need}
use Rattle.vv_units.specs.declared.volume.TaskState.TheVariants.{Cancelled}
use Rattle.vv_units.specs.declared.field.Field.TheVariants.{Binding as in_binding, Count as in_count}
use Rattle.vv_flat.proofs.Shares.{and_left, and_right, and_both}
use Rattle.vv_flat.proofs.Sums.{sum-put, sum-removed, sum-changed, sum-removed_found}
use Rattle.vv_flat.proofs.Known.{all-put, all-removed, all-changed, all-found, all-filter}
use Rattle.vv_flat.proofs.Entries.{length-put_at, within_limit}
use Rattle.vv_flat.proofs.Pool.{is_kept}
use Rattle.vv_flat.proofs.KeepLists.{length-put, length-removed, length-removed_found, length-changed, length-filter_le, others-removed}
use Rattle.vv_flat.proofs.Kept.{Kept, kept}
use Rattle.vv_flat.proofs.KeepSteps.{StartedClone, Turning, Steps, few, below_limit, one_or_none, by_steps}

-- The sizes.

module _ (d : Durable ℕ) (kept : Kept d) where
  abbrev has_size : Volume ℕ → Bool
  has_size v = is_volume_size d.geometry.chunk_blocks (length v.chunks)

  abbrev has_image_size : RunningClone ℕ → Bool
  has_image_size c = is_volume_size d.geometry.chunk_blocks (length c.image)

  volumes_sized : list_all has_size d.volumes ≡ true
  unfolding sizes_rule
  volumes_sized = and_left _ _ kept.sizes

  clones_sized : list_all has_image_size d.clones ≡ true
  unfolding sizes_rule
  clones_sized = and_right _ _ kept.sizes

  target_sized : (t : Task) (c : RunningClone ℕ) (target : List ℕ) → Turning d t → clone_of d t.number ≡ Some c
      → length target ≡ length c.target → is_volume_size d.geometry.chunk_blocks (length target) ≡ true
  target_sized t c target turning found long =
      let same : length c.target ≡ length c.image =
      eqb-true (length c.target) (length c.image)
      (and_right _ _ (and_left _ _ (and_left _ _ (is_kept d t c kept.clones turning.found found)))) in
      let image : has_image_size c ≡ true =
      all-found has_image_size (λ (b : RunningClone ℕ). b.number == t.number) c d.clones clones_sized found in
      ap (λ n. is_volume_size d.geometry.chunk_blocks n) (long ∙ same) ∙ image

  size_steps : Steps d (λ e. sizes_rule e ≡ true)
  unfolding sizes_rule cancelled
  size_steps = record {
    same = and_both _ _ volumes_sized clones_sized;
    container = λ k number offers room. and_both _ _ volumes_sized clones_sized;
    volume = λ v new. and_both _ _
        (all-put has_size (λ (w : Volume ℕ). nat_lt v.number w.number) v d.volumes new.size volumes_sized) clones_sized;
    deleted = λ n free idle. and_both _ _ (all-removed has_size (λ (v : Volume ℕ). v.number == n) d.volumes volumes_sized) clones_sized;
    changed = λ n g change. and_both _ _
        (all-changed has_size (λ (v : Volume ℕ). v.number == n) g d.volumes volumes_sized (λ v found e. change.size v found)) clones_sized;
    context = λ host endpoints is few. and_both _ _ volumes_sized clones_sized;
    bound = λ host n is stands room. and_both _ _ volumes_sized clones_sized;
    unbound = λ a. and_both _ _ volumes_sized clones_sized;
    host_unbound = λ host. and_both _ _ volumes_sized clones_sized;
    clone_starts = λ n v start. and_both _ _ volumes_sized
        (all-put has_image_size (λ (c : RunningClone ℕ). nat_lt (d.lsn + 1) c.number) (clone_of_volume 0 (d.lsn + 1) v) d.clones
        (all-found has_size (λ (v : Volume ℕ). v.number == n) v d.volumes volumes_sized start.found) clones_sized);
    copy_starts = λ source base target ps stands few. and_both _ _ volumes_sized clones_sized;
    clone_turns = λ t k source c target turning job found long last. and_both _ _ volumes_sized
        (all-changed has_image_size (λ (b : RunningClone ℕ). b.number == t.number) (λ b. record b { target = target }) d.clones clones_sized
        (λ b at e. e));
    clone_done = λ t k source c target turning job found long last. and_both _ _
        (all-put has_size (λ (w : Volume ℕ). nat_lt c.number w.number) (cloned_volume c source target) d.volumes
        (target_sized t c target turning found long) volumes_sized)
        (all-removed has_image_size (λ (b : RunningClone ℕ). b.number == t.number) d.clones clones_sized);
    copy_turns = λ t source base target turning job last. and_both _ _ volumes_sized clones_sized;
    copy_done = λ t source base target c turning job found last. and_both _ _
        (all-changed has_size (λ (v : Volume ℕ). v.number == target) (λ v. record v { chunks = pieces_put c.pieces v.chunks }) d.volumes volumes_sized
        (λ v at e. ap (λ n. is_volume_size d.geometry.chunk_blocks n)
        (length-put_at (map (λ (p : Piece ℕ). p.index) c.pieces) (map (λ (p : Piece ℕ). p.chunk) c.pieces) v.chunks)
        ∙ e)) clones_sized;
    cancels = λ n. and_both _ _ volumes_sized (all-removed has_image_size (λ (c : RunningClone ℕ). c.number == n) d.clones clones_sized);
  }

pub sizes_stay : (misfit : Option Misfit) → (d : Durable ℕ) → (change : Change) → keeps_shape_rules d ≡ true
    → has_its_fields change ≡ true → judge misfit d change ≡ Accept → sizes_rule (apply_shape d change) ≡ true
unfolding apply_shape apply sizes_rule
sizes_stay misfit d change rules fields accepted =
    let kept : Kept d = kept d rules in
    by_steps d kept (λ e. sizes_rule e ≡ true) (size_steps d kept) misfit _ change fields accepted

-- The limits, list by list.

record LimitedVolumes (vs : List (Volume ℕ)) (cs : List (RunningClone ℕ)) : Type 0 where
  count : length vs + length cs ≤ volume_limit
  pairs : sum_by (λ (v : Volume ℕ). length v.metadata) vs + sum_by (λ (c : RunningClone ℕ). length c.metadata) cs ≤ pairs_limit
  volumes : list_all (λ (v : Volume ℕ). nat_le (length v.needs) need_limit && nat_le (length v.metadata) key_limit) vs ≡ true
  clones : list_all (λ (c : RunningClone ℕ). nat_le (length c.needs) need_limit && nat_le (length c.metadata) key_limit) cs ≡ true

record LimitedContainers (ks : List Container) : Type 0 where
  count : length ks ≤ container_limit
  offers : list_all (λ (k : Container). nat_le (length k.offers) offer_limit) ks ≡ true

record LimitedBindings (bs : List Binding) : Type 0 where
  count : length bs ≤ binding_limit
  each : list_all (λ (b : Binding). is_host b.address.host && nat_le b.count bind_count_limit) bs ≡ true

record LimitedTasks (ts : List Task) : Type 0 where
  running : count_by is_running ts ≤ running_limit
  count : length ts ≤ record_limit

abbrev contexts_limited : List Context → Bool
contexts_limited cs = list_all (λ (c : Context). is_host c.host && nat_le (length c.endpoints) endpoint_limit) cs

limits_of : (e : Durable ℕ) → LimitedVolumes e.volumes e.clones → LimitedContainers e.containers → contexts_limited e.contexts ≡ true
    → LimitedBindings e.bindings → LimitedTasks e.tasks → entries e ≤ e.geometry.map_chunks → limits_rule e ≡ true
unfolding limits_rule
limits_of e volumes containers contexts bindings tasks few =
    and_both _ _ (and_both _ _ (and_both _ _ (and_both _ _ (and_both _ _ (and_both _ _ (and_both _ _ (and_both _ _ (and_both _ _ (and_both _ _ (and_both _ _
    (le-leb (volume_count e) volume_limit volumes.count)
    (le-leb (length e.containers) container_limit containers.count))
    (le-leb (length e.bindings) binding_limit bindings.count))
    (le-leb (running_count e) running_limit tasks.running))
    (le-leb (length e.tasks) record_limit tasks.count))
    (le-leb (pair_count e) pairs_limit volumes.pairs))
    (le-leb (entries e) e.geometry.map_chunks few))
    containers.offers)
    volumes.volumes)
    volumes.clones)
    contexts)
    bindings.each

-- the count of running tasks, and of records
room_limited : (ts : List Task) → LimitedTasks ts → (count_by is_running (with_room ts) ≤ count_by is_running ts) × (length (with_room ts) + 1 ≤ record_limit)
room_limited ts limited = of_room (nat_le record_limit (length ts)) refl
  where
    of_room : (b : Bool) → nat_le record_limit (length ts) ≡ b
        → (count_by is_running (cond b (first_removed (λ (t : Task). not (is_running t)) ts) ts) ≤ count_by is_running ts)
        × (length (cond b (first_removed (λ (t : Task). not (is_running t)) ts) ts) + 1 ≤ record_limit)
    of_room true is = (
      sum-removed (λ (t : Task). cond (is_running t) 1 0) (λ (t : Task). not (is_running t)) ts,
      (let full : record_limit ≤ length ts = leb-true record_limit (length ts) is in
          let few : count_by is_running ts ≤ running_limit = limited.running in
          let most : length ts ≤ record_limit = limited.count in
          let l : length (first_removed (λ (t : Task). not (is_running t)) ts) + 1 ≡ length ts =
          others-removed is_running ts (omega (arith, full, few)) in
          omega (arith, l, most)),
    )
    of_room false is = (omega arith, (let l : length ts < record_limit = below_limit record_limit (length ts) is in omega (arith, l)))

tasks_started : (ts : List Task) (t : Task) → LimitedTasks ts → count_by is_running ts < running_limit → LimitedTasks (started ts t)
tasks_started ts t limited few =
    let room = room_limited ts limited in
    let s : count_by is_running (put_before (λ (u : Task). nat_lt t.number u.number) t (with_room ts)) ≡ cond (is_running t) 1 0 + count_by is_running (with_room ts) =
    sum-put (λ (t : Task). cond (is_running t) 1 0) (λ (u : Task). nat_lt t.number u.number) t (with_room ts) in
    let o : cond (is_running t) 1 0 ≤ 1 = one_or_none (is_running t) in
    let r : count_by is_running (with_room ts) ≤ count_by is_running ts = room.0 in
    let l : length (put_before (λ (u : Task). nat_lt t.number u.number) t (with_room ts)) ≡ length (with_room ts) + 1 =
    length-put (λ (u : Task). nat_lt t.number u.number) t (with_room ts) in
    let m : length (with_room ts) + 1 ≤ record_limit = room.1 in
    record { running = omega (arith, s, o, r, few); count = omega (arith, l, m) }

tasks_changed : (ts : List Task) (p : Task → Bool) (g : Task → Task) → LimitedTasks ts
    → ((t : Task) → find p ts ≡ Some t → cond (is_running (g t)) 1 0 ≤ cond (is_running t) 1 0 + 0) → LimitedTasks (first_changed p g ts)
tasks_changed ts p g limited fewer =
    let s : count_by is_running (first_changed p g ts) ≤ count_by is_running ts + 0 = sum-changed (λ (t : Task). cond (is_running t) 1 0) p g 0 ts fewer in
    let r : count_by is_running ts ≤ running_limit = limited.running in
    let l : length (first_changed p g ts) ≡ length ts = length-changed p g ts in
    let c : length ts ≤ record_limit = limited.count in
    record { running = omega (arith, s, r); count = omega (arith, l, c) }

-- a binding more, one less, or one whose count changes
bindings_bound : (contexts : List Context) (bs : List Binding) (host n : ℕ) → is_host host ≡ true → LimitedBindings bs
    → if_found (binding_of bs host n) (λ (b : Binding). too_many b.count bind_count_limit in_count) (too_many (length bs) binding_limit in_binding) ≡ None
    → LimitedBindings (with_binding contexts bs host n)
unfolding with_binding
bindings_bound contexts bs host n is limited room = of_found (binding_of bs host n) refl room
  where
    of_found : (o : Option Binding) → binding_of bs host n ≡ o
        → if_found o (λ (b : Binding). too_many b.count bind_count_limit in_count) (too_many (length bs) binding_limit in_binding) ≡ None
        → LimitedBindings (cond (is_some o) (first_changed (is_binding_of host n) (λ b. record b { count = b.count + 1 }) bs)
        (put_before (λ (b : Binding). is_below (new_address contexts bs host) b.address) (record { address = new_address contexts bs host; volume = n; count = 1 }) bs))
    of_found None e room =
        let l : length (put_before (λ (b : Binding). is_below (new_address contexts bs host) b.address) (record { address = new_address contexts bs host; volume = n; count = 1 }) bs) ≡ length bs + 1 =
        length-put (λ (b : Binding). is_below (new_address contexts bs host) b.address) (record { address = new_address contexts bs host; volume = n; count = 1 }) bs in
        let f : length bs < binding_limit = few (length bs) binding_limit in_binding room in
        record {
          count = omega (arith, l, f);
          each = all-put (λ (b : Binding). is_host b.address.host && nat_le b.count bind_count_limit)
              (λ (b : Binding). is_below (new_address contexts bs host) b.address) (record { address = new_address contexts bs host; volume = n; count = 1 }) bs
              (and_both (is_host host) true is refl) limited.each;
        }
    of_found (Some b) e room =
        let f : b.count < bind_count_limit = few b.count bind_count_limit in_count room in
        let l : length (first_changed (is_binding_of host n) (λ b. record b { count = b.count + 1 }) bs) ≡ length bs =
        length-changed (is_binding_of host n) (λ b. record b { count = b.count + 1 }) bs in
        let c : length bs ≤ binding_limit = limited.count in
        record {
          count = omega (arith, l, c);
          each = all-changed (λ (b : Binding). is_host b.address.host && nat_le b.count bind_count_limit) (is_binding_of host n)
              (λ b. record b { count = b.count + 1 }) bs limited.each
              (λ x found h. let same : ◌≡◌ {A = Binding} b x = cc in
              let g : x.count < bind_count_limit = rw same at f in
              and_both (is_host x.address.host) (nat_le (x.count + 1) bind_count_limit) (and_left (is_host x.address.host) _ h)
              (le-leb (x.count + 1) bind_count_limit (omega (arith, g))));
        }

bindings_unbound : (bs : List Binding) (a : Address) → LimitedBindings bs → LimitedBindings (without_binding bs a)
unfolding without_binding
bindings_unbound bs a limited = of_count (count_left bs a == 0)
  where
    of_count : (b : Bool)
        → LimitedBindings (cond b (first_removed (λ (b : Binding). is_address b.address a) bs)
        (first_changed (λ (b : Binding). is_address b.address a) (λ b. record b { count = b.count - 1 }) bs))
    of_count true =
        let l : length (first_removed (λ (b : Binding). is_address b.address a) bs) ≤ length bs = length-removed (λ (b : Binding). is_address b.address a) bs in
        let c : length bs ≤ binding_limit = limited.count in
        record {
          count = omega (arith, l, c);
          each = all-removed (λ (b : Binding). is_host b.address.host && nat_le b.count bind_count_limit) (λ (b : Binding). is_address b.address a) bs limited.each;
        }
    of_count false =
        let l : length (first_changed (λ (b : Binding). is_address b.address a) (λ b. record b { count = b.count - 1 }) bs) ≡ length bs =
        length-changed (λ (b : Binding). is_address b.address a) (λ b. record b { count = b.count - 1 }) bs in
        let c : length bs ≤ binding_limit = limited.count in
        record {
          count = omega (arith, l, c);
          each = all-changed (λ (b : Binding). is_host b.address.host && nat_le b.count bind_count_limit) (λ (b : Binding). is_address b.address a)
              (λ b. record b { count = b.count - 1 }) bs limited.each
              (λ x found h. let g : x.count ≤ bind_count_limit = leb-true x.count bind_count_limit (and_right (is_host x.address.host) _ h) in
              and_both (is_host x.address.host) (nat_le (x.count - 1) bind_count_limit) (and_left (is_host x.address.host) _ h)
              (le-leb (x.count - 1) bind_count_limit (omega (arith, g))));
        }

host_unbound : (bs : List Binding) (host : ℕ) → LimitedBindings bs → LimitedBindings (without_host bs host)
host_unbound bs host limited =
    let l : length (filter (λ b. not (is_of_host host b)) bs) ≤ length bs = length-filter_le (λ b. not (is_of_host host b)) bs in
    let c : length bs ≤ binding_limit = limited.count in
    record {
      count = omega (arith, l, c);
      each = all-filter (λ (b : Binding). is_host b.address.host && nat_le b.count bind_count_limit) (λ b. not (is_of_host host b)) bs limited.each;
    }

contexts_set : (cs : List Context) (host : ℕ) (endpoints : List ℕ) → is_host host ≡ true → nat_le (length endpoints) endpoint_limit ≡ true
    → contexts_limited cs ≡ true → contexts_limited (with_context cs host endpoints) ≡ true
contexts_set cs host endpoints is few limited = of_set (was_set cs host)
  where
    of_set : (b : Bool)
        → contexts_limited (cond b (first_changed (λ (c : Context). c.host == host) (λ c. record c { endpoints = endpoints }) cs)
        (put_before (λ (c : Context). nat_lt host c.host) (record { host = host; endpoints = endpoints }) cs)) ≡ true
    of_set true =
        all-changed (λ (c : Context). is_host c.host && nat_le (length c.endpoints) endpoint_limit) (λ (c : Context). c.host == host)
        (λ c. record c { endpoints = endpoints }) cs limited
        (λ c found h. and_both (is_host c.host) (nat_le (length endpoints) endpoint_limit) (and_left (is_host c.host) _ h) few)
    of_set false =
        all-put (λ (c : Context). is_host c.host && nat_le (length c.endpoints) endpoint_limit) (λ (c : Context). nat_lt host c.host)
        (record { host = host; endpoints = endpoints }) cs (and_both (is_host host) (nat_le (length endpoints) endpoint_limit) is few) limited

module _ (d : Durable ℕ) (kept : Kept d) where
  abbrev is_limited : Volume ℕ → Bool
  is_limited v = nat_le (length v.needs) need_limit && nat_le (length v.metadata) key_limit

  abbrev is_clone_limited : RunningClone ℕ → Bool
  is_clone_limited c = nat_le (length c.needs) need_limit && nat_le (length c.metadata) key_limit

  volumes : LimitedVolumes d.volumes d.clones
  unfolding limits_rule
  volumes = record {
    count = leb-true (volume_count d) volume_limit
        (and_left _ _ (and_left _ _ (and_left _ _ (and_left _ _ (and_left _ _ (and_left _ _ (and_left _ _ (and_left _ _ (and_left _ _ (and_left _ _ (and_left _ _ kept.limits)))))))))));
    pairs = leb-true (pair_count d) pairs_limit
        (and_right _ _ (and_left _ _ (and_left _ _ (and_left _ _ (and_left _ _ (and_left _ _ (and_left _ _ kept.limits)))))));
    volumes = and_right _ _ (and_left _ _ (and_left _ _ (and_left _ _ kept.limits)));
    clones = and_right _ _ (and_left _ _ (and_left _ _ kept.limits));
  }

  containers : LimitedContainers d.containers
  unfolding limits_rule
  containers = record {
    count = leb-true (length d.containers) container_limit
        (and_right _ _ (and_left _ _ (and_left _ _ (and_left _ _ (and_left _ _ (and_left _ _ (and_left _ _ (and_left _ _ (and_left _ _ (and_left _ _ (and_left _ _ kept.limits)))))))))));
    offers = and_right _ _ (and_left _ _ (and_left _ _ (and_left _ _ (and_left _ _ kept.limits))));
  }

  contexts : contexts_limited d.contexts ≡ true
  unfolding limits_rule
  contexts = and_right _ _ (and_left _ _ kept.limits)

  bindings : LimitedBindings d.bindings
  unfolding limits_rule
  bindings = record {
    count = leb-true (length d.bindings) binding_limit
        (and_right _ _ (and_left _ _ (and_left _ _ (and_left _ _ (and_left _ _ (and_left _ _ (and_left _ _ (and_left _ _ (and_left _ _ (and_left _ _ kept.limits))))))))));
    each = and_right _ _ kept.limits;
  }

  tasks : LimitedTasks d.tasks
  unfolding limits_rule
  tasks = record {
    running = leb-true (running_count d) running_limit
        (and_right _ _ (and_left _ _ (and_left _ _ (and_left _ _ (and_left _ _ (and_left _ _ (and_left _ _ (and_left _ _ (and_left _ _ kept.limits)))))))));
    count = leb-true (length d.tasks) record_limit
        (and_right _ _ (and_left _ _ (and_left _ _ (and_left _ _ (and_left _ _ (and_left _ _ (and_left _ _ (and_left _ _ kept.limits))))))));
  }

  entries_limited : entries d ≤ d.geometry.map_chunks
  unfolding limits_rule
  entries_limited =
      leb-true (entries d) d.geometry.map_chunks
      (and_right _ _ (and_left _ _ (and_left _ _ (and_left _ _ (and_left _ _ (and_left _ _ kept.limits))))))

  tasks_advanced : (t : Task) (n : ℕ) → Turning d t → LimitedTasks (with_task d.tasks (advanced t n))
  tasks_advanced t n turning =
      tasks_changed d.tasks (λ (u : Task). u.number == t.number) (λ _. advanced t n) tasks
      (λ u at. let same : ◌≡◌ {A = Task} t u = let f = turning.found in cc in
      let runs : is_running u ≡ true = rw same at turning.runs in
      let one : ◌≡◌ {A = ℕ} (cond (is_running u) 1 0) 1 = ap (λ b. cond b 1 0) runs in
      let most : cond (is_running (advanced t n)) 1 0 ≤ 1 = one_or_none (is_running (advanced t n)) in
      omega (arith, one, most))

  volumes_more : (v : Volume ℕ) → length d.volumes + length d.clones < volume_limit
      → sum_by (λ (v : Volume ℕ). length v.metadata) d.volumes + sum_by (λ (c : RunningClone ℕ). length c.metadata) d.clones + length v.metadata ≤ pairs_limit
      → is_limited v ≡ true → LimitedVolumes (put_before (λ (w : Volume ℕ). nat_lt v.number w.number) v d.volumes) d.clones
  volumes_more v room pairs is =
      let l : length (put_before (λ (w : Volume ℕ). nat_lt v.number w.number) v d.volumes) ≡ length d.volumes + 1 =
      length-put (λ (w : Volume ℕ). nat_lt v.number w.number) v d.volumes in
      let s : sum_by (λ (v : Volume ℕ). length v.metadata) (put_before (λ (w : Volume ℕ). nat_lt v.number w.number) v d.volumes)
      ≡ length v.metadata + sum_by (λ (v : Volume ℕ). length v.metadata) d.volumes =
      sum-put (λ (v : Volume ℕ). length v.metadata) (λ (w : Volume ℕ). nat_lt v.number w.number) v d.volumes in
      record {
        count = omega (arith, l, room);
        pairs = omega (arith, s, pairs);
        volumes = all-put is_limited (λ (w : Volume ℕ). nat_lt v.number w.number) v d.volumes is volumes.volumes;
        clones = volumes.clones;
      }

  volumes_fewer : (n : ℕ) → LimitedVolumes (first_removed (λ (v : Volume ℕ). v.number == n) d.volumes) d.clones
  volumes_fewer n =
      let l : length (first_removed (λ (v : Volume ℕ). v.number == n) d.volumes) ≤ length d.volumes = length-removed (λ (v : Volume ℕ). v.number == n) d.volumes in
      let s : sum_by (λ (v : Volume ℕ). length v.metadata) (first_removed (λ (v : Volume ℕ). v.number == n) d.volumes) ≤ sum_by (λ (v : Volume ℕ). length v.metadata) d.volumes =
      sum-removed (λ (v : Volume ℕ). length v.metadata) (λ (v : Volume ℕ). v.number == n) d.volumes in
      let c = volumes.count in
      let p = volumes.pairs in
      record {
        count = omega (arith, l, c);
        pairs = omega (arith, s, p);
        volumes = all-removed is_limited (λ (v : Volume ℕ). v.number == n) d.volumes volumes.volumes;
        clones = volumes.clones;
      }

  volumes_changed : (n : ℕ) (g : Volume ℕ → Volume ℕ) (added : ℕ) → ((v : Volume ℕ) → (g v).needs ≡ v.needs)
      → ((v : Volume ℕ) → volume_of d n ≡ Some v → length (g v).metadata ≤ length v.metadata + added)
      → sum_by (λ (v : Volume ℕ). length v.metadata) d.volumes + sum_by (λ (c : RunningClone ℕ). length c.metadata) d.clones + added ≤ pairs_limit
      → ((v : Volume ℕ) → volume_of d n ≡ Some v → nat_le (length (g v).metadata) key_limit ≡ true)
      → LimitedVolumes (first_changed (λ (v : Volume ℕ). v.number == n) g d.volumes) d.clones
  volumes_changed n g added needs more pairs keys =
      let l : length (first_changed (λ (v : Volume ℕ). v.number == n) g d.volumes) ≡ length d.volumes = length-changed (λ (v : Volume ℕ). v.number == n) g d.volumes in
      let s : sum_by (λ (v : Volume ℕ). length v.metadata) (first_changed (λ (v : Volume ℕ). v.number == n) g d.volumes) ≤ sum_by (λ (v : Volume ℕ). length v.metadata) d.volumes + added =
      sum-changed (λ (v : Volume ℕ). length v.metadata) (λ (v : Volume ℕ). v.number == n) g added d.volumes more in
      let c = volumes.count in
      record {
        count = omega (arith, l, c);
        pairs = omega (arith, s, pairs);
        volumes = all-changed is_limited (λ (v : Volume ℕ). v.number == n) g d.volumes volumes.volumes
            (λ v found h. and_both (nat_le (length (g v).needs) need_limit) (nat_le (length (g v).metadata) key_limit)
            (ap (λ (ns : List Need). nat_le (length ns) need_limit) (needs v) ∙ and_left (nat_le (length v.needs) need_limit) _ h) (keys v found));
        clones = volumes.clones;
      }

  clone_more : (n : ℕ) (v : Volume ℕ) → StartedClone d n v
      → LimitedVolumes d.volumes (put_before (λ (c : RunningClone ℕ). nat_lt (d.lsn + 1) c.number) (clone_of_volume 0 (d.lsn + 1) v) d.clones)
  clone_more n v start =
      let l : length (put_before (λ (c : RunningClone ℕ). nat_lt (d.lsn + 1) c.number) (clone_of_volume 0 (d.lsn + 1) v) d.clones) ≡ length d.clones + 1 =
      length-put (λ (c : RunningClone ℕ). nat_lt (d.lsn + 1) c.number) (clone_of_volume 0 (d.lsn + 1) v) d.clones in
      let s : sum_by (λ (c : RunningClone ℕ). length c.metadata) (put_before (λ (c : RunningClone ℕ). nat_lt (d.lsn + 1) c.number) (clone_of_volume 0 (d.lsn + 1) v) d.clones)
      ≡ length v.metadata + sum_by (λ (c : RunningClone ℕ). length c.metadata) d.clones =
      sum-put (λ (c : RunningClone ℕ). length c.metadata) (λ (c : RunningClone ℕ). nat_lt (d.lsn + 1) c.number) (clone_of_volume 0 (d.lsn + 1) v) d.clones in
      let room : length d.volumes + length d.clones < volume_limit = start.room in
      let pairs : sum_by (λ (v : Volume ℕ). length v.metadata) d.volumes + sum_by (λ (c : RunningClone ℕ). length c.metadata) d.clones + length v.metadata ≤ pairs_limit = start.pairs in
      record {
        count = omega (arith, l, room);
        pairs = omega (arith, s, pairs);
        volumes = volumes.volumes;
        clones = all-put is_clone_limited (λ (c : RunningClone ℕ). nat_lt (d.lsn + 1) c.number) (clone_of_volume 0 (d.lsn + 1) v) d.clones
            (all-found is_limited (λ (v : Volume ℕ). v.number == n) v d.volumes volumes.volumes start.found) volumes.clones;
      }

  clone_fewer : (n : ℕ) → LimitedVolumes d.volumes (without_clone n d.clones)
  clone_fewer n =
      let l : length (first_removed (λ (c : RunningClone ℕ). c.number == n) d.clones) ≤ length d.clones = length-removed (λ (c : RunningClone ℕ). c.number == n) d.clones in
      let s : sum_by (λ (c : RunningClone ℕ). length c.metadata) (first_removed (λ (c : RunningClone ℕ). c.number == n) d.clones) ≤ sum_by (λ (c : RunningClone ℕ). length c.metadata) d.clones =
      sum-removed (λ (c : RunningClone ℕ). length c.metadata) (λ (c : RunningClone ℕ). c.number == n) d.clones in
      let c = volumes.count in
      let p = volumes.pairs in
      record {
        count = omega (arith, l, c);
        pairs = omega (arith, s, p);
        volumes = volumes.volumes;
        clones = all-removed is_clone_limited (λ (c : RunningClone ℕ). c.number == n) d.clones volumes.clones;
      }

  clone_same : (n : ℕ) (target : List ℕ)
      → LimitedVolumes d.volumes (first_changed (λ (b : RunningClone ℕ). b.number == n) (λ b. record b { target = target }) d.clones)
  clone_same n target =
      let l : length (first_changed (λ (b : RunningClone ℕ). b.number == n) (λ b. record b { target = target }) d.clones) ≡ length d.clones =
      length-changed (λ (b : RunningClone ℕ). b.number == n) (λ b. record b { target = target }) d.clones in
      let s : sum_by (λ (c : RunningClone ℕ). length c.metadata) (first_changed (λ (b : RunningClone ℕ). b.number == n) (λ b. record b { target = target }) d.clones)
      ≤ sum_by (λ (c : RunningClone ℕ). length c.metadata) d.clones + 0 =
      sum-changed (λ (c : RunningClone ℕ). length c.metadata) (λ (b : RunningClone ℕ). b.number == n) (λ b. record b { target = target }) 0 d.clones (λ b at. omega arith) in
      let c = volumes.count in
      let p = volumes.pairs in
      record {
        count = omega (arith, l, c);
        pairs = omega (arith, s, p);
        volumes = volumes.volumes;
        clones = all-changed is_clone_limited (λ (b : RunningClone ℕ). b.number == n) (λ b. record b { target = target }) d.clones volumes.clones (λ b at e. e);
      }

  -- a clone that becomes a volume
  clone_moved : (t : Task) (source : ℕ) (c : RunningClone ℕ) (target : List ℕ) → clone_of d t.number ≡ Some c
      → LimitedVolumes (put_before (λ (w : Volume ℕ). nat_lt c.number w.number) (cloned_volume c source target) d.volumes) (without_clone t.number d.clones)
  clone_moved t source c target found =
      let l : length (put_before (λ (w : Volume ℕ). nat_lt c.number w.number) (cloned_volume c source target) d.volumes) ≡ length d.volumes + 1 =
      length-put (λ (w : Volume ℕ). nat_lt c.number w.number) (cloned_volume c source target) d.volumes in
      let k : length (first_removed (λ (b : RunningClone ℕ). b.number == t.number) d.clones) + 1 ≡ length d.clones =
      length-removed_found (λ (b : RunningClone ℕ). b.number == t.number) c d.clones found in
      let s : sum_by (λ (v : Volume ℕ). length v.metadata) (put_before (λ (w : Volume ℕ). nat_lt c.number w.number) (cloned_volume c source target) d.volumes)
      ≡ length c.metadata + sum_by (λ (v : Volume ℕ). length v.metadata) d.volumes =
      sum-put (λ (v : Volume ℕ). length v.metadata) (λ (w : Volume ℕ). nat_lt c.number w.number) (cloned_volume c source target) d.volumes in
      let m : sum_by (λ (c : RunningClone ℕ). length c.metadata) (first_removed (λ (b : RunningClone ℕ). b.number == t.number) d.clones) + length c.metadata
      ≡ sum_by (λ (c : RunningClone ℕ). length c.metadata) d.clones =
      sum-removed_found (λ (c : RunningClone ℕ). length c.metadata) (λ (b : RunningClone ℕ). b.number == t.number) c d.clones found in
      let n = volumes.count in
      let p = volumes.pairs in
      record {
        count = omega (arith, l, k, n);
        pairs = omega (arith, s, m, p);
        volumes = all-put is_limited (λ (w : Volume ℕ). nat_lt c.number w.number) (cloned_volume c source target) d.volumes
            (all-found is_clone_limited (λ (b : RunningClone ℕ). b.number == t.number) c d.clones volumes.clones found) volumes.volumes;
        clones = all-removed is_clone_limited (λ (b : RunningClone ℕ). b.number == t.number) d.clones volumes.clones;
      }

  containers_more : (k : Container) → nat_le (length k.offers) offer_limit ≡ true → length d.containers < container_limit
      → LimitedContainers (put_before (λ (j : Container). nat_lt (d.lsn + 1) j.number) k d.containers)
  containers_more k offers room =
      let l : length (put_before (λ (j : Container). nat_lt (d.lsn + 1) j.number) k d.containers) ≡ length d.containers + 1 =
      length-put (λ (j : Container). nat_lt (d.lsn + 1) j.number) k d.containers in
      record {
        count = omega (arith, l, room);
        offers = all-put (λ (k : Container). nat_le (length k.offers) offer_limit) (λ (j : Container). nat_lt (d.lsn + 1) j.number) k d.containers offers containers.offers;
      }

  limit_steps : Steps d (λ e. entries e ≤ d.geometry.map_chunks → limits_rule e ≡ true)
  unfolding cancelled
  limit_steps = record {
    same = λ fit. limits_of _ volumes containers contexts bindings tasks fit;
    container = λ k number offers room fit. limits_of _ volumes (containers_more k offers room) contexts bindings tasks fit;
    volume = λ v new fit. limits_of _
        (volumes_more v new.room new.pairs (and_both _ _ new.needs new.keys)) containers contexts bindings tasks fit;
    deleted = λ n free idle fit. limits_of _ (volumes_fewer n) containers contexts bindings tasks fit;
    changed = λ n g change fit. limits_of _
        (volumes_changed n g change.added change.needs change.more change.pairs change.keys) containers contexts bindings tasks fit;
    context = λ host endpoints is few fit. limits_of _ volumes containers (contexts_set d.contexts host endpoints is few contexts) bindings tasks fit;
    bound = λ host n is stands room fit. limits_of _ volumes containers contexts (bindings_bound d.contexts d.bindings host n is bindings room) tasks fit;
    unbound = λ a fit. limits_of _ volumes containers contexts (bindings_unbound d.bindings a bindings) tasks fit;
    host_unbound = λ host fit. limits_of _ volumes containers contexts (host_unbound d.bindings host bindings) tasks fit;
    clone_starts = λ n v start fit. limits_of _ (clone_more n v start) containers contexts bindings (tasks_started d.tasks _ tasks start.few) fit;
    copy_starts = λ source base target ps stands few fit. limits_of _ volumes containers contexts bindings (tasks_started d.tasks _ tasks few) fit;
    clone_turns = λ t k source c target turning job found long last fit. limits_of _
        (clone_same t.number target) containers contexts bindings (tasks_advanced t k turning) fit;
    clone_done = λ t k source c target turning job found long last fit. limits_of _
        (clone_moved t source c target found) containers contexts bindings (tasks_advanced t k turning) fit;
    copy_turns = λ t source base target turning job last fit. limits_of _
        volumes containers contexts bindings (tasks_advanced t (next_piece t) turning) fit;
    copy_done = λ t source base target c turning job found last fit. limits_of _
        (volumes_changed target (λ v. record v { chunks = pieces_put c.pieces v.chunks }) 0 (λ v. refl) (λ v at. omega arith)
        (let p = volumes.pairs in omega (arith, p))
        (λ v at. and_right _ _ (all-found is_limited (λ (v : Volume ℕ). v.number == target) v d.volumes volumes.volumes at)))
        containers contexts bindings (tasks_advanced t (next_piece t) turning) fit;
    cancels = λ n fit. limits_of _ (clone_fewer n) containers contexts bindings
        (tasks_changed d.tasks (λ (t : Task). t.number == n) (λ t. record t { state = Cancelled }) tasks (λ t at. omega arith)) fit;
  }

pub limits_stay : (misfit : Option Misfit) → (d : Durable ℕ) → (change : Change) → keeps_shape_rules d ≡ true
    → has_its_fields change ≡ true → judge misfit d change ≡ Accept → limits_rule (apply_shape d change) ≡ true
unfolding apply_shape apply limits_rule entries
limits_stay misfit d change rules fields accepted =
    let kept : Kept d = kept d rules in
    let values : List ℕ = map (λ _. new_stamp d change) (changed_indexes (λ s. s) d change) in
    by_steps d kept (λ e. entries e ≤ d.geometry.map_chunks → limits_rule e ≡ true) (limit_steps d kept) misfit values change fields accepted
    (within_limit misfit values d change accepted (entries_limited d kept))
