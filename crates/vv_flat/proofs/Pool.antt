-- What is used and reserved stays within the pool.
use Rattle.std.proofs.Common.{◌≡◌, ◌≤◌, ℕ, ◌+◌, ◌-◌, ◌==◌, ◌&&◌, not, refl, ap, sym, ◌∙◌, Bool, true, false, cond, List, [], ◌∷◌, ◌++◌, map, length, replicate, take, drop, arith, length-take, length-drop}
use Rattle.std.specs.Prelude.{Option, Some, None, nat_lt, nat_le, sum_by, min}
use Rattle.std.specs.List.{list_all, filter}
use Rattle.std.proofs.lemmas.List.{length-map}
use Rattle.std.proofs.lemmas.List.Sums.{sum_by-cons}
use Rattle.std.proofs.lemmas.Bool.{eqb-true}
use Rattle.vv_units.specs.declared.volume.TaskState.TheVariants.{Running, Success, Cancelled}
use Rattle.vv_units.specs.declared.volume.VolumeKind.TheVariants.{Plain, SnapshotOf, FastCloneOf}
use Rattle.vv_flat.specs.Lists.{if_found, put_before, first_removed, put_at, indexes_from}
use Rattle.vv_flat.specs.State.{Durable, Volume, RunningClone, RunningCopy, Piece, Task, Job, Clone, Copy, indexed, all_pieces, volume_of, clone_of, copy_of, task_of}
use Rattle.vv_flat.specs.Chunks.{touched_indexes, unmapped_in}
use Rattle.vv_flat.specs.Space.{used, reserved, free, is_running, is_running_state, is_clone, allocated_count}
use Rattle.vv_flat.specs.Bits.{allocated_indexes, is_unshared}
use Rattle.vv_flat.specs.Tasks.{turned, job_turned, turned_indexes, job_indexes, clone_turned, clone_goes_on, clone_ends, copy_turned, copy_ends, copy_goes_on, pieces_put, cancelled, with_clone, with_copy, clone_started, copy_started, clone_of_volume, cloned_volume, difference, is_last, advanced, with_task, with_room, started, record_limit, turn_indexes, turn_limit, next_piece}
use Rattle.vv_flat.specs.Profiles.{Misfit}
use Rattle.vv_flat.specs.Refusals.{Accept}
use Rattle.vv_flat.specs.Rules.{clones_rule, is_clone_kept}
use Rattle.vv_flat.specs.Changes.{Change, MakeContainer, MakeVolume, DeleteVolume, GrowVolume, SetMetadata, Snapshot, FastClone, Revert, Write, Unmap, SetEndpoints, Bind, Unbind, UnbindAll, StartClone, StartCopy, Turn, Cancel, allocated_of, judge, room_checks, with_volume, and_volume, effect, apply, apply_shape, changed_indexes, new_stamp}
use Rattle.vv_flat.proofs.MapLists.{map-same}
use Rattle.vv_flat.proofs.Sums.{sum-put, sum-removed, sum-changed, sum-changed_found}
use Rattle.vv_flat.proofs.Verdicts.{passed_room, within_pool}
use Rattle.vv_flat.proofs.Steps.{find-passes}
use Rattle.vv_flat.proofs.Shares.{and_left, and_right, and_both}
use Rattle.vv_flat.proofs.Distinct.{is_some_piece, is_known, used_within}
use Rattle.vv_flat.proofs.Known.{AllKnown, by_kind, of_kinds, all-put, all-removed, all-changed, all-found, all-filter, known-replicate, known-append, known-put_at, known-unmapped, known-pieces_put, new_pieces, new_of, weaker_all, new_known, before_known}

-- what a task has still to reserve
abbrev pub still : Task → ℕ
still t = cond (is_running t && is_clone t.job) (t.total - t.done) 0

module _ (d : Durable ℕ) where
  abbrev known_with : List (Piece ℕ) → List (Piece ℕ)
  known_with ns = ns ++ filter is_some_piece (all_pieces d)

  base : (ns : List (Piece ℕ)) → AllKnown (known_with ns) d
  base ns = by_kind (known_with ns) d (weaker_all ns (filter is_some_piece (all_pieces d)) (all_pieces d) (before_known (all_pieces d)))

  grown : (e : Durable ℕ) (ns : List (Piece ℕ)) → AllKnown (known_with ns) e → used e ≤ length ns + used d
  grown e ns k = used_within d e ns (of_kinds (known_with ns) e k)

  volume_known : (ns : List (Piece ℕ)) (n : ℕ) (v : Volume ℕ) → volume_of d n ≡ Some v → list_all (is_known (known_with ns)) (indexed v.chunks) ≡ true
  volume_known ns n v e =
      all-found (λ (w : Volume ℕ). list_all (is_known (known_with ns)) (indexed w.chunks)) (λ w. w.number == n) v d.volumes (base ns).volumes e

  with_known : (ns : List (Piece ℕ)) (n : ℕ) (g : Volume ℕ → Volume ℕ)
      → ((v : Volume ℕ) → list_all (is_known (known_with ns)) (indexed v.chunks) ≡ true → list_all (is_known (known_with ns)) (indexed (g v).chunks) ≡ true)
      → used (with_volume d n g) ≤ length ns + used d
  with_known ns n g h =
      grown (with_volume d n g) ns (record {
        volumes = all-changed (λ (w : Volume ℕ). list_all (is_known (known_with ns)) (indexed w.chunks)) (λ w. w.number == n) g d.volumes
            (base ns).volumes (λ v found. h v);
        clones = (base ns).clones;
        copies = (base ns).copies;
      })

  and_known : (v : Volume ℕ) → list_all (is_known (known_with [])) (indexed v.chunks) ≡ true → used (and_volume d v) ≤ used d
  and_known v h =
      let g : used (and_volume d v) ≤ length {A = Piece ℕ} [] + used d =
      grown (and_volume d v) [] (record {
        volumes = all-put (λ (w : Volume ℕ). list_all (is_known (known_with [])) (indexed w.chunks)) (λ w. nat_lt v.number w.number) v d.volumes h
            (base []).volumes;
        clones = (base []).clones;
        copies = (base []).copies;
      }) in
      omega (arith, g)

  -- the pool holds it
  Holds : Durable ℕ → Type 0
  Holds e = used e + reserved e ≤ d.geometry.pool_chunks

  holds : (e : Durable ℕ) → used e ≤ used d → reserved e ≤ reserved d → used d + reserved d ≤ d.geometry.pool_chunks → Holds e
  unfolding Holds
  holds e u r h = omega (arith, u, r, h)

  found_holds : {A : Type 0} (o : Option A) (h : A → Durable ℕ) → ((x : A) → o ≡ Some x → Holds (h x)) → Holds d → Holds (if_found o h d)
  found_holds None h there here = here
  found_holds (Some x) h there here = there x refl

  either_holds : (b : Bool) (x y : Durable ℕ) → (b ≡ true → Holds x) → (b ≡ false → Holds y) → Holds (cond b x y)
  either_holds true x y h k = h refl
  either_holds false x y h k = k refl

  same_reserved_with : (n : ℕ) (g : Volume ℕ → Volume ℕ) → reserved (with_volume d n g) ≡ reserved d
  unfolding reserved
  same_reserved_with n g = refl

  same_reserved_and : (v : Volume ℕ) → reserved (and_volume d v) ≡ reserved d
  unfolding reserved
  same_reserved_and v = refl

  room_reserved : sum_by still (with_room d.tasks) ≤ reserved d
  unfolding reserved
  room_reserved = go (nat_le record_limit (length d.tasks))
    where
      go : (b : Bool) → sum_by still (cond b (first_removed (λ t. not (is_running t)) d.tasks) d.tasks) ≤ sum_by still d.tasks
      go true = sum-removed still (λ t. not (is_running t)) d.tasks
      go false = omega arith

  started_reserved : (t : Task) → sum_by still (started d.tasks t) ≤ still t + reserved d
  started_reserved t =
      let s : sum_by still (put_before (λ (u : Task). nat_lt t.number u.number) t (with_room d.tasks)) ≡ still t + sum_by still (with_room d.tasks) =
      sum-put still (λ u. nat_lt t.number u.number) t (with_room d.tasks) in
      let r = room_reserved in
      omega (arith, s, r)

-- the allocated indexes are as many as the allocated chunks
pub allocated_long : (i : ℕ) (xs : List ℕ) → length (indexes_from (λ i s. not (s == 0)) i xs) ≡ allocated_count xs
allocated_long i [] = refl
allocated_long i (x ∷ xs) =
    let c : allocated_count (x ∷ xs) ≡ cond (not (x == 0)) 1 0 + allocated_count xs = sum_by-cons (λ s. cond (not (s == 0)) 1 0) x xs in
    go (not (x == 0)) (allocated_long (i + 1) xs) ∙ sym c
  where
    go : (b : Bool) → length (indexes_from (λ i s. not (s == 0)) (i + 1) xs) ≡ allocated_count xs
        → length (cond b (i ∷ indexes_from (λ i s. not (s == 0)) (i + 1) xs) (indexes_from (λ i s. not (s == 0)) (i + 1) xs)) ≡ cond b 1 0 + allocated_count xs
    go true e = omega (arith, e)
    go false e = omega (arith, e)

-- a turn copies no more than is left
pub turn_long : (image : List ℕ) (done : ℕ) → length (turn_indexes image done) ≤ allocated_count image - done
turn_long image done =
    let a : length (allocated_indexes image) ≡ allocated_count image = allocated_long 0 image in
    let t : length (take turn_limit (drop done (allocated_indexes image))) ≡ min turn_limit (length (drop done (allocated_indexes image))) =
    length-take turn_limit (drop done (allocated_indexes image)) in
    let l : length (drop done (allocated_indexes image)) ≡ length (allocated_indexes image) - done = length-drop done (allocated_indexes image) in
    omega (arith, a, t, l)

module _ (d : Durable ℕ) where
  cloned_holds : (n : ℕ) (v : Volume ℕ) → volume_of d n ≡ Some v → allocated_count v.chunks ≤ free d
      → used d + reserved d ≤ d.geometry.pool_chunks → Holds d (clone_started (λ s. s) 0 d n v)
  unfolding Holds free
  cloned_holds n v found fits h =
      let ids : map (λ (s : ℕ). s) v.chunks ≡ v.chunks = map-same (λ s. s) (λ s. refl) v.chunks in
      let t : Task = record { number = d.lsn + 1; job = Clone n; state = Running; done = 0; total = allocated_count (map (λ s. s) v.chunks) } in
      let k = volume_known d [] n v found in
      let u : used (clone_started (λ s. s) 0 d n v) ≤ length {A = Piece ℕ} [] + used d =
      grown d (clone_started (λ s. s) 0 d n v) [] (record {
        volumes = (base d []).volumes;
        clones = all-put (λ (c : RunningClone ℕ). list_all (is_known (known_with d [])) (indexed c.image) && list_all (is_known (known_with d [])) (indexed c.target))
            (λ c. nat_lt (d.lsn + 1) c.number) (clone_of_volume 0 (d.lsn + 1) v) d.clones
            (and_both (list_all (is_known (known_with d [])) (indexed v.chunks)) _ k (known-replicate (known_with d []) 0 (length v.chunks)))
            (base d []).clones;
        copies = (base d []).copies;
      }) in
      let r : reserved (clone_started (λ s. s) 0 d n v) ≤ still t + reserved d = unfold reserved in (started_reserved d t) in
      let z : still t ≡ allocated_count v.chunks = ap (λ xs. allocated_count xs - 0) ids ∙ omega arith in
      omega (arith, u, r, z, fits, h)

  copied_reserved : (job : Job) (ps : List (Piece ℕ))
      → reserved (copy_started d job ps) ≤ still (record { number = d.lsn + 1; job = job; state = Running; done = 0; total = length ps }) + reserved d
  unfolding reserved
  copied_reserved job ps = started_reserved d (record { number = d.lsn + 1; job = job; state = Running; done = 0; total = length ps })

  copied_holds : (job : Job) (ps : List (Piece ℕ)) → is_clone job ≡ false → list_all (is_known (known_with d [])) ps ≡ true
      → used d + reserved d ≤ d.geometry.pool_chunks → Holds d (copy_started d job ps)
  unfolding Holds
  copied_holds job ps copy k h =
      let t : Task = record { number = d.lsn + 1; job = job; state = Running; done = 0; total = length ps } in
      let u : used (copy_started d job ps) ≤ length {A = Piece ℕ} [] + used d =
      grown d (copy_started d job ps) [] (record {
        volumes = (base d []).volumes;
        clones = (base d []).clones;
        copies = all-put (λ (c : RunningCopy ℕ). list_all (is_known (known_with d [])) c.pieces) (λ c. nat_lt (d.lsn + 1) c.number)
            (record { number = d.lsn + 1; pieces = ps }) d.copies k (base d []).copies;
      }) in
      let r : reserved (copy_started d job ps) ≤ still t + reserved d = copied_reserved job ps in
      let z : still t ≡ 0 = ap (λ b. cond b (length ps - 0) 0) copy in
      omega (arith, u, r, z, h)

  cancelled_holds : (n : ℕ) → used d + reserved d ≤ d.geometry.pool_chunks → Holds d (cancelled d n)
  unfolding Holds cancelled
  cancelled_holds n h =
      let u : used (cancelled d n) ≤ length {A = Piece ℕ} [] + used d =
      grown d (cancelled d n) [] (record {
        volumes = (base d []).volumes;
        clones = all-removed (λ (c : RunningClone ℕ). list_all (is_known (known_with d [])) (indexed c.image) && list_all (is_known (known_with d [])) (indexed c.target))
            (λ c. c.number == n) d.clones (base d []).clones;
        copies = all-removed (λ (c : RunningCopy ℕ). list_all (is_known (known_with d [])) c.pieces) (λ c. c.number == n) d.copies (base d []).copies;
      }) in
      let r : reserved (cancelled d n) ≤ reserved d + 0 =
      unfold reserved in (sum-changed still (λ t. t.number == n) (λ t. record t { state = Cancelled }) 0 d.tasks (λ t found. omega arith)) in
      omega (arith, u, r, h)

  deleted_holds : (n : ℕ) → used d + reserved d ≤ d.geometry.pool_chunks → Holds d (record d { volumes = first_removed (λ v. v.number == n) d.volumes })
  unfolding Holds
  deleted_holds n h =
      let u : used (record d { volumes = first_removed (λ (v : Volume ℕ). v.number == n) d.volumes }) ≤ length {A = Piece ℕ} [] + used d =
      grown d (record d { volumes = first_removed (λ v. v.number == n) d.volumes }) [] (record {
        volumes = all-removed (λ (w : Volume ℕ). list_all (is_known (known_with d [])) (indexed w.chunks)) (λ w. w.number == n) d.volumes (base d []).volumes;
        clones = (base d []).clones;
        copies = (base d []).copies;
      }) in
      let r : reserved (record d { volumes = first_removed (λ (v : Volume ℕ). v.number == n) d.volumes }) ≤ reserved d = unfold reserved in (omega arith) in
      omega (arith, u, r, h)

  -- the record of a task after so many more are done
  task_reserved : (t : Task) (n : ℕ) → task_of d t.number ≡ Some t
      → sum_by still (with_task d.tasks (advanced t n)) + still t ≡ reserved d + still (advanced t n)
  unfolding reserved
  task_reserved t n found = sum-changed_found still (λ u. u.number == t.number) (λ _. advanced t n) t d.tasks found

  -- a running clone's record still reserves so many less
  less_reserved : (t : Task) (n : ℕ) → is_running t ≡ true → is_clone t.job ≡ true → n ≤ t.total - t.done
      → still (advanced t n) + n ≤ still t
  less_reserved t n running clone few =
      let z : still t ≡ t.total - t.done = ap (λ b. cond (b && is_clone t.job) (t.total - t.done) 0) running
      ∙ ap (λ b. cond b (t.total - t.done) 0) clone in
      let y : still (advanced t n) ≤ t.total - (t.done + n) = go (is_last t n) in
      omega (arith, z, y, few)
    where
      small : (b : Bool) (k : ℕ) → cond b k 0 ≤ k
      small true k = omega arith
      small false k = omega arith

      go : (b : Bool) → cond (is_running_state (cond b Success Running) && is_clone t.job) (t.total - (t.done + n)) 0 ≤ t.total - (t.done + n)
      go b = small (is_running_state (cond b Success Running) && is_clone t.job) (t.total - (t.done + n))

  -- a copy's record reserves nothing
  none_reserved : (t : Task) (n : ℕ) → is_clone t.job ≡ false → still (advanced t n) ≤ still t
  none_reserved t n copy =
      let y : still (advanced t n) ≡ 0 = go (is_running (advanced t n)) in omega (arith, y)
    where
      go : (b : Bool) → cond (b && is_clone t.job) (t.total - (t.done + n)) 0 ≡ 0
      go true = ap (λ b. cond b (t.total - (t.done + n)) 0) copy
      go false = refl

  clone_parts : (ns : List (Piece ℕ)) (m : ℕ) (c : RunningClone ℕ) → clone_of d m ≡ Some c
      → (list_all (is_known (known_with d ns)) (indexed c.image) && list_all (is_known (known_with d ns)) (indexed c.target)) ≡ true
  clone_parts ns m c e =
      all-found (λ (b : RunningClone ℕ). list_all (is_known (known_with d ns)) (indexed b.image) && list_all (is_known (known_with d ns)) (indexed b.target))
      (λ b. b.number == m) c d.clones (base d ns).clones e

  target_known : (is : List ℕ) (stamp m : ℕ) (c : RunningClone ℕ) → clone_of d m ≡ Some c
      → list_all (is_known (known_with d (new_pieces is stamp))) (indexed (put_at is (map (λ _. stamp) is) c.target)) ≡ true
  target_known is stamp m c e =
      known-put_at (known_with d (new_pieces is stamp)) is (map (λ _. stamp) is) c.target
      (rw (new_of is stamp) (new_known (new_pieces is stamp) (filter is_some_piece (all_pieces d))))
      (and_right (list_all (is_known (known_with d (new_pieces is stamp))) (indexed c.image)) _ (clone_parts (new_pieces is stamp) m c e))

  going_on_holds : (t : Task) (is : List ℕ) (stamp : ℕ) (c : RunningClone ℕ) → task_of d t.number ≡ Some t → clone_of d t.number ≡ Some c
      → is_running t ≡ true → is_clone t.job ≡ true → length is ≤ t.total - t.done → used d + reserved d ≤ d.geometry.pool_chunks
      → Holds d (clone_goes_on d t (length is) (put_at is (map (λ _. stamp) is) c.target))
  unfolding Holds
  going_on_holds t is stamp c found e running clone few h =
      let target : List ℕ = put_at is (map (λ _. stamp) is) c.target in
      let ns = new_pieces is stamp in
      let u : used (clone_goes_on d t (length is) target) ≤ length ns + used d =
      grown d (clone_goes_on d t (length is) target) ns (record {
        volumes = (base d ns).volumes;
        clones = all-changed (λ (b : RunningClone ℕ). list_all (is_known (known_with d ns)) (indexed b.image) && list_all (is_known (known_with d ns)) (indexed b.target))
            (λ b. b.number == t.number) (λ b. record b { target = target }) d.clones (base d ns).clones
            (λ b at k. and_both (list_all (is_known (known_with d ns)) (indexed b.image)) (list_all (is_known (known_with d ns)) (indexed target))
            (and_left (list_all (is_known (known_with d ns)) (indexed b.image)) (list_all (is_known (known_with d ns)) (indexed b.target)) k)
            (target_known is stamp t.number c e));
        copies = (base d ns).copies;
      }) in
      let l : length ns ≡ length is = length-map is (λ i. record { index = i; chunk = stamp }) in
      let r : reserved (clone_goes_on d t (length is) target) + still t ≡ reserved d + still (advanced t (length is)) =
      unfold reserved in (task_reserved t (length is) found) in
      let s = less_reserved t (length is) running clone few in
      omega (arith, u, l, r, s, h)

  ending_holds : (t : Task) (source : ℕ) (is : List ℕ) (stamp : ℕ) (c : RunningClone ℕ) → task_of d t.number ≡ Some t → clone_of d t.number ≡ Some c
      → is_running t ≡ true → is_clone t.job ≡ true → length is ≤ t.total - t.done → used d + reserved d ≤ d.geometry.pool_chunks
      → Holds d (clone_ends d t (length is) source c (put_at is (map (λ _. stamp) is) c.target))
  unfolding Holds
  ending_holds t source is stamp c found e running clone few h =
      let target : List ℕ = put_at is (map (λ _. stamp) is) c.target in
      let ns = new_pieces is stamp in
      let u : used (clone_ends d t (length is) source c target) ≤ length ns + used d =
      grown d (clone_ends d t (length is) source c target) ns (record {
        volumes = all-put (λ (w : Volume ℕ). list_all (is_known (known_with d ns)) (indexed w.chunks)) (λ w. nat_lt c.number w.number)
            (cloned_volume c source target) d.volumes (target_known is stamp t.number c e) (base d ns).volumes;
        clones = all-removed (λ (b : RunningClone ℕ). list_all (is_known (known_with d ns)) (indexed b.image) && list_all (is_known (known_with d ns)) (indexed b.target))
            (λ b. b.number == t.number) d.clones (base d ns).clones;
        copies = (base d ns).copies;
      }) in
      let l : length ns ≡ length is = length-map is (λ i. record { index = i; chunk = stamp }) in
      let r : reserved (clone_ends d t (length is) source c target) + still t ≡ reserved d + still (advanced t (length is)) =
      unfold reserved in (task_reserved t (length is) found) in
      let s = less_reserved t (length is) running clone few in
      omega (arith, u, l, r, s, h)

  copy_ending_holds : (t : Task) (target : ℕ) (c : RunningCopy ℕ) → task_of d t.number ≡ Some t → copy_of d t.number ≡ Some c
      → is_clone t.job ≡ false → used d + reserved d ≤ d.geometry.pool_chunks → Holds d (copy_ends d t target c)
  unfolding Holds
  copy_ending_holds t target c found e copy h =
      let u : used (copy_ends d t target c) ≤ length {A = Piece ℕ} [] + used d =
      grown d (copy_ends d t target c) [] (record {
        volumes = all-changed (λ (w : Volume ℕ). list_all (is_known (known_with d [])) (indexed w.chunks)) (λ w. w.number == target)
            (λ w. record w { chunks = pieces_put c.pieces w.chunks }) d.volumes (base d []).volumes
            (λ w at k. known-pieces_put (known_with d []) c.pieces w.chunks
            (all-found (λ (b : RunningCopy ℕ). list_all (is_known (known_with d [])) b.pieces) (λ b. b.number == t.number) c d.copies (base d []).copies e) k);
        clones = (base d []).clones;
        copies = all-removed (λ (b : RunningCopy ℕ). list_all (is_known (known_with d [])) b.pieces) (λ b. b.number == t.number) d.copies (base d []).copies;
      }) in
      let r : reserved (copy_ends d t target c) + still t ≡ reserved d + still (advanced t (next_piece t)) =
      unfold reserved in (task_reserved t (next_piece t) found) in
      let s = none_reserved t (next_piece t) copy in
      omega (arith, u, r, s, h)

  copy_going_on_holds : (t : Task) → task_of d t.number ≡ Some t → is_clone t.job ≡ false → used d + reserved d ≤ d.geometry.pool_chunks
      → Holds d (copy_goes_on d t)
  unfolding Holds
  copy_going_on_holds t found copy h =
      let u : used (copy_goes_on d t) ≤ used d = unfold used in (omega arith) in
      let r : reserved (copy_goes_on d t) + still t ≡ reserved d + still (advanced t (next_piece t)) =
      unfold reserved in (task_reserved t (next_piece t) found) in
      let s = none_reserved t (next_piece t) copy in
      omega (arith, u, r, s, h)

  -- what the rule on running clones says of the one of a task
  pub is_kept : (t : Task) (c : RunningClone ℕ) → clones_rule d ≡ true → task_of d t.number ≡ Some t → clone_of d t.number ≡ Some c
      → is_clone_kept c t ≡ true
  unfolding clones_rule
  is_kept t c rule found e =
      let kept : if_found (task_of d c.number) (is_clone_kept c) false ≡ true =
      all-found (λ (b : RunningClone ℕ). if_found (task_of d b.number) (is_clone_kept b) false) (λ b. b.number == t.number) c d.clones rule e in
      let number : c.number ≡ t.number = eqb-true c.number t.number (find-passes (λ (b : RunningClone ℕ). b.number == t.number) d.clones c e) in
      let task : task_of d c.number ≡ Some t = ap (λ m. task_of d m) number ∙ found in
      sym (ap (λ o. if_found o (is_clone_kept c) false) task) ∙ kept

  kept_total : (t : Task) (c : RunningClone ℕ) → clones_rule d ≡ true → task_of d t.number ≡ Some t → clone_of d t.number ≡ Some c
      → t.total ≡ allocated_count c.image
  kept_total t c rule found e =
      eqb-true t.total (allocated_count c.image)
      (and_left (t.total == allocated_count c.image) _ (and_left _ _ (and_left _ _ (is_kept t c rule found e))))

  clone_turn_holds : (n : ℕ) (t : Task) (source : ℕ) → clones_rule d ≡ true → task_of d t.number ≡ Some t → is_running t ≡ true
      → is_clone t.job ≡ true → used d + reserved d ≤ d.geometry.pool_chunks → (o : Option (RunningClone ℕ)) → clone_of d t.number ≡ o
      → Holds d (if_found o (clone_turned (λ s. s) (map (λ _. n) (if_found o (λ (c : RunningClone ℕ). turn_indexes (map (λ s. s) c.image) t.done) [])) d t source) d)
  clone_turn_holds n t source rule found running clone h None e = unfold Holds in h
  clone_turn_holds n t source rule found running clone h (Some c) e =
      let is : List ℕ = turn_indexes (map (λ s. s) c.image) t.done in
      let ids : map (λ (s : ℕ). s) c.image ≡ c.image = map-same (λ s. s) (λ s. refl) c.image in
      let total : t.total ≡ allocated_count c.image = kept_total t c rule found e in
      let long : length is ≤ allocated_count (map (λ s. s) c.image) - t.done = turn_long (map (λ s. s) c.image) t.done in
      let same : allocated_count (map (λ s. s) c.image) ≡ allocated_count c.image = ap allocated_count ids in
      let few : length is ≤ t.total - t.done = omega (arith, long, same, total) in
      either_holds d (is_last t (length is)) (clone_ends d t (length is) source c (put_at is (map (λ _. n) is) c.target))
      (clone_goes_on d t (length is) (put_at is (map (λ _. n) is) c.target))
      (λ b. ending_holds t source is n c found e running clone few h)
      (λ b. going_on_holds t is n c found e running clone few h)

  copy_turn_holds : (t : Task) (target : ℕ) → task_of d t.number ≡ Some t → is_clone t.job ≡ false → used d + reserved d ≤ d.geometry.pool_chunks
      → (o : Option (RunningCopy ℕ)) → copy_of d t.number ≡ o → Holds d (if_found o (copy_turned d t target) d)
  copy_turn_holds t target found copy h None e = unfold Holds in h
  copy_turn_holds t target found copy h (Some c) e =
      either_holds d (is_last t (next_piece t)) (copy_ends d t target c) (copy_goes_on d t)
      (λ b. copy_ending_holds t target c found e copy h) (λ b. copy_going_on_holds t found copy h)

  job_holds : (n : ℕ) (t : Task) → clones_rule d ≡ true → task_of d t.number ≡ Some t → is_running t ≡ true
      → used d + reserved d ≤ d.geometry.pool_chunks → (job : Job) → t.job ≡ job
      → Holds d (job_turned (λ s. s) (map (λ _. n) (job_indexes (λ s. s) d t job)) d t job)
  job_holds n t rule found running h (Clone source) e =
      clone_turn_holds n t source rule found running (ap is_clone e) h (clone_of d t.number) refl
  job_holds n t rule found running h (Copy source base target) e =
      copy_turn_holds t target found (ap is_clone e) h (copy_of d t.number) refl

  turn_holds : (n : ℕ) → clones_rule d ≡ true → used d + reserved d ≤ d.geometry.pool_chunks
      → Holds d (turned (λ s. s) (map (λ _. n) (turned_indexes (λ s. s) d n)) d n)
  unfolding turned turned_indexes
  turn_holds n rule h = go (task_of d n) refl
    where
      run : (t : Task) → task_of d t.number ≡ Some t → (b : Bool) → is_running t ≡ b
          → Holds d (cond b (job_turned (λ s. s) (map (λ _. n) (cond b (job_indexes (λ s. s) d t t.job) [])) d t t.job) d)
      run t found true running = job_holds n t rule found running h t.job refl
      run t found false running = unfold Holds in h

      go : (o : Option Task) → task_of d n ≡ o
          → Holds d (if_found o (λ t. cond (is_running t) (job_turned (λ s. s) (map (λ _. n) (if_found o (λ t. cond (is_running t) (job_indexes (λ s. s) d t t.job) []) [])) d t t.job) d) d)
      go None e = unfold Holds in h
      go (Some t) e =
          let number : t.number ≡ n = eqb-true t.number n (find-passes (λ (u : Task). u.number == n) d.tasks t e) in
          let found : task_of d t.number ≡ Some t = ap (λ m. task_of d m) number ∙ e in
          run t found (is_running t) refl

  volume_holds : (n : ℕ) (g : Volume ℕ → Volume ℕ)
      → ((v : Volume ℕ) → list_all (is_known (known_with d [])) (indexed v.chunks) ≡ true → list_all (is_known (known_with d [])) (indexed (g v).chunks) ≡ true)
      → used d + reserved d ≤ d.geometry.pool_chunks → Holds d (with_volume d n g)
  volume_holds n g k h =
      let u : used (with_volume d n g) ≤ length {A = Piece ℕ} [] + used d = with_known d [] n g k in
      let r : reserved (with_volume d n g) ≡ reserved d = same_reserved_with d n g in
      holds d (with_volume d n g) (omega (arith, u)) (omega (arith, r)) h

  new_volume_holds : (v : Volume ℕ) → list_all (is_known (known_with d [])) (indexed v.chunks) ≡ true
      → used d + reserved d ≤ d.geometry.pool_chunks → Holds d (and_volume d v)
  new_volume_holds v k h =
      let r : reserved (and_volume d v) ≡ reserved d = same_reserved_and d v in
      holds d (and_volume d v) (and_known d v k) (omega (arith, r)) h

  write_holds : (n : ℕ) (is : List ℕ) (stamp : ℕ) → length is ≤ free d → used d + reserved d ≤ d.geometry.pool_chunks
      → Holds d (with_volume d n (λ v. record v { chunks = put_at is (map (λ _. stamp) is) v.chunks }))
  unfolding Holds free
  write_holds n is stamp fits h =
      let ns : List (Piece ℕ) = new_pieces is stamp in
      let u : used (with_volume d n (λ v. record v { chunks = put_at is (map (λ _. stamp) is) v.chunks })) ≤ length ns + used d =
      with_known d ns n (λ v. record v { chunks = put_at is (map (λ _. stamp) is) v.chunks })
      (λ v k. known-put_at (known_with d ns) is (map (λ _. stamp) is) v.chunks
      (rw (new_of is stamp) (new_known ns (filter is_some_piece (all_pieces d)))) k) in
      let l : length ns ≡ length is = length-map is (λ i. record { index = i; chunk = stamp }) in
      let r : reserved (with_volume d n (λ v. record v { chunks = put_at is (map (λ _. stamp) is) v.chunks })) ≡ reserved d =
      same_reserved_with d n (λ v. record v { chunks = put_at is (map (λ _. stamp) is) v.chunks }) in
      omega (arith, u, l, r, fits, h)

stamps_are : (d : Durable ℕ) (n : ℕ) (v : Volume ℕ) → volume_of d n ≡ Some v → allocated_of d n ≡ allocated_count v.chunks
stamps_are d n v e = ap (λ o. allocated_count (if_found o (λ (w : Volume ℕ). w.chunks) [])) e

-- An accepted change leaves the pool large enough.
pool_holds : (misfit : Option Misfit) (d : Durable ℕ) (c : Change) → clones_rule d ≡ true → judge misfit d c ≡ Accept
    → used d + reserved d ≤ d.geometry.pool_chunks
    → Holds d (effect (λ s. s) (map (λ _. new_stamp d c) (changed_indexes (λ s. s) d c)) 0 d c)
unfolding effect room_checks with_clone with_copy changed_indexes
pool_holds misfit d (MakeContainer quota offers) rule e h = unfold Holds used reserved in h
pool_holds misfit d (MakeVolume k vtype chunks needs) rule e h =
    new_volume_holds d (record { number = d.lsn + 1; container = k; vtype = vtype; kind = Plain; reverted = 0; needs = needs; metadata = []; chunks = replicate chunks 0 })
    (known-replicate (known_with d []) 0 chunks) h
pool_holds misfit d (DeleteVolume n) rule e h = deleted_holds d n h
pool_holds misfit d (GrowVolume n chunks) rule e h =
    volume_holds d n (λ v. record v { chunks = v.chunks ++ replicate (chunks - length v.chunks) 0 })
    (λ v k. known-append (known_with d []) 0 (chunks - length v.chunks) v.chunks k) h
pool_holds misfit d (SetMetadata n key text) rule e h = volume_holds d n _ (λ v k. k) h
pool_holds misfit d (Snapshot n) rule e h =
    found_holds d (volume_of d n) (λ v. and_volume d (record v { number = d.lsn + 1; kind = SnapshotOf (record { 0 = n }) }))
    (λ v found. new_volume_holds d (record v { number = d.lsn + 1; kind = SnapshotOf (record { 0 = n }) }) (volume_known d [] n v found) h) (unfold Holds in h)
pool_holds misfit d (FastClone n) rule e h =
    found_holds d (volume_of d n) (λ v. and_volume d (record v { number = d.lsn + 1; kind = FastCloneOf (record { 0 = n }) }))
    (λ v found. new_volume_holds d (record v { number = d.lsn + 1; kind = FastCloneOf (record { 0 = n }) }) (volume_known d [] n v found) h) (unfold Holds in h)
pool_holds misfit d (Revert n snapshot) rule e h =
    found_holds d (volume_of d snapshot) (λ s. with_volume d n (λ v. record v { chunks = s.chunks; reverted = d.lsn + 1 }))
    (λ s found. volume_holds d n (λ v. record v { chunks = s.chunks; reverted = d.lsn + 1 }) (λ v k. volume_known d [] snapshot s found) h) (unfold Holds in h)
pool_holds misfit d (Write n first blocks) rule e h =
    write_holds d n (touched_indexes d.geometry.chunk_blocks first blocks) (d.lsn + 1)
    (within_pool d (length (touched_indexes d.geometry.chunk_blocks first blocks)) (passed_room misfit d (Write n first blocks) e 2)) h
pool_holds misfit d (Unmap n ranges) rule e h =
    volume_holds d n (λ v. record v { chunks = unmapped_in (λ s. s) 0 ranges v.chunks }) (λ v k. known-unmapped (known_with d []) ranges 0 v.chunks k) h
pool_holds misfit d (SetEndpoints host endpoints) rule e h = unfold Holds used reserved in h
pool_holds misfit d (Bind host n) rule e h = unfold Holds used reserved in h
pool_holds misfit d (Unbind host endpoint secondary) rule e h = unfold Holds used reserved in h
pool_holds misfit d (UnbindAll host) rule e h = unfold Holds used reserved in h
pool_holds misfit d (StartClone n) rule e h =
    let fits : allocated_of d n ≤ free d = within_pool d (allocated_of d n) (passed_room misfit d (StartClone n) e 5) in
    found_holds d (volume_of d n) (clone_started (λ s. s) 0 d n)
    (λ v found. let z : allocated_of d n ≡ allocated_count v.chunks = stamps_are d n v found in
    cloned_holds d n v found (omega (arith, fits, z)) h) (unfold Holds in h)
pool_holds misfit d (StartCopy source base target) rule e h =
    found_holds d (volume_of d source) (λ v. if_found (volume_of d base)
    (λ w. copy_started d (Copy source base target) (difference (λ s. s) v.chunks w.chunks)) d)
    (λ v found. found_holds d (volume_of d base) (λ w. copy_started d (Copy source base target) (difference (λ s. s) v.chunks w.chunks))
    (λ w at. copied_holds d (Copy source base target) (difference (λ s. s) v.chunks w.chunks) refl
    (all-filter (is_known (known_with d [])) (λ p. is_unshared (map (λ s. s) w.chunks) p.index p.chunk) (indexed v.chunks)
    (volume_known d [] source v found)) h) (unfold Holds in h)) (unfold Holds in h)
pool_holds misfit d (Turn n) rule e h = turn_holds d n rule h
pool_holds misfit d (Cancel n) rule e h = cancelled_holds d n h

pub pool_stays : (misfit : Option Misfit) (d : Durable ℕ) (c : Change) → clones_rule d ≡ true → judge misfit d c ≡ Accept
    → used d + reserved d ≤ d.geometry.pool_chunks → used (apply_shape d c) + reserved (apply_shape d c) ≤ d.geometry.pool_chunks
unfolding apply_shape apply used reserved Holds
pool_stays misfit d c rule e h = pool_holds misfit d c rule e h
