-- What an accepted change adds to the entries and to the reserved chunks, and what it takes from them.
use Rattle.std.proofs.Common.{◌≡◌, ◌≤◌, ◌<◌, ℕ, ◌+◌, ◌-◌, ◌*◌, ◌/◌, ◌==◌, ◌&&◌, not, refl, ap, sym, ◌∙◌, Bool, true, false, cond, List, [], ◌++◌, map, length, replicate, drop, arith, length-take, length-drop, ◌∷◌, ◌||◌}
use Rattle.std.specs.Prelude.{Option, Some, None, is_none, nat_lt, nat_le, sum_by, is_some}
use Rattle.std.specs.List.{find, filter, list_any}
use Rattle.vv_flat.proofs.KeepTasks.{found-any}
use Rattle.vv_flat.proofs.Charges.{formed_clones}
use Rattle.std.proofs.lemmas.List.{length-append, length-replicate}
use Rattle.std.proofs.lemmas.Bool.{eqb-true}
use Rattle.std.proofs.lemmas.Bool.Decides.{nat_tests}
use Rattle.std.proofs.lemmas.Nat.{div_below, le-div}
use Rattle.std.proofs.Math.Nat.{add-mul, div-mul-le_self, lt-div-mul-add}
use Rattle.vv_units.specs.Sizes.{is_chunk_size}
use Rattle.vv_units.specs.declared.volume.TaskState.TheVariants.{Running, Success, Cancelled}
use Rattle.vv_units.specs.declared.volume.VolumeKind.TheVariants.{Plain, SnapshotOf, FastCloneOf}
use Rattle.vv_units.specs.declared.field.Field.TheVariants.{Vvol as in_vvol, Snapshot as in_snapshot, Source as in_source, Base as in_base}
use Rattle.vv_flat.specs.Lists.{if_found, first_changed, first_removed, put_at, numbers_from}
use Rattle.vv_flat.specs.State.{Durable, Volume, RunningClone, RunningCopy, Piece, Task, Job, Clone, Copy, volume_of, task_of, clone_of, copy_of}
use Rattle.vv_flat.specs.Chunks.{touched_first, touched_count, touched_indexes}
use Rattle.vv_flat.specs.Space.{entries, reserved, allocated_count, is_running, is_running_state, is_clone}
use Rattle.vv_flat.specs.Tasks.{record_limit, with_room, started, with_task, advanced, is_last, next_piece, turn_indexes, turned_indexes, job_indexes, cloned_volume, clone_goes_on, clone_ends, clone_turned, pieces_put, copy_goes_on, copy_ends, copy_turned, job_turned, turned, cancelled, clone_of_volume, clone_started, with_clone, difference, copy_started, with_copy}
use Rattle.vv_flat.specs.Bits.{allocated_indexes}
use Rattle.vv_flat.specs.Profiles.{Misfit}
use Rattle.vv_flat.specs.Refusals.{Accept, NotFound}
use Rattle.vv_flat.specs.Changes.{Change, MakeContainer, MakeVolume, DeleteVolume, GrowVolume, SetMetadata, Snapshot, FastClone, Revert, Write, Unmap, SetEndpoints, Bind, Unbind, UnbindAll, StartClone, StartCopy, Turn, Cancel, judge, state_checks, size_of, stamps_of, allocated_of, effect, apply, apply_shape, changed_indexes, new_stamp, with_volume, and_volume}
use Rattle.vv_flat.proofs.MapLists.{map-same}
use Rattle.vv_flat.proofs.Sums.{sum-put, sum-removed_found, sum-changed_found}
use Rattle.vv_flat.proofs.Verdicts.{passed_state, not_refused}
use Rattle.vv_flat.proofs.Steps.{find-passes}
use Rattle.vv_flat.proofs.Entries.{length-put_at, length-mapped_from}
use Rattle.vv_flat.proofs.NothingChanges.{first_removed-same, first_changed-same}
use Rattle.vv_flat.proofs.Shares.{and_left, and_both}
use Rattle.vv_flat.specs.WellFormed.{is_well_formed_shape}
use Rattle.vv_flat.proofs.Kept.{Kept, kept}
use Rattle.vv_flat.proofs.Pool.{is_kept, turn_long, allocated_long}
use Rattle.vv_laws.proofs.Planning.{length-numbers}
use Rattle.vv_laws.specs.Counts.{entries_added, ended_entries, entries_taken, still_reserved, reserved_added, reserved_taken}

-- Sums over lists that are edited, whether or not an item is found.

module _ {A : Type 0} (f : A → ℕ) (p : A → Bool) where
  pub removed_sum : (xs : List A) → sum_by f (first_removed p xs) + if_found (find p xs) f 0 ≡ sum_by f xs
  removed_sum xs = go (find p xs) refl
    where
      go : (o : Option A) → find p xs ≡ o → sum_by f (first_removed p xs) + if_found o f 0 ≡ sum_by f xs
      go None e = ap (λ ys. sum_by f ys + 0) (first_removed-same p xs (ap is_none e)) ∙ omega arith
      go (Some y) e = sum-removed_found f p y xs e

  changed_sum : (g : A → A) (xs : List A)
      → sum_by f (first_changed p g xs) + if_found (find p xs) f 0 ≡ sum_by f xs + if_found (find p xs) (λ y. f (g y)) 0
  changed_sum g xs = go (find p xs) refl
    where
      go : (o : Option A) → find p xs ≡ o
          → sum_by f (first_changed p g xs) + if_found o f 0 ≡ sum_by f xs + if_found o (λ y. f (g y)) 0
      go None e = ap (λ ys. sum_by f ys + 0) (first_changed-same p g xs (λ x found. let none : ◌≡◌ {A = Option A} None (Some x) = sym e ∙ found in cc))
      go (Some y) e = sum-changed_found f p g y xs e

-- The entries.

abbrev volume_long : Volume ℕ → ℕ
volume_long v = length v.chunks

abbrev clone_long : RunningClone ℕ → ℕ
clone_long c = length c.image + length c.target

abbrev copy_long : RunningCopy ℕ → ℕ
copy_long c = length c.pieces

size_found : (o : Option (Volume ℕ)) → length (if_found o (λ (v : Volume ℕ). v.chunks) []) ≡ if_found o volume_long 0
size_found None = refl
size_found (Some v) = refl

-- e has the entries of d with so many more, and so many fewer
abbrev Counts : Durable ℕ → Durable ℕ → ℕ → ℕ → Type 0
Counts d e more less = entries e + less ≡ entries d + more

module _ (d : Durable ℕ) where
  changed_entries : (n : ℕ) (g : Volume ℕ → Volume ℕ) → entries (with_volume d n g) + if_found (volume_of d n) volume_long 0
      ≡ entries d + if_found (volume_of d n) (λ v. volume_long (g v)) 0
  unfolding entries
  changed_entries n g =
      let c = changed_sum volume_long (λ (v : Volume ℕ). v.number == n) g d.volumes in
      omega (arith, c)

  added_entries : (v : Volume ℕ) → entries (and_volume d v) ≡ entries d + length v.chunks
  unfolding entries
  added_entries v =
      let s = sum-put volume_long (λ (w : Volume ℕ). nat_lt v.number w.number) v d.volumes in
      omega (arith, s)

  same_entries : (n : ℕ) (g : Volume ℕ → Volume ℕ) → ((v : Volume ℕ) → length (g v).chunks ≡ length v.chunks) → Counts d (with_volume d n g) 0 0
  same_entries n g same = go (volume_of d n) (changed_entries n g)
    where
      go : (o : Option (Volume ℕ)) → entries (with_volume d n g) + if_found o volume_long 0 ≡ entries d + if_found o (λ v. volume_long (g v)) 0
          → Counts d (with_volume d n g) 0 0
      go None e = e
      go (Some v) e = let s : length (g v).chunks ≡ length v.chunks = same v in omega (arith, s, e)

abbrev turn_case : {A : Type 0} → Durable ℕ → Option A → (A → Durable ℕ) → (A → ℕ) → Type 0
turn_case d o h taken = Counts d (if_found o h d) 0 (if_found o taken 0)

of_found : {A : Type 0} (d : Durable ℕ) (o : Option A) (h : A → Durable ℕ) (taken : A → ℕ) → ((x : A) → o ≡ Some x → Counts d (h x) 0 (taken x))
    → turn_case d o h taken
of_found d None h taken there = refl
of_found d (Some x) h taken there = there x refl

of_either : (d : Durable ℕ) (b : Bool) (x y : Durable ℕ) (n m : ℕ) → (b ≡ true → Counts d x 0 n) → (b ≡ false → Counts d y 0 m) → Counts d (cond b x y) 0 (cond b n m)
of_either d true x y n m h k = h refl
of_either d false x y n m h k = k refl

module _ (d : Durable ℕ) where
  clone_ended : (t : Task) (k source : ℕ) (c : RunningClone ℕ) (target : List ℕ) → clone_of d t.number ≡ Some c → length target ≡ length c.target
      → Counts d (clone_ends d t k source c target) 0 (length c.image)
  unfolding entries
  clone_ended t k source c target found same =
      let v = sum-put volume_long (λ (w : Volume ℕ). nat_lt c.number w.number) (cloned_volume c source target) d.volumes in
      let r = sum-removed_found clone_long (λ (b : RunningClone ℕ). b.number == t.number) c d.clones found in
      omega (arith, v, r, same)

  clone_went_on : (t : Task) (k : ℕ) (c : RunningClone ℕ) (target : List ℕ) → clone_of d t.number ≡ Some c → length target ≡ length c.target
      → Counts d (clone_goes_on d t k target) 0 0
  unfolding entries
  clone_went_on t k c target found same =
      let r = sum-changed_found clone_long (λ (b : RunningClone ℕ). b.number == t.number) (λ b. record b { target = target }) c d.clones found in
      omega (arith, r, same)

  clone_turn_counts : (values : List ℕ) (t : Task) (source : ℕ)
      → Counts d (if_found (clone_of d t.number) (clone_turned (λ s. s) values d t source) d) 0
      (if_found (clone_of d t.number) (λ (c : RunningClone ℕ). cond (is_last t (length (turn_indexes c.image t.done))) (length c.image) 0) 0)
  clone_turn_counts values t source =
      of_found d (clone_of d t.number) (clone_turned (λ s. s) values d t source)
      (λ (c : RunningClone ℕ). cond (is_last t (length (turn_indexes c.image t.done))) (length c.image) 0)
      (λ c found. let is : List ℕ = turn_indexes (map (λ s. s) c.image) t.done in
      let target : List ℕ = put_at is values c.target in
      let long : length target ≡ length c.target = length-put_at is values c.target in
      ap (λ xs. entries (clone_turned (λ s. s) values d t source c) + cond (is_last t (length (turn_indexes xs t.done))) (length c.image) 0)
      (sym (map-same (λ s. s) (λ s. refl) c.image))
      ∙ of_either d (is_last t (length is)) (clone_ends d t (length is) source c target) (clone_goes_on d t (length is) target) (length c.image) 0
      (λ e. clone_ended t (length is) source c target found long) (λ e. clone_went_on t (length is) c target found long))

  pieces_long : (ps : List (Piece ℕ)) (xs : List ℕ) → length (pieces_put ps xs) ≡ length xs
  pieces_long ps xs = length-put_at (map (λ (p : Piece ℕ). p.index) ps) (map (λ (p : Piece ℕ). p.chunk) ps) xs

  copy_ended : (t : Task) (target : ℕ) (c : RunningCopy ℕ) → copy_of d t.number ≡ Some c → Counts d (copy_ends d t target c) 0 (length c.pieces)
  unfolding entries
  copy_ended t target c found =
      let v : entries (with_volume d target (λ v. record v { chunks = pieces_put c.pieces v.chunks })) + 0 ≡ entries d + 0 =
      same_entries d target (λ v. record v { chunks = pieces_put c.pieces v.chunks }) (λ v. pieces_long c.pieces v.chunks) in
      let r = sum-removed_found copy_long (λ (b : RunningCopy ℕ). b.number == t.number) c d.copies found in
      omega (arith, v, r)

  copy_turn_counts : (t : Task) (target : ℕ)
      → Counts d (if_found (copy_of d t.number) (copy_turned d t target) d) 0
      (if_found (copy_of d t.number) (λ (c : RunningCopy ℕ). cond (is_last t (next_piece t)) (length c.pieces) 0) 0)
  copy_turn_counts t target =
      of_found d (copy_of d t.number) (copy_turned d t target) (λ (c : RunningCopy ℕ). cond (is_last t (next_piece t)) (length c.pieces) 0)
      (λ c found. of_either d (is_last t (next_piece t)) (copy_ends d t target c) (copy_goes_on d t) (length c.pieces) 0
      (λ e. copy_ended t target c found) (λ e. unfold entries in refl))

  job_counts : (values : List ℕ) (t : Task) (job : Job) → Counts d (job_turned (λ s. s) values d t job) 0 (ended_entries d t job)
  job_counts values t (Clone source) = clone_turn_counts values t source
  job_counts values t (Copy source base target) = copy_turn_counts t target

  turn_counts : (values : List ℕ) (n : ℕ) → Counts d (turned (λ s. s) values d n) 0 (entries_taken d (Turn n))
  unfolding turned
  turn_counts values n =
      of_found d (task_of d n) (λ t. cond (is_running t) (job_turned (λ s. s) values d t t.job) d) (λ t. cond (is_running t) (ended_entries d t t.job) 0)
      (λ t found. of_either d (is_running t) (job_turned (λ s. s) values d t t.job) d (ended_entries d t t.job) 0
      (λ e. job_counts values t t.job) (λ e. refl))

  cancel_counts : (n : ℕ) → Counts d (cancelled d n) 0 (entries_taken d (Cancel n))
  unfolding entries cancelled
  cancel_counts n =
      let c = removed_sum clone_long (λ (b : RunningClone ℕ). b.number == n) d.clones in
      let p = removed_sum copy_long (λ (b : RunningCopy ℕ). b.number == n) d.copies in
      omega (arith, c, p)

pub some_of : {A : Type 0} (o : Option A) (P : Type 0) → is_none o ≡ false → ((x : A) → o ≡ Some x → P) → P
some_of None P e h = cc
some_of (Some x) P e h = h x refl

size_is : (d : Durable ℕ) (n : ℕ) (v : Volume ℕ) → volume_of d n ≡ Some v → size_of d n ≡ length v.chunks
size_is d n v e = ap (λ o. length (if_found o (λ (w : Volume ℕ). w.chunks) [])) e

pub chunks_are : (d : Durable ℕ) (n : ℕ) (v : Volume ℕ) → volume_of d n ≡ Some v → stamps_of d n ≡ v.chunks
chunks_are d n v e = ap (λ o. if_found o (λ (w : Volume ℕ). w.chunks) []) e

changed_to : (d : Durable ℕ) (n : ℕ) (g : Volume ℕ → Volume ℕ) (v : Volume ℕ) → volume_of d n ≡ Some v
    → entries (with_volume d n g) + length v.chunks ≡ entries d + length (g v).chunks
changed_to d n g v e =
    ap (λ o. entries (with_volume d n g) + if_found o volume_long 0) (sym e) ∙ changed_entries d n g
    ∙ ap (λ o. entries d + if_found o (λ v. volume_long (g v)) 0) e

deleted_counts : (d : Durable ℕ) (n : ℕ) → Counts d (record d { volumes = first_removed (λ (v : Volume ℕ). v.number == n) d.volumes }) 0 (size_of d n)
unfolding entries
deleted_counts d n =
    let r = removed_sum volume_long (λ (v : Volume ℕ). v.number == n) d.volumes in
    let s : size_of d n ≡ if_found (volume_of d n) volume_long 0 = size_found (volume_of d n) in
    omega (arith, r, s)

clone_counts : (d : Durable ℕ) (n : ℕ) (v : Volume ℕ) → Counts d (clone_started (λ s. s) 0 d n v) (2 * length v.chunks) 0
unfolding entries
clone_counts d n v =
    let a = sum-put clone_long (λ (c : RunningClone ℕ). nat_lt (d.lsn + 1) c.number) (clone_of_volume 0 (d.lsn + 1) v) d.clones in
    let l : length {A = ℕ} (replicate (length v.chunks) 0) ≡ length v.chunks = length-replicate (length v.chunks) 0 in
    omega (arith, a, l)

copy_counts : (d : Durable ℕ) (job : Job) (ps : List (Piece ℕ)) → Counts d (copy_started d job ps) (length ps) 0
unfolding entries
copy_counts d job ps =
    let a = sum-put copy_long (λ (c : RunningCopy ℕ). nat_lt (d.lsn + 1) c.number) (record { number = d.lsn + 1; pieces = ps }) d.copies in
    omega (arith, a)

-- An accepted change adds and takes so many entries.
pub entries_go : (misfit : Option Misfit) (d : Durable ℕ) (values : List ℕ) (change : Change) → judge misfit d change ≡ Accept
    → Counts d (effect (λ s. s) values 0 d change) (entries_added d change) (entries_taken d change)
unfolding effect state_checks with_clone with_copy
entries_go misfit d values (MakeContainer quota offers) e = unfold entries in refl
entries_go misfit d values (MakeVolume k vtype chunks needs) e =
    let v : Volume ℕ = record { number = d.lsn + 1; container = k; vtype = vtype; kind = Plain; reverted = 0; needs = needs; metadata = []; chunks = replicate chunks 0 } in
    let a : entries (and_volume d v) ≡ entries d + length {A = ℕ} (replicate chunks 0) = added_entries d v in
    let l : length {A = ℕ} (replicate chunks 0) ≡ chunks = length-replicate chunks 0 in
    omega (arith, a, l)
entries_go misfit d values (DeleteVolume n) e = deleted_counts d n
entries_go misfit d values (GrowVolume n chunks) e =
    some_of (volume_of d n) _ (not_refused (is_none (volume_of d n)) (NotFound in_vvol) (passed_state misfit d (GrowVolume n chunks) e 0))
    (λ v found. let c = changed_to d n (λ v. record v { chunks = v.chunks ++ replicate (chunks - length v.chunks) 0 }) v found in
    let l : length (v.chunks ++ replicate (chunks - length v.chunks) 0) ≡ length v.chunks + (chunks - length v.chunks) =
    length-append v.chunks (replicate (chunks - length v.chunks) 0) ∙ ap (λ k. length v.chunks + k) (length-replicate (chunks - length v.chunks) 0) in
    let s = size_is d n v found in
    omega (arith, c, l, s))
entries_go misfit d values (SetMetadata n key text) e = same_entries d n _ (λ v. refl)
entries_go misfit d values (Snapshot n) e =
    some_of (volume_of d n) _ (not_refused (is_none (volume_of d n)) (NotFound in_vvol) (passed_state misfit d (Snapshot n) e 0))
    (λ v found. let w : Volume ℕ = record v { number = d.lsn + 1; kind = SnapshotOf (record { 0 = n }) } in
    let a = added_entries d w in
    let s = size_is d n v found in
    ap (λ o. entries (if_found o (λ v. and_volume d (record v { number = d.lsn + 1; kind = SnapshotOf (record { 0 = n }) })) d) + 0) found
    ∙ omega (arith, a, s))
entries_go misfit d values (FastClone n) e =
    some_of (volume_of d n) _ (not_refused (is_none (volume_of d n)) (NotFound in_vvol) (passed_state misfit d (FastClone n) e 0))
    (λ v found. let w : Volume ℕ = record v { number = d.lsn + 1; kind = FastCloneOf (record { 0 = n }) } in
    let a = added_entries d w in
    let s = size_is d n v found in
    ap (λ o. entries (if_found o (λ v. and_volume d (record v { number = d.lsn + 1; kind = FastCloneOf (record { 0 = n }) })) d) + 0) found
    ∙ omega (arith, a, s))
entries_go misfit d values (Revert n snapshot) e =
    some_of (volume_of d snapshot) _ (not_refused (is_none (volume_of d snapshot)) (NotFound in_snapshot) (passed_state misfit d (Revert n snapshot) e 1))
    (λ s at. some_of (volume_of d n) _ (not_refused (is_none (volume_of d n)) (NotFound in_vvol) (passed_state misfit d (Revert n snapshot) e 0))
    (λ v found. let c = changed_to d n (λ v. record v { chunks = s.chunks; reverted = d.lsn + 1 }) v found in
    let a = size_is d n v found in
    let b = size_is d snapshot s at in
    ap (λ o. entries (if_found o (λ s. with_volume d n (λ v. record v { chunks = s.chunks; reverted = d.lsn + 1 })) d) + size_of d n) at
    ∙ omega (arith, c, a, b)))
entries_go misfit d values (Write n first blocks) e = same_entries d n _ (λ v. length-put_at (touched_indexes d.geometry.chunk_blocks first blocks) values v.chunks)
entries_go misfit d values (Unmap n ranges) e = same_entries d n _ (λ v. length-mapped_from _ 0 v.chunks)
entries_go misfit d values (SetEndpoints host endpoints) e = unfold entries in refl
entries_go misfit d values (Bind host n) e = unfold entries in refl
entries_go misfit d values (Unbind host endpoint secondary) e = unfold entries in refl
entries_go misfit d values (UnbindAll host) e = unfold entries in refl
entries_go misfit d values (StartClone n) e =
    some_of (volume_of d n) _ (not_refused (is_none (volume_of d n)) (NotFound in_vvol) (passed_state misfit d (StartClone n) e 0))
    (λ v found. ap (λ o. entries (if_found o (clone_started (λ s. s) 0 d n) d) + 0) found ∙ clone_counts d n v
    ∙ ap (λ k. entries d + 2 * k) (sym (size_is d n v found)))
entries_go misfit d values (StartCopy source base target) e =
    some_of (volume_of d source) _ (not_refused (is_none (volume_of d source)) (NotFound in_source) (passed_state misfit d (StartCopy source base target) e 0))
    (λ v found. some_of (volume_of d base) _ (not_refused (is_none (volume_of d base)) (NotFound in_base) (passed_state misfit d (StartCopy source base target) e 1))
    (λ w at. let same : length (difference (λ s. s) (stamps_of d source) (stamps_of d base)) ≡ length (difference (λ s. s) v.chunks w.chunks) =
    ap (λ xs. length (difference (λ s. s) xs (stamps_of d base))) (chunks_are d source v found)
    ∙ ap (λ xs. length (difference (λ s. s) v.chunks xs)) (chunks_are d base w at) in
    ap (λ o. entries (if_found o (λ v. if_found (volume_of d base) (λ w. copy_started d (Copy source base target) (difference (λ s. s) v.chunks w.chunks)) d) d) + 0) found
    ∙ ap (λ o. entries (if_found o (λ w. copy_started d (Copy source base target) (difference (λ s. s) v.chunks w.chunks)) d) + 0) at
    ∙ copy_counts d (Copy source base target) (difference (λ s. s) v.chunks w.chunks)
    ∙ ap (λ k. entries d + k) (sym same)))
entries_go misfit d values (Turn n) e = turn_counts d values n
entries_go misfit d values (Cancel n) e = cancel_counts d n

pub entries_after : (misfit : Option Misfit) (d : Durable ℕ) (change : Change) → judge misfit d change ≡ Accept
    → entries (apply_shape d change) + entries_taken d change ≡ entries d + entries_added d change
unfolding apply_shape apply entries
entries_after misfit d change e = entries_go misfit d (map (λ _. new_stamp d change) (changed_indexes (λ s. s) d change)) change e

-- The reserved chunks.

abbrev Reserves : Durable ℕ → Durable ℕ → ℕ → ℕ → Type 0
Reserves d e more less = sum_by still_reserved e.tasks + less ≡ sum_by still_reserved d.tasks + more

found_reserves : {A : Type 0} (d : Durable ℕ) (o : Option A) (h : A → Durable ℕ) → ((x : A) → Reserves d (h x) 0 0) → Reserves d (if_found o h d) 0 0
found_reserves d None h there = refl
found_reserves d (Some x) h there = there x

stopped : (t : Task) → not (is_running t) ≡ true → still_reserved t ≡ 0
stopped t e = go (is_running t) e
  where
    go : (b : Bool) → not b ≡ true → cond (b && is_clone t.job) (t.total - t.done) 0 ≡ 0
    go true f = cc
    go false f = refl

-- the record that a start drops reserves nothing
room_reserves : (tasks : List Task) → sum_by still_reserved (with_room tasks) ≡ sum_by still_reserved tasks
room_reserves tasks = go (nat_le record_limit (length tasks))
  where
    none : (o : Option Task) → find (λ t. not (is_running t)) tasks ≡ o → if_found o still_reserved 0 ≡ 0
    none None e = refl
    none (Some t) e = stopped t (find-passes (λ t. not (is_running t)) tasks t e)

    go : (b : Bool) → sum_by still_reserved (cond b (first_removed (λ t. not (is_running t)) tasks) tasks) ≡ sum_by still_reserved tasks
    go true =
        let r = removed_sum still_reserved (λ t. not (is_running t)) tasks in
        let z = none (find (λ t. not (is_running t)) tasks) refl in
        omega (arith, r, z)
    go false = refl

started_reserves : (tasks : List Task) (t : Task) → sum_by still_reserved (started tasks t) ≡ sum_by still_reserved tasks + still_reserved t
started_reserves tasks t =
    let s = sum-put still_reserved (λ (u : Task). nat_lt t.number u.number) t (with_room tasks) in
    let r = room_reserves tasks in
    omega (arith, s, r)

-- a clone's record after so many more are copied
advanced_clone : (t : Task) (k : ℕ) → is_running t ≡ true → is_clone t.job ≡ true → k ≤ t.total - t.done → still_reserved (advanced t k) + k ≡ still_reserved t
advanced_clone t k runs clone le =
    let is : still_reserved t ≡ t.total - t.done = ap (λ b. cond (b && is_clone t.job) (t.total - t.done) 0) runs ∙ ap (λ b. cond b (t.total - t.done) 0) clone in
    go (is_last t k) refl ∙ sym is
  where
    go : (b : Bool) → is_last t k ≡ b
        → cond (is_running_state (cond b Success Running) && is_clone t.job) (t.total - (t.done + k)) 0 + k ≡ t.total - t.done
    go true e = let all : t.done + k ≡ t.total = eqb-true (t.done + k) t.total e in omega (arith, all)
    go false e =
        let more : cond (is_clone t.job) (t.total - (t.done + k)) 0 ≡ t.total - (t.done + k) = ap (λ b. cond b (t.total - (t.done + k)) 0) clone in
        omega (arith, more, le)

none_of_copy : (t : Task) (k : ℕ) → is_clone t.job ≡ false → still_reserved (advanced t k) ≡ still_reserved t
none_of_copy t k copy = zero_of (is_running (advanced t k)) (t.total - (t.done + k)) ∙ sym (zero_of (is_running t) (t.total - t.done))
  where
    zero_of : (b : Bool) (n : ℕ) → cond (b && is_clone t.job) n 0 ≡ 0
    zero_of true n = ap (λ c. cond c n 0) copy
    zero_of false n = refl

module _ (d : Durable ℕ) (rules : Kept d) where
  advanced_reserves : (t : Task) (k less : ℕ) → task_of d t.number ≡ Some t → still_reserved (advanced t k) + less ≡ still_reserved t
      → sum_by still_reserved (with_task d.tasks (advanced t k)) + less ≡ sum_by still_reserved d.tasks + 0
  advanced_reserves t k less found e =
      let s = sum-changed_found still_reserved (λ (u : Task). u.number == t.number) (λ _. advanced t k) t d.tasks found in
      omega (arith, s, e)

  either_reserves : (b : Bool) (x y : Durable ℕ) (less : ℕ) → Reserves d x 0 less → Reserves d y 0 less → Reserves d (cond b x y) 0 less
  either_reserves true x y less h k = h
  either_reserves false x y less h k = k

  clone_reserves : (values : List ℕ) (t : Task) (source : ℕ) → task_of d t.number ≡ Some t → is_running t ≡ true → is_clone t.job ≡ true
      → (o : Option (RunningClone ℕ)) → clone_of d t.number ≡ o
      → Reserves d (if_found o (clone_turned (λ s. s) values d t source) d) 0 (length (if_found o (λ (c : RunningClone ℕ). turn_indexes (map (λ s. s) c.image) t.done) []))
  clone_reserves values t source found runs clone None e = refl
  clone_reserves values t source found runs clone (Some c) e =
      let is : List ℕ = turn_indexes (map (λ s. s) c.image) t.done in
      let same : allocated_count (map (λ s. s) c.image) ≡ allocated_count c.image = ap allocated_count (map-same (λ s. s) (λ s. refl) c.image) in
      let total : t.total ≡ allocated_count c.image =
      eqb-true t.total (allocated_count c.image) (and_left (t.total == allocated_count c.image) _ (and_left _ _ (and_left _ _ (is_kept d t c rules.clones found e)))) in
      let long : length is ≤ allocated_count (map (λ s. s) c.image) - t.done = turn_long (map (λ s. s) c.image) t.done in
      let few : length is ≤ t.total - t.done = omega (arith, same, total, long) in
      let r = advanced_reserves t (length is) (length is) found (advanced_clone t (length is) runs clone few) in
      either_reserves (is_last t (length is)) (clone_ends d t (length is) source c (put_at is values c.target)) (clone_goes_on d t (length is) (put_at is values c.target)) (length is) r r

  copy_reserves : (t : Task) (target : ℕ) → task_of d t.number ≡ Some t → is_clone t.job ≡ false → (o : Option (RunningCopy ℕ))
      → Reserves d (if_found o (copy_turned d t target) d) 0 0
  copy_reserves t target found copy None = refl
  copy_reserves t target found copy (Some c) =
      let same : still_reserved (advanced t (next_piece t)) + 0 ≡ still_reserved t = let z = none_of_copy t (next_piece t) copy in omega (arith, z) in
      let r = advanced_reserves t (next_piece t) 0 found same in
      either_reserves (is_last t (next_piece t)) (copy_ends d t target c) (copy_goes_on d t) 0 r r

  job_reserves : (values : List ℕ) (t : Task) → task_of d t.number ≡ Some t → is_running t ≡ true → (job : Job) → t.job ≡ job
      → Reserves d (job_turned (λ s. s) values d t job) 0 (length (job_indexes (λ s. s) d t job))
  job_reserves values t found runs (Clone source) e = clone_reserves values t source found runs (ap is_clone e) (clone_of d t.number) refl
  job_reserves values t found runs (Copy source base target) e = copy_reserves t target found (ap is_clone e) (copy_of d t.number)

  turn_reserves : (values : List ℕ) (n : ℕ) → Reserves d (turned (λ s. s) values d n) 0 (length (turned_indexes (λ s. s) d n))
  unfolding turned turned_indexes
  turn_reserves values n = of_task (task_of d n) refl
    where
      of_run : (t : Task) → task_of d t.number ≡ Some t → (b : Bool) → is_running t ≡ b
          → Reserves d (cond b (job_turned (λ s. s) values d t t.job) d) 0 (length (cond b (job_indexes (λ s. s) d t t.job) []))
      of_run t found true runs = job_reserves values t found runs t.job refl
      of_run t found false runs = refl

      of_task : (o : Option Task) → task_of d n ≡ o
          → Reserves d (if_found o (λ t. cond (is_running t) (job_turned (λ s. s) values d t t.job) d) d) 0
          (length (if_found o (λ t. cond (is_running t) (job_indexes (λ s. s) d t t.job) []) []))
      of_task None e = refl
      of_task (Some t) e =
          let number : t.number ≡ n = eqb-true t.number n (find-passes (λ (u : Task). u.number == n) d.tasks t e) in
          of_run t (ap (λ m. task_of d m) number ∙ e) (is_running t) refl

  cancel_reserves : (n : ℕ) → Reserves d (cancelled d n) 0 (if_found (task_of d n) still_reserved 0)
  unfolding cancelled
  cancel_reserves n =
      let c = changed_sum still_reserved (λ (t : Task). t.number == n) (λ t. record t { state = Cancelled }) d.tasks in
      let z = none (task_of d n) in
      omega (arith, c, z)
    where
      none : (o : Option Task) → if_found o (λ t. still_reserved (record t { state = Cancelled })) 0 ≡ 0
      none None = refl
      none (Some t) = refl

  -- An accepted change adds and takes so many reserved chunks.
  pub reserved_go : (misfit : Option Misfit) (values : List ℕ) (change : Change) → judge misfit d change ≡ Accept
      → Reserves d (effect (λ s. s) values 0 d change) (reserved_added d change) (reserved_taken d change)
  unfolding effect state_checks with_clone with_copy changed_indexes
  reserved_go misfit values (MakeContainer quota offers) e = refl
  reserved_go misfit values (MakeVolume k vtype chunks needs) e = refl
  reserved_go misfit values (DeleteVolume n) e = refl
  reserved_go misfit values (GrowVolume n chunks) e = refl
  reserved_go misfit values (SetMetadata n key text) e = refl
  reserved_go misfit values (Snapshot n) e = found_reserves d (volume_of d n) _ (λ v. refl)
  reserved_go misfit values (FastClone n) e = found_reserves d (volume_of d n) _ (λ v. refl)
  reserved_go misfit values (Revert n snapshot) e = found_reserves d (volume_of d snapshot) _ (λ v. refl)
  reserved_go misfit values (Write n first blocks) e = refl
  reserved_go misfit values (Unmap n ranges) e = refl
  reserved_go misfit values (SetEndpoints host endpoints) e = refl
  reserved_go misfit values (Bind host n) e = refl
  reserved_go misfit values (Unbind host endpoint secondary) e = refl
  reserved_go misfit values (UnbindAll host) e = refl
  reserved_go misfit values (StartClone n) e =
      some_of (volume_of d n) _ (not_refused (is_none (volume_of d n)) (NotFound in_vvol) (passed_state misfit d (StartClone n) e 0))
      (λ v found. let t : Task = record { number = d.lsn + 1; job = Clone n; state = Running; done = 0; total = allocated_count (map (λ s. s) v.chunks) } in
      let s = started_reserves d.tasks t in
      let same : allocated_count (map (λ s. s) v.chunks) ≡ allocated_of d n =
      ap allocated_count (map-same (λ s. s) (λ s. refl) v.chunks ∙ sym (chunks_are d n v found)) in
      ap (λ o. sum_by still_reserved (if_found o (clone_started (λ s. s) 0 d n) d).tasks + 0) found ∙ omega (arith, s, same))
  reserved_go misfit values (StartCopy source base target) e =
      found_reserves d (volume_of d source) _
      (λ v. found_reserves d (volume_of d base) (λ w. copy_started d (Copy source base target) (difference (λ s. s) v.chunks w.chunks))
      (λ w. let s = started_reserves d.tasks (record { number = d.lsn + 1; job = Copy source base target; state = Running; done = 0; total = length (difference (λ s. s) v.chunks w.chunks) }) in
      omega (arith, s)))
  reserved_go misfit values (Turn n) e = turn_reserves values n
  reserved_go misfit values (Cancel n) e = cancel_reserves n

  pub reserved_after : (misfit : Option Misfit) (change : Change) → judge misfit d change ≡ Accept
      → reserved (apply_shape d change) + reserved_taken d change ≡ reserved d + reserved_added d change
  unfolding apply_shape apply reserved
  reserved_after misfit change e = reserved_go misfit (map (λ _. new_stamp d change) (changed_indexes (λ s. s) d change)) change e

-- A turn copies 16 chunks at most.
pub turn_at_most : {X : Type 0} (stamp_of : X → ℕ) (d : Durable X) (n : ℕ) → length (turned_indexes stamp_of d n) ≤ 16
unfolding turned_indexes
turn_at_most {X} stamp_of d n = of_task (task_of d n)
  where
    indexes : (t : Task) (o : Option (RunningClone X)) → length (if_found o (λ (c : RunningClone X). turn_indexes (map stamp_of c.image) t.done) []) ≤ 16
    indexes t None = omega arith
    indexes t (Some c) =
        let l = length-take 16 (drop t.done (allocated_indexes (map stamp_of c.image))) in omega (arith, l)

    of_job : (t : Task) (job : Job) → length (job_indexes stamp_of d t job) ≤ 16
    of_job t (Clone source) = indexes t (clone_of d t.number)
    of_job t (Copy source base target) = omega arith

    of_run : (t : Task) (b : Bool) → length (cond b (job_indexes stamp_of d t t.job) []) ≤ 16
    of_run t true = of_job t t.job
    of_run t false = omega arith

    of_task : (o : Option Task) → length (if_found o (λ t. cond (is_running t) (job_indexes stamp_of d t t.job) []) []) ≤ 16
    of_task None = omega arith
    of_task (Some t) = of_run t (is_running t)

pub reserved_well : (misfit : Option Misfit) (d : Durable ℕ) (change : Change) → is_well_formed_shape d ≡ true → judge misfit d change ≡ Accept
    → reserved (apply_shape d change) + reserved_taken d change ≡ reserved d + reserved_added d change
unfolding is_well_formed_shape
reserved_well misfit d change well e = reserved_after d (kept d (and_left _ _ well)) misfit change e

eight_blocks : (B : ℕ) → is_chunk_size B ≡ true → 8 ≤ B
eight_blocks B e = grind (arith, nat_tests)

-- A write touches few chunks.
pub write_touches : (B first blocks : ℕ) → is_chunk_size B ≡ true → 1 ≤ blocks → blocks ≤ 2048
    → (1 ≤ length (touched_indexes B first blocks)) × (length (touched_indexes B first blocks) ≤ 257)
write_touches B first blocks size least most = go (blocks == 0) refl
  where
    go : (b : Bool) → (blocks == 0) ≡ b
        → (1 ≤ length (cond b [] (numbers_from (touched_first B first) (touched_count B first blocks))))
        × (length (cond b [] (numbers_from (touched_first B first) (touched_count B first blocks))) ≤ 257)
    go true is = let none : blocks ≡ 0 = eqb-true blocks 0 is in absurd (omega arith)
    go false is =
        let eight : 8 ≤ B = eight_blocks B size in
        let some : 0 < B = omega arith in
        let front : first / B * B ≤ first = div-mul-le_self first B in
        let order : first / B ≤ (first + blocks - 1) / B = le-div (first / B) (first + blocks - 1) B some (omega arith) in
        let start : first < first / B * B + B = lt-div-mul-add some in
        let times : (first / B + 257) * B ≡ first / B * B + 257 * B = add-mul (first / B) 257 B in
        let last : (first + blocks - 1) / B < first / B + 257 = div_below (first + blocks - 1) B (first / B + 257) some (omega (arith, start, times, eight, most)) in
        let long : length (numbers_from (touched_first B first) (touched_count B first blocks)) ≡ touched_count B first blocks =
        length-numbers (touched_first B first) (touched_count B first blocks) in
        (omega (arith, order, long), omega (arith, last, long))

-- A running clone's task has its image and target,
running_any : (r : Task → Bool) (n : ℕ) (t : Task) (ts : List Task) → find (λ (u : Task). u.number == n) ts ≡ Some t → r t ≡ true
    → list_any (λ m. m == n) (map (λ (u : Task). u.number) (filter r ts)) ≡ true
running_any r n t [] e f = cc
running_any r n t (u ∷ us) e f = go (u.number == n) refl e (r u) refl (λ g. running_any r n t us g f)
  where
    later : (b c : Bool) → c ≡ true → (b || c) ≡ true
    later true c g = refl
    later false c g = g

    go : (b : Bool) → (u.number == n) ≡ b → cond b (Some u) (find (λ (u : Task). u.number == n) us) ≡ Some t → (c : Bool) → r u ≡ c
        → (find (λ (u : Task). u.number == n) us ≡ Some t → list_any (λ m. m == n) (map (λ (u : Task). u.number) (filter r us)) ≡ true)
        → list_any (λ m. m == n) (map (λ (u : Task). u.number) (cond c (u ∷ filter r us) (filter r us))) ≡ true
    go true is g true of there = ap (λ b. b || list_any (λ m. m == n) (map (λ (u : Task). u.number) (filter r us))) is
    go true is g false of there = let same : ◌≡◌ {A = Task} u t = cc in let no : r u ≡ true = ap r same ∙ f in cc
    go false is g true of there = later (u.number == n) _ (there g)
    go false is g false of there = there g

any-map : {A B : Type 0} (p : B → Bool) (f : A → B) (xs : List A) → list_any p (map f xs) ≡ list_any (λ x. p (f x)) xs
any-map p f [] = refl
any-map p f (x ∷ xs) = ap (λ b. p (f x) || b) (any-map p f xs)

pub clone_stands : (d : Durable ℕ) → Kept d → (t : Task) → task_of d t.number ≡ Some t → is_running t ≡ true → is_clone t.job ≡ true
    → is_some (clone_of d t.number) ≡ true
clone_stands d rules t found runs clone =
    let both : (is_running t && is_clone t.job) ≡ true = and_both (is_running t) (is_clone t.job) runs clone in
    found-any (λ (c : RunningClone ℕ). c.number == t.number) d.clones
    ∙ sym (any-map (λ m. m == t.number) (λ (c : RunningClone ℕ). c.number) d.clones)
    ∙ ap (list_any (λ m. m == t.number)) (formed_clones d rules.form)
    ∙ running_any (λ (u : Task). is_running u && is_clone u.job) t.number t d.tasks found both

-- and its turn copies the least of 16 and what is left.
pub clone_turn_exact : (d : Durable ℕ) → Kept d → (t : Task) → task_of d t.number ≡ Some t → is_running t ≡ true → is_clone t.job ≡ true
    → length (if_found (clone_of d t.number) (λ (c : RunningClone ℕ). turn_indexes (map (λ s. s) c.image) t.done) []) ≡ next_piece t
clone_turn_exact d rules t found runs clone = of_clone (clone_of d t.number) refl (clone_stands d rules t found runs clone)
  where
    of_clone : (o : Option (RunningClone ℕ)) → clone_of d t.number ≡ o → is_some o ≡ true
        → length (if_found o (λ (c : RunningClone ℕ). turn_indexes (map (λ s. s) c.image) t.done) []) ≡ next_piece t
    of_clone None e some = cc
    of_clone (Some c) e some =
        let same : allocated_count (map (λ s. s) c.image) ≡ allocated_count c.image = ap allocated_count (map-same (λ s. s) (λ s. refl) c.image) in
        let total : t.total ≡ allocated_count c.image =
        eqb-true t.total (allocated_count c.image) (and_left (t.total == allocated_count c.image) _ (and_left _ _ (and_left _ _ (is_kept d t c rules.clones found e)))) in
        let all : length (allocated_indexes (map (λ s. s) c.image)) ≡ allocated_count (map (λ s. s) c.image) = allocated_long 0 (map (λ s. s) c.image) in
        let rest : length (drop t.done (allocated_indexes (map (λ s. s) c.image))) ≡ length (allocated_indexes (map (λ s. s) c.image)) - t.done =
        length-drop t.done (allocated_indexes (map (λ s. s) c.image)) in
        length-take 16 (drop t.done (allocated_indexes (map (λ s. s) c.image))) ∙ omega (arith, same, total, all, rest)

pub turn_exact : (d : Durable ℕ) → is_well_formed_shape d ≡ true → (t : Task) → task_of d t.number ≡ Some t → is_running t ≡ true → is_clone t.job ≡ true
    → length (turned_indexes (λ s. s) d t.number) ≡ next_piece t
unfolding is_well_formed_shape turned_indexes
turn_exact d well t found runs clone =
    ap (λ o. length (if_found o (λ t. cond (is_running t) (job_indexes (λ s. s) d t t.job) []) [])) found
    ∙ ap (λ b. length (cond b (job_indexes (λ s. s) d t t.job) [])) runs
    ∙ of_job t.job refl
  where
    of_job : (job : Job) → t.job ≡ job → length (job_indexes (λ s. s) d t job) ≡ next_piece t
    of_job (Clone source) e = clone_turn_exact d (kept d (and_left _ _ well)) t found runs clone
    of_job (Copy source base target) e = let no : false ≡ true = ap is_clone (sym e) ∙ clone in cc
