-- The entries of all lists stay within the map.
use Rattle.std.proofs.Common.{◌≡◌, ◌≤◌, ℕ, suc, ◌+◌, ◌-◌, ◌*◌, ◌==◌, refl, ap, ◌∙◌, Bool, true, false, cond, List, [], ◌∷◌, ◌++◌, map, length, replicate, set, arith}
use Rattle.std.specs.Prelude.{Option, Some, None, nat_lt, sum_by}
use Rattle.std.proofs.lemmas.List.{length-append, length-replicate, length-set}
use Rattle.vv_units.specs.declared.volume.VolumeKind.TheVariants.{Plain, SnapshotOf, FastCloneOf}
use Rattle.vv_flat.specs.Lists.{if_found, first_changed, put_before, first_removed, put_at, mapped_from}
use Rattle.vv_flat.specs.State.{Durable, Volume, RunningClone, RunningCopy, Piece, Task, Job, Clone, Copy, volume_of, clone_of, copy_of, task_of}
use Rattle.vv_flat.specs.Chunks.{touched_indexes, unmapped_in}
use Rattle.vv_flat.specs.Space.{entries, is_running}
use Rattle.vv_flat.specs.Tasks.{turned, job_turned, clone_turned, clone_goes_on, clone_ends, copy_turned, copy_ends, copy_goes_on, pieces_put, cancelled, with_clone, with_copy, clone_started, copy_started, clone_of_volume, cloned_volume, difference, is_last, turn_indexes, next_piece}
use Rattle.vv_flat.specs.Profiles.{Misfit}
use Rattle.vv_flat.specs.Refusals.{Accept}
use Rattle.vv_flat.specs.Changes.{Change, MakeContainer, MakeVolume, DeleteVolume, GrowVolume, SetMetadata, Snapshot, FastClone, Revert, Write, Unmap, SetEndpoints, Bind, Unbind, UnbindAll, StartClone, StartCopy, Turn, Cancel, stamps_of, size_of, judge, room_checks, with_volume, and_volume, effect, apply, apply_shape}
use Rattle.vv_flat.proofs.Sums.{sum-put, sum-removed, sum-removed_found, sum-changed}
use Rattle.vv_flat.proofs.Verdicts.{passed_room, within_map, within_map_positive}

pub length-put_at : {A : Type 0} (is : List ℕ) (vs xs : List A) → length (put_at is vs xs) ≡ length xs
length-put_at [] vs xs = refl
length-put_at (i ∷ is) [] xs = refl
length-put_at (i ∷ is) (v ∷ vs) xs = length-put_at is vs (set xs i v) ∙ length-set xs i v

pub length-mapped_from : {A B : Type 0} (f : ℕ → A → B) (i : ℕ) (xs : List A) → length (mapped_from f i xs) ≡ length xs
length-mapped_from f i [] = refl
length-mapped_from f i (x ∷ xs) = ap suc (length-mapped_from f (i + 1) xs)

module _ (d : Durable ℕ) where
  -- the sums of the three kinds of list
  volume_entries : List (Volume ℕ) → ℕ
  volume_entries vs = sum_by (λ (v : Volume ℕ). length v.chunks) vs

  clone_entries : List (RunningClone ℕ) → ℕ
  clone_entries cs = sum_by (λ (c : RunningClone ℕ). length c.image + length c.target) cs

  copy_entries : List (RunningCopy ℕ) → ℕ
  copy_entries cs = sum_by (λ (c : RunningCopy ℕ). length c.pieces) cs

  -- a volume changed to one with at most so many chunks more
  changed_entries : (n : ℕ) (g : Volume ℕ → Volume ℕ) (k : ℕ)
      → ((v : Volume ℕ) → volume_of d n ≡ Some v → length (g v).chunks ≤ length v.chunks + k)
      → entries (with_volume d n g) ≤ entries d + k
  unfolding entries
  changed_entries n g k h =
      let s : sum_by (λ (v : Volume ℕ). length v.chunks) (first_changed (λ v. v.number == n) g d.volumes)
      ≤ sum_by (λ (v : Volume ℕ). length v.chunks) d.volumes + k =
      sum-changed (λ (v : Volume ℕ). length v.chunks) (λ v. v.number == n) g k d.volumes h in
      omega (arith, s)

  -- one more volume
  added_entries : (v : Volume ℕ) → entries (and_volume d v) ≡ entries d + length v.chunks
  unfolding entries
  added_entries v =
      let s : sum_by (λ (w : Volume ℕ). length w.chunks) (put_before (λ (w : Volume ℕ). nat_lt v.number w.number) v d.volumes)
      ≡ length v.chunks + sum_by (λ (w : Volume ℕ). length w.chunks) d.volumes =
      sum-put (λ (w : Volume ℕ). length w.chunks) (λ w. nat_lt v.number w.number) v d.volumes in
      omega (arith, s)

  -- what is made of a volume that is found, and of none
  found_entries : {A : Type 0} (o : Option A) (h : A → Durable ℕ) (k : ℕ) → ((x : A) → o ≡ Some x → entries (h x) ≤ entries d + k)
      → entries (if_found o h d) ≤ entries d + k
  found_entries None h k there = omega arith
  found_entries (Some x) h k there = there x refl

  size_found : (n : ℕ) (v : Volume ℕ) → volume_of d n ≡ Some v → size_of d n ≡ length v.chunks
  size_found n v e = ap (λ o. length (if_found o (λ (w : Volume ℕ). w.chunks) [])) e

  stamps_found : (n : ℕ) (v : Volume ℕ) → volume_of d n ≡ Some v → stamps_of d n ≡ v.chunks
  stamps_found n v e = ap (λ o. if_found o (λ (w : Volume ℕ). w.chunks) []) e

  either_entries : (b : Bool) (x y : Durable ℕ) → entries x ≤ entries d → entries y ≤ entries d → entries (cond b x y) ≤ entries d
  either_entries true x y h k = h
  either_entries false x y h k = k

  cloned_entries : (n : ℕ) (v : Volume ℕ) → entries (clone_started (λ s. s) 0 d n v) ≡ entries d + 2 * length v.chunks
  unfolding entries
  cloned_entries n v =
      let s : sum_by (λ (c : RunningClone ℕ). length c.image + length c.target)
      (put_before (λ (c : RunningClone ℕ). nat_lt (d.lsn + 1) c.number) (clone_of_volume 0 (d.lsn + 1) v) d.clones)
      ≡ (length v.chunks + length {A = ℕ} (replicate (length v.chunks) 0)) + sum_by (λ (c : RunningClone ℕ). length c.image + length c.target) d.clones =
      sum-put (λ (c : RunningClone ℕ). length c.image + length c.target) (λ c. nat_lt (d.lsn + 1) c.number)
      (clone_of_volume 0 (d.lsn + 1) v) d.clones in
      let l : length {A = ℕ} (replicate (length v.chunks) 0) ≡ length v.chunks = length-replicate (length v.chunks) 0 in
      omega (arith, s, l)

  copied_entries : (job : Job) (pieces : List (Piece ℕ)) → entries (copy_started d job pieces) ≡ entries d + length pieces
  unfolding entries
  copied_entries job pieces =
      let s : sum_by (λ (c : RunningCopy ℕ). length c.pieces)
      (put_before (λ (c : RunningCopy ℕ). nat_lt (d.lsn + 1) c.number) (record { number = d.lsn + 1; pieces = pieces }) d.copies)
      ≡ length pieces + sum_by (λ (c : RunningCopy ℕ). length c.pieces) d.copies =
      sum-put (λ (c : RunningCopy ℕ). length c.pieces) (λ c. nat_lt (d.lsn + 1) c.number)
      (record { number = d.lsn + 1; pieces = pieces }) d.copies in
      omega (arith, s)

  cancelled_entries : (n : ℕ) → entries (cancelled d n) ≤ entries d
  unfolding entries cancelled
  cancelled_entries n =
      let s : sum_by (λ (c : RunningClone ℕ). length c.image + length c.target) (first_removed (λ c. c.number == n) d.clones)
      ≤ sum_by (λ (c : RunningClone ℕ). length c.image + length c.target) d.clones =
      sum-removed (λ (c : RunningClone ℕ). length c.image + length c.target) (λ c. c.number == n) d.clones in
      let t : sum_by (λ (c : RunningCopy ℕ). length c.pieces) (first_removed (λ c. c.number == n) d.copies)
      ≤ sum_by (λ (c : RunningCopy ℕ). length c.pieces) d.copies =
      sum-removed (λ (c : RunningCopy ℕ). length c.pieces) (λ c. c.number == n) d.copies in
      omega (arith, s, t)

  deleted_entries : (n : ℕ) → entries (record d { volumes = first_removed (λ v. v.number == n) d.volumes }) ≤ entries d
  unfolding entries
  deleted_entries n =
      let s : sum_by (λ (v : Volume ℕ). length v.chunks) (first_removed (λ v. v.number == n) d.volumes)
      ≤ sum_by (λ (v : Volume ℕ). length v.chunks) d.volumes =
      sum-removed (λ (v : Volume ℕ). length v.chunks) (λ v. v.number == n) d.volumes in
      omega (arith, s)

  going_on_entries : (t : Task) (n : ℕ) (c : RunningClone ℕ) (target : List ℕ) → clone_of d t.number ≡ Some c
      → length target ≡ length c.target → entries (clone_goes_on d t n target) ≤ entries d
  unfolding entries
  going_on_entries t n c target e long =
      let s : sum_by (λ (b : RunningClone ℕ). length b.image + length b.target)
      (first_changed (λ b. b.number == t.number) (λ b. record b { target = target }) d.clones)
      ≤ sum_by (λ (b : RunningClone ℕ). length b.image + length b.target) d.clones + 0 =
      sum-changed (λ (b : RunningClone ℕ). length b.image + length b.target) (λ b. b.number == t.number)
      (λ b. record b { target = target }) 0 d.clones
      (λ b found. let same : ◌≡◌ {A = RunningClone ℕ} c b = cc in
      let l : length target ≡ length b.target = rw same at long in omega (arith, l)) in
      omega (arith, s)

  ending_entries : (t : Task) (n source : ℕ) (c : RunningClone ℕ) (target : List ℕ) → clone_of d t.number ≡ Some c
      → length target ≡ length c.target → entries (clone_ends d t n source c target) ≤ entries d
  unfolding entries
  ending_entries t n source c target e long =
      let s : sum_by (λ (b : RunningClone ℕ). length b.image + length b.target) (first_removed (λ b. b.number == t.number) d.clones)
      + (length c.image + length c.target) ≡ sum_by (λ (b : RunningClone ℕ). length b.image + length b.target) d.clones =
      sum-removed_found (λ (b : RunningClone ℕ). length b.image + length b.target) (λ b. b.number == t.number) c d.clones e in
      let v : sum_by (λ (w : Volume ℕ). length w.chunks)
      (put_before (λ (w : Volume ℕ). nat_lt c.number w.number) (cloned_volume c source target) d.volumes)
      ≡ length target + sum_by (λ (w : Volume ℕ). length w.chunks) d.volumes =
      sum-put (λ (w : Volume ℕ). length w.chunks) (λ w. nat_lt c.number w.number) (cloned_volume c source target) d.volumes in
      omega (arith, s, v, long)

  copy_ending_entries : (t : Task) (target : ℕ) (c : RunningCopy ℕ) → entries (copy_ends d t target c) ≤ entries d
  unfolding entries
  copy_ending_entries t target c =
      let s : sum_by (λ (b : RunningCopy ℕ). length b.pieces) (first_removed (λ b. b.number == t.number) d.copies)
      ≤ sum_by (λ (b : RunningCopy ℕ). length b.pieces) d.copies =
      sum-removed (λ (b : RunningCopy ℕ). length b.pieces) (λ b. b.number == t.number) d.copies in
      let v : sum_by (λ (w : Volume ℕ). length w.chunks)
      (first_changed (λ w. w.number == target) (λ w. record w { chunks = pieces_put c.pieces w.chunks }) d.volumes)
      ≤ sum_by (λ (w : Volume ℕ). length w.chunks) d.volumes + 0 =
      sum-changed (λ (w : Volume ℕ). length w.chunks) (λ w. w.number == target)
      (λ w. record w { chunks = pieces_put c.pieces w.chunks }) 0 d.volumes
      (λ w found. let l : length (pieces_put c.pieces w.chunks) ≡ length w.chunks =
      length-put_at (map (λ p. p.index) c.pieces) (map (λ p. p.chunk) c.pieces) w.chunks in omega (arith, l)) in
      omega (arith, s, v)

  same_entries : (tasks : List Task) → entries (record d { tasks = tasks }) ≤ entries d
  unfolding entries
  same_entries tasks = omega arith

  job_entries : (values : List ℕ) (t : Task) (job : Job) → entries (job_turned (λ s. s) values d t job) ≤ entries d
  job_entries values t (Clone source) =
      let f : entries (if_found (clone_of d t.number) (clone_turned (λ s. s) values d t source) d) ≤ entries d + 0 =
      found_entries (clone_of d t.number) (clone_turned (λ s. s) values d t source) 0
      (λ c e. let is = turn_indexes (map (λ s. s) c.image) t.done in
      let l : length (put_at is values c.target) ≡ length c.target = length-put_at is values c.target in
      let h : entries (clone_turned (λ s. s) values d t source c) ≤ entries d =
      either_entries (is_last t (length is)) (clone_ends d t (length is) source c (put_at is values c.target))
      (clone_goes_on d t (length is) (put_at is values c.target))
      (ending_entries t (length is) source c (put_at is values c.target) e l)
      (going_on_entries t (length is) c (put_at is values c.target) e l) in
      omega (arith, h)) in
      omega (arith, f)
  job_entries values t (Copy source base target) =
      let f : entries (if_found (copy_of d t.number) (copy_turned d t target) d) ≤ entries d + 0 =
      found_entries (copy_of d t.number) (copy_turned d t target) 0
      (λ c e. let h : entries (copy_turned d t target c) ≤ entries d =
      either_entries (is_last t (next_piece t)) (copy_ends d t target c) (copy_goes_on d t)
      (copy_ending_entries t target c) (same_entries _) in omega (arith, h)) in
      omega (arith, f)

  turned_entries : (values : List ℕ) (n : ℕ) → entries (turned (λ s. s) values d n) ≤ entries d
  unfolding turned
  turned_entries values n =
      let f : entries (if_found (task_of d n) (λ t. cond (is_running t) (job_turned (λ s. s) values d t t.job) d) d) ≤ entries d + 0 =
      found_entries (task_of d n) (λ t. cond (is_running t) (job_turned (λ s. s) values d t t.job) d) 0
      (λ t e. let h : entries (cond (is_running t) (job_turned (λ s. s) values d t t.job) d) ≤ entries d =
      either_entries (is_running t) (job_turned (λ s. s) values d t t.job) d (job_entries values t t.job) (omega arith) in
      omega (arith, h)) in
      omega (arith, f)

-- An accepted change leaves the entries within the map.
pub within_limit : (misfit : Option Misfit) (values : List ℕ) (d : Durable ℕ) (c : Change) → judge misfit d c ≡ Accept
    → entries d ≤ d.geometry.map_chunks → entries (effect (λ s. s) values 0 d c) ≤ d.geometry.map_chunks
unfolding effect room_checks with_clone with_copy
within_limit misfit values d (MakeContainer quota offers) e h = unfold entries in h
within_limit misfit values d (MakeVolume k vtype chunks needs) e h =
    let m : entries d + chunks ≤ d.geometry.map_chunks =
    within_map d chunks (passed_room misfit d (MakeVolume k vtype chunks needs) e 3) in
    let a : entries (effect (λ s. s) values 0 d (MakeVolume k vtype chunks needs)) ≡ entries d + length {A = ℕ} (replicate chunks 0) =
    added_entries d (record { number = d.lsn + 1; container = k; vtype = vtype; kind = Plain; reverted = 0; needs = needs; metadata = []; chunks = replicate chunks 0 }) in
    let l : length {A = ℕ} (replicate chunks 0) ≡ chunks = length-replicate chunks 0 in
    omega (arith, m, a, l)
within_limit misfit values d (DeleteVolume n) e h = let a = deleted_entries d n in omega (arith, a, h)
within_limit misfit values d (GrowVolume n chunks) e h =
    let m : entries d + (chunks - size_of d n) ≤ d.geometry.map_chunks =
    within_map d (chunks - size_of d n) (passed_room misfit d (GrowVolume n chunks) e 1) in
    let a : entries (with_volume d n (λ v. record v { chunks = v.chunks ++ replicate (chunks - length v.chunks) 0 })) ≤ entries d + (chunks - size_of d n) =
    changed_entries d n (λ v. record v { chunks = v.chunks ++ replicate (chunks - length v.chunks) 0 }) (chunks - size_of d n)
    (λ v found. let z : size_of d n ≡ length v.chunks = size_found d n v found in
    let l : length (v.chunks ++ replicate (chunks - length v.chunks) 0) ≡ length v.chunks + (chunks - length v.chunks) =
    length-append v.chunks (replicate (chunks - length v.chunks) 0)
    ∙ ap (λ k. length v.chunks + k) (length-replicate (chunks - length v.chunks) 0) in
    omega (arith, z, l)) in
    omega (arith, m, a)
within_limit misfit values d (SetMetadata n key text) e h =
    let a : entries (effect (λ s. s) values 0 d (SetMetadata n key text)) ≤ entries d + 0 =
    changed_entries d n _ 0 (λ v found. omega arith) in
    omega (arith, a, h)
within_limit misfit values d (Snapshot n) e h =
    let m : entries d + size_of d n ≤ d.geometry.map_chunks = within_map d (size_of d n) (passed_room misfit d (Snapshot n) e 4) in
    let a : entries (effect (λ s. s) values 0 d (Snapshot n)) ≤ entries d + size_of d n =
    found_entries d (volume_of d n) (λ v. and_volume d (record v { number = d.lsn + 1; kind = SnapshotOf (record { 0 = n }) })) (size_of d n)
    (λ v found. let z : size_of d n ≡ length v.chunks = size_found d n v found in
    let b = added_entries d (record v { number = d.lsn + 1; kind = SnapshotOf (record { 0 = n }) }) in omega (arith, z, b)) in
    omega (arith, m, a)
within_limit misfit values d (FastClone n) e h =
    let m : entries d + size_of d n ≤ d.geometry.map_chunks = within_map d (size_of d n) (passed_room misfit d (FastClone n) e 4) in
    let a : entries (effect (λ s. s) values 0 d (FastClone n)) ≤ entries d + size_of d n =
    found_entries d (volume_of d n) (λ v. and_volume d (record v { number = d.lsn + 1; kind = FastCloneOf (record { 0 = n }) })) (size_of d n)
    (λ v found. let z : size_of d n ≡ length v.chunks = size_found d n v found in
    let b = added_entries d (record v { number = d.lsn + 1; kind = FastCloneOf (record { 0 = n }) }) in omega (arith, z, b)) in
    omega (arith, m, a)
within_limit misfit values d (Revert n snapshot) e h =
    let k = size_of d snapshot - size_of d n in
    let m : entries d + k ≤ d.geometry.map_chunks = within_map_positive d k (passed_room misfit d (Revert n snapshot) e 2) h in
    let a : entries (effect (λ s. s) values 0 d (Revert n snapshot)) ≤ entries d + k =
    found_entries d (volume_of d snapshot) (λ s. with_volume d n (λ v. record v { chunks = s.chunks; reverted = d.lsn + 1 })) k
    (λ s at. let y : size_of d snapshot ≡ length s.chunks = size_found d snapshot s at in
    changed_entries d n (λ v. record v { chunks = s.chunks; reverted = d.lsn + 1 }) k
    (λ v found. let z : size_of d n ≡ length v.chunks = size_found d n v found in omega (arith, y, z))) in
    omega (arith, m, a)
within_limit misfit values d (Write n first blocks) e h =
    let a : entries (with_volume d n (λ v. record v { chunks = put_at (touched_indexes d.geometry.chunk_blocks first blocks) values v.chunks })) ≤ entries d + 0 =
    changed_entries d n (λ v. record v { chunks = put_at (touched_indexes d.geometry.chunk_blocks first blocks) values v.chunks }) 0
    (λ v found. let l = length-put_at (touched_indexes d.geometry.chunk_blocks first blocks) values v.chunks in omega (arith, l)) in
    omega (arith, a, h)
within_limit misfit values d (Unmap n ranges) e h =
    let a : entries (with_volume d n (λ v. record v { chunks = unmapped_in (λ s. s) 0 ranges v.chunks })) ≤ entries d + 0 =
    changed_entries d n (λ v. record v { chunks = unmapped_in (λ s. s) 0 ranges v.chunks }) 0
    (λ v found. let l : length (unmapped_in (λ s. s) 0 ranges v.chunks) ≡ length v.chunks = length-mapped_from _ 0 v.chunks in omega (arith, l)) in
    omega (arith, a, h)
within_limit misfit values d (SetEndpoints host endpoints) e h = unfold entries in h
within_limit misfit values d (Bind host n) e h = unfold entries in h
within_limit misfit values d (Unbind host endpoint secondary) e h = unfold entries in h
within_limit misfit values d (UnbindAll host) e h = unfold entries in h
within_limit misfit values d (StartClone n) e h =
    let m : entries d + 2 * size_of d n ≤ d.geometry.map_chunks = within_map d (2 * size_of d n) (passed_room misfit d (StartClone n) e 6) in
    let a : entries (if_found (volume_of d n) (clone_started (λ s. s) 0 d n) d) ≤ entries d + 2 * size_of d n =
    found_entries d (volume_of d n) (clone_started (λ s. s) 0 d n) (2 * size_of d n)
    (λ v found. let z : size_of d n ≡ length v.chunks = size_found d n v found in
    let b = cloned_entries d n v in omega (arith, z, b)) in
    omega (arith, m, a)
within_limit misfit values d (StartCopy source base target) e h =
    let ps : List (Piece ℕ) = difference (λ s. s) (stamps_of d source) (stamps_of d base) in
    let m : entries d + length ps ≤ d.geometry.map_chunks = within_map d (length ps) (passed_room misfit d (StartCopy source base target) e 3) in
    let a : entries (if_found (volume_of d source) (λ v. if_found (volume_of d base)
    (λ w. copy_started d (Copy source base target) (difference (λ s. s) v.chunks w.chunks)) d) d) ≤ entries d + length ps =
    found_entries d (volume_of d source) (λ v. if_found (volume_of d base)
    (λ w. copy_started d (Copy source base target) (difference (λ s. s) v.chunks w.chunks)) d) (length ps)
    (λ v at. found_entries d (volume_of d base)
    (λ w. copy_started d (Copy source base target) (difference (λ s. s) v.chunks w.chunks)) (length ps)
    (λ w found. let b = copied_entries d (Copy source base target) (difference (λ s. s) v.chunks w.chunks) in
    let y : stamps_of d source ≡ v.chunks = stamps_found d source v at in
    let z : stamps_of d base ≡ w.chunks = stamps_found d base w found in
    let l : length ps ≡ length (difference (λ s. s) v.chunks w.chunks) =
    ap (λ xs. length (difference (λ s. s) xs (stamps_of d base))) y
    ∙ ap (λ xs. length (difference (λ s. s) v.chunks xs)) z in
    omega (arith, b, l))) in
    omega (arith, m, a)
within_limit misfit values d (Turn n) e h = let a = turned_entries d values n in omega (arith, a, h)
within_limit misfit values d (Cancel n) e h = let a = cancelled_entries d n in omega (arith, a, h)

pub entries_stay : (misfit : Option Misfit) (d : Durable ℕ) (c : Change) → judge misfit d c ≡ Accept
    → entries d ≤ d.geometry.map_chunks → entries (apply_shape d c) ≤ d.geometry.map_chunks
unfolding apply_shape apply entries
entries_stay misfit d c e h = within_limit misfit _ d c e h
