-- A change goes with a function of the chunks that keeps their stamps: changing and then mapping is mapping and then
-- changing. So the shape goes its own way, and tables that are filled with bytes go as the flat array goes.
use Rattle.std.proofs.Common.{◌≡◌, ℕ, ◌+◌, ◌-◌, ◌==◌, not, refl, ap, sym, ◌∙◌, cond, List, [], ◌++◌, map, length, replicate}
use Rattle.std.specs.Prelude.{Option, Some, None, nat_lt, ◌&&◌}
use Rattle.std.specs.List.{filter}
use Rattle.std.proofs.lemmas.List.{map-append, length-map}
use Rattle.vv_units.specs.declared.volume.VolumeKind.TheVariants.{Plain}
use Rattle.vv_flat.specs.Lists.{if_found, put_at, mapped_from}
use Rattle.vv_flat.specs.State.{Durable, Volume, RunningClone, RunningCopy, Piece, Task, Job, Clone, Copy, map_durable, map_volume, map_clone, map_copy, map_piece, volume_of, clone_of, copy_of, task_of}
use Rattle.vv_flat.specs.Chunks.{unmapped_in, is_in_ranges, touched_indexes}
use Rattle.vv_flat.specs.Space.{is_running}
use Rattle.vv_flat.specs.Bits.{is_unshared}
use Rattle.vv_flat.specs.Tasks.{turn_indexes, is_last, advanced, with_task, cloned_volume, without_clone, without_copy, clone_goes_on, clone_ends, clone_turned, pieces_put, copy_ends, copy_turned, job_turned, turned, job_indexes, turned_indexes, cancelled, clone_of_volume, clone_started, with_clone, difference, copy_started, with_copy, next_piece}
use Rattle.vv_flat.specs.Changes.{Change, MakeContainer, MakeVolume, DeleteVolume, GrowVolume, SetMetadata, Snapshot, FastClone, Revert, Write, Unmap, SetEndpoints, Bind, Unbind, UnbindAll, StartClone, StartCopy, Turn, Cancel, with_volume, and_volume, effect, apply, changed_indexes}
use Rattle.vv_flat.proofs.MapLists.{of_cond, map-first_changed, map-put_before, map-first_removed, map-filter, map-found, map-put_at, map-mapped_from, map-replicate, map-after}

module _ {X Y : Type 0} (f : X → Y) where
  -- the volume of a number, and what is made of it
  pub map-volume_of : {C D : Type 0} (d : Durable X) (n : ℕ) (m : C → D) (g : Volume X → C) (h : Volume Y → D) (c : C) (e : D)
      → ((v : Volume X) → m (g v) ≡ h (map_volume f v)) → m c ≡ e
      → m (if_found (volume_of d n) g c) ≡ if_found (volume_of (map_durable f d) n) h e
  map-volume_of d n m g h c e goes same =
      map-found (map_volume f) (λ v. v.number == n) (λ v. v.number == n) (λ v. refl) m g h c e goes same d.volumes

  pub map-clone_of : {C D : Type 0} (d : Durable X) (n : ℕ) (m : C → D) (g : RunningClone X → C) (h : RunningClone Y → D) (c : C) (e : D)
      → ((v : RunningClone X) → m (g v) ≡ h (map_clone f v)) → m c ≡ e
      → m (if_found (clone_of d n) g c) ≡ if_found (clone_of (map_durable f d) n) h e
  map-clone_of d n m g h c e goes same =
      map-found (map_clone f) (λ v. v.number == n) (λ v. v.number == n) (λ v. refl) m g h c e goes same d.clones

  pub map-copy_of : {C D : Type 0} (d : Durable X) (n : ℕ) (m : C → D) (g : RunningCopy X → C) (h : RunningCopy Y → D) (c : C) (e : D)
      → ((v : RunningCopy X) → m (g v) ≡ h (map_copy f v)) → m c ≡ e
      → m (if_found (copy_of d n) g c) ≡ if_found (copy_of (map_durable f d) n) h e
  map-copy_of d n m g h c e goes same =
      map-found (map_copy f) (λ v. v.number == n) (λ v. v.number == n) (λ v. refl) m g h c e goes same d.copies

  pub map-task_of : {C D : Type 0} (o : Option Task) (m : C → D) (g : Task → C) (h : Task → D) (c : C) (e : D)
      → ((t : Task) → m (g t) ≡ h t) → m c ≡ e → m (if_found o g c) ≡ if_found o h e
  map-task_of None m g h c e goes same = same
  map-task_of (Some t) m g h c e goes same = goes t

  pub map-with_volume : (d : Durable X) (n : ℕ) (g : Volume X → Volume X) (h : Volume Y → Volume Y)
      → ((v : Volume X) → map_volume f (g v) ≡ h (map_volume f v))
      → map_durable f (with_volume d n g) ≡ with_volume (map_durable f d) n h
  map-with_volume d n g h goes =
      ap (λ vs. record (map_durable f d) { volumes = vs })
      (map-first_changed (map_volume f) (λ v. v.number == n) (λ v. v.number == n) (λ v. refl) g h goes d.volumes)

  pub map-and_volume : (d : Durable X) (v : Volume X) (w : Volume Y) → map_volume f v ≡ w
      → map_durable f (and_volume d v) ≡ and_volume (map_durable f d) w
  map-and_volume d v w e =
      ap (λ vs. record (map_durable f d) { volumes = vs })
      (map-put_before (map_volume f) (λ u. nat_lt v.number u.number) (λ u. nat_lt v.number u.number) (λ u. refl) v (map_volume f v) refl d.volumes)
      ∙ ap (λ u. and_volume (map_durable f d) u) e

  pub map-grown : (n : ℕ) (u : X) (xs : List X) → map f (xs ++ replicate (n - length xs) u) ≡ map f xs ++ replicate (n - length (map f xs)) (f u)
  map-grown n u xs = rw (map-append f xs (replicate (n - length xs) u), map-replicate f (n - length xs) u, length-map xs f)

  pub map-without_clone : (n : ℕ) (cs : List (RunningClone X)) → map (map_clone f) (without_clone n cs) ≡ without_clone n (map (map_clone f) cs)
  map-without_clone n cs = map-first_removed (map_clone f) (λ c. c.number == n) (λ c. c.number == n) (λ c. refl) cs

  pub map-without_copy : (n : ℕ) (cs : List (RunningCopy X)) → map (map_copy f) (without_copy n cs) ≡ without_copy n (map (map_copy f) cs)
  map-without_copy n cs = map-first_removed (map_copy f) (λ c. c.number == n) (λ c. c.number == n) (λ c. refl) cs

  pub map-cancelled : (d : Durable X) (n : ℕ) → map_durable f (cancelled d n) ≡ cancelled (map_durable f d) n
  unfolding cancelled
  map-cancelled d n = rw (map-without_clone n d.clones, map-without_copy n d.copies)

  pub map-clone_goes_on : (d : Durable X) (t : Task) (n : ℕ) (target : List X)
      → map_durable f (clone_goes_on d t n target) ≡ clone_goes_on (map_durable f d) t n (map f target)
  map-clone_goes_on d t n target =
      ap (λ cs. record (map_durable f d) { tasks = with_task d.tasks (advanced t n); clones = cs })
      (map-first_changed (map_clone f) (λ c. c.number == t.number) (λ c. c.number == t.number) (λ c. refl)
      (λ c. record c { target = target }) (λ c. record c { target = map f target }) (λ c. refl) d.clones)

  pub map-clone_ends : (d : Durable X) (t : Task) (n source : ℕ) (c : RunningClone X) (target : List X)
      → map_durable f (clone_ends d t n source c target) ≡ clone_ends (map_durable f d) t n source (map_clone f c) (map f target)
  map-clone_ends d t n source c target =
      rw (
        map-without_clone t.number d.clones,
        map-put_before (map_volume f) (λ v. nat_lt c.number v.number) (λ v. nat_lt c.number v.number) (λ v. refl)
            (cloned_volume c source target) (cloned_volume (map_clone f c) source (map f target)) refl d.volumes,
      )

  pub map-pieces_put : (pieces : List (Piece X)) (xs : List X)
      → map f (pieces_put pieces xs) ≡ pieces_put (map (map_piece f) pieces) (map f xs)
  map-pieces_put pieces xs =
      rw (
        map-put_at f (map (λ p. p.index) pieces) (map (λ p. p.chunk) pieces) xs,
        map-after (map_piece f) (λ p. p.index) (λ p. p.index) (λ p. refl) pieces,
        map-after (map_piece f) (λ p. p.chunk) (λ p. f p.chunk) (λ p. refl) pieces,
        map-after (λ (p : Piece X). p.chunk) f (λ p. f p.chunk) (λ p. refl) pieces,
      )

  pub map-copy_ends : (d : Durable X) (t : Task) (target : ℕ) (c : RunningCopy X)
      → map_durable f (copy_ends d t target c) ≡ copy_ends (map_durable f d) t target (map_copy f c)
  map-copy_ends d t target c =
      rw (
        map-without_copy t.number d.copies,
        map-first_changed (map_volume f) (λ v. v.number == target) (λ v. v.number == target) (λ v. refl)
            (λ v. record v { chunks = pieces_put c.pieces v.chunks })
            (λ v. record v { chunks = pieces_put (map (map_piece f) c.pieces) v.chunks })
            (λ v. ap (λ xs. record (map_volume f v) { chunks = xs }) (map-pieces_put c.pieces v.chunks)) d.volumes,
      )

  pub map-copy_turned : (d : Durable X) (t : Task) (target : ℕ) (c : RunningCopy X)
      → map_durable f (copy_turned d t target c) ≡ copy_turned (map_durable f d) t target (map_copy f c)
  map-copy_turned d t target c =
      of_cond (map_durable f) (is_last t (next_piece t)) (map-copy_ends d t target c) refl

module _ {X Y : Type 0} (f : X → Y) (s : X → ℕ) (t : Y → ℕ) (same : (x : X) → t (f x) ≡ s x) where
  -- the stamps stay
  pub same_stamps : (xs : List X) → map t (map f xs) ≡ map s xs
  same_stamps xs = map-after f t s same xs

  pub map-clone_turned : (values : List X) (d : Durable X) (k : Task) (source : ℕ) (c : RunningClone X)
      → map_durable f (clone_turned s values d k source c)
      ≡ clone_turned t (map f values) (map_durable f d) k source (map_clone f c)
  map-clone_turned values d k source c =
      rw (same_stamps c.image, ← (map-put_at f (turn_indexes (map s c.image) k.done) values c.target))
      (of_cond (map_durable f) (is_last k (length (turn_indexes (map s c.image) k.done)))
      (map-clone_ends f d k (length (turn_indexes (map s c.image) k.done)) source c
      (put_at (turn_indexes (map s c.image) k.done) values c.target))
      (map-clone_goes_on f d k (length (turn_indexes (map s c.image) k.done))
      (put_at (turn_indexes (map s c.image) k.done) values c.target)))

  pub map-job_turned : (values : List X) (d : Durable X) (k : Task) (job : Job)
      → map_durable f (job_turned s values d k job) ≡ job_turned t (map f values) (map_durable f d) k job
  map-job_turned values d k (Clone source) =
      map-clone_of f d k.number (map_durable f) (clone_turned s values d k source)
      (clone_turned t (map f values) (map_durable f d) k source) d (map_durable f d)
      (map-clone_turned values d k source) refl
  map-job_turned values d k (Copy source base target) =
      map-copy_of f d k.number (map_durable f) (copy_turned d k target) (copy_turned (map_durable f d) k target) d
      (map_durable f d) (map-copy_turned f d k target) refl

  pub map-turned : (values : List X) (d : Durable X) (n : ℕ)
      → map_durable f (turned s values d n) ≡ turned t (map f values) (map_durable f d) n
  unfolding turned
  map-turned values d n =
      map-task_of f (task_of d n) (map_durable f)
      (λ k. cond (is_running k) (job_turned s values d k k.job) d)
      (λ k. cond (is_running k) (job_turned t (map f values) (map_durable f d) k k.job) (map_durable f d)) d
      (map_durable f d) (λ k. of_cond (map_durable f) (is_running k) (map-job_turned values d k k.job) refl) refl

  pub same-job_indexes : (d : Durable X) (k : Task) (job : Job) → job_indexes t (map_durable f d) k job ≡ job_indexes s d k job
  same-job_indexes d k (Clone source) =
      sym (map-clone_of f d k.number (λ is. is) (λ c. turn_indexes (map s c.image) k.done)
      (λ c. turn_indexes (map t c.image) k.done) [] []
      (λ c. ap (λ stamps. turn_indexes stamps k.done) (sym (same_stamps c.image))) refl)
  same-job_indexes d k (Copy source base target) = refl

  pub same-turned_indexes : (d : Durable X) (n : ℕ) → turned_indexes t (map_durable f d) n ≡ turned_indexes s d n
  unfolding turned_indexes
  same-turned_indexes d n =
      sym (map-task_of f (task_of d n) (λ is. is) (λ k. cond (is_running k) (job_indexes s d k k.job) [])
      (λ k. cond (is_running k) (job_indexes t (map_durable f d) k k.job) []) [] []
      (λ k. ap (λ is. cond (is_running k) is []) (sym (same-job_indexes d k k.job))) refl)

  pub same-changed_indexes : (d : Durable X) (c : Change) → changed_indexes t (map_durable f d) c ≡ changed_indexes s d c
  unfolding changed_indexes
  same-changed_indexes d (MakeContainer quota offers) = refl
  same-changed_indexes d (MakeVolume k vtype chunks needs) = refl
  same-changed_indexes d (DeleteVolume n) = refl
  same-changed_indexes d (GrowVolume n chunks) = refl
  same-changed_indexes d (SetMetadata n key text) = refl
  same-changed_indexes d (Snapshot n) = refl
  same-changed_indexes d (FastClone n) = refl
  same-changed_indexes d (Revert n snapshot) = refl
  same-changed_indexes d (Write n first blocks) = refl
  same-changed_indexes d (Unmap n ranges) = refl
  same-changed_indexes d (SetEndpoints host endpoints) = refl
  same-changed_indexes d (Bind host n) = refl
  same-changed_indexes d (Unbind host endpoint secondary) = refl
  same-changed_indexes d (UnbindAll host) = refl
  same-changed_indexes d (StartClone n) = refl
  same-changed_indexes d (StartCopy source base target) = refl
  same-changed_indexes d (Turn n) = same-turned_indexes d n
  same-changed_indexes d (Cancel n) = refl

  pub map-unmapped_in : (u : X) (ranges : List (ℕ × ℕ)) (xs : List X)
      → map f (unmapped_in s u ranges xs) ≡ unmapped_in t (f u) ranges (map f xs)
  map-unmapped_in u ranges xs =
      map-mapped_from f f (λ i x. cond (is_in_ranges ranges i && not (s x == 0)) u x)
      (λ i y. cond (is_in_ranges ranges i && not (t y == 0)) (f u) y)
      (λ i x. rw (same x) (of_cond f (is_in_ranges ranges i && not (s x == 0)) refl refl)) 0 xs

  pub map-clone_started : (u : X) (d : Durable X) (n : ℕ) (v : Volume X)
      → map_durable f (clone_started s u d n v) ≡ clone_started t (f u) (map_durable f d) n (map_volume f v)
  map-clone_started u d n v =
      rw (
        same_stamps v.chunks,
        map-put_before (map_clone f) (λ c. nat_lt (d.lsn + 1) c.number) (λ c. nat_lt (d.lsn + 1) c.number) (λ c. refl)
            (clone_of_volume u (d.lsn + 1) v) (clone_of_volume (f u) (d.lsn + 1) (map_volume f v))
            (rw (map-replicate f (length v.chunks) u, length-map v.chunks f)) d.clones,
      )

  pub map-with_clone : (u : X) (d : Durable X) (n : ℕ) → map_durable f (with_clone s u d n) ≡ with_clone t (f u) (map_durable f d) n
  unfolding with_clone
  map-with_clone u d n =
      map-volume_of f d n (map_durable f) (clone_started s u d n) (clone_started t (f u) (map_durable f d) n) d
      (map_durable f d) (map-clone_started u d n) refl

  pub map-difference : (xs ys : List X) → map (map_piece f) (difference s xs ys) ≡ difference t (map f xs) (map f ys)
  map-difference xs ys =
      map-filter (map_piece f) (λ p. is_unshared (map s ys) p.index (s p.chunk))
      (λ p. is_unshared (map t (map f ys)) p.index (t p.chunk))
      (λ p. rw (same_stamps ys, same p.chunk)) (mapped_from (λ i x. record { index = i; chunk = x }) 0 xs)
      ∙ ap (filter (λ p. is_unshared (map t (map f ys)) p.index (t p.chunk)))
      (map-mapped_from f (map_piece f) (λ i x. record { index = i; chunk = x }) (λ i y. record { index = i; chunk = y })
      (λ i x. refl) 0 xs)

  pub map-copy_started : (d : Durable X) (job : Job) (ps : List (Piece X)) (qs : List (Piece Y)) → map (map_piece f) ps ≡ qs
      → map_durable f (copy_started d job ps) ≡ copy_started (map_durable f d) job qs
  map-copy_started d job ps qs e =
      rw (
        ← e,
        length-map ps (map_piece f),
        map-put_before (map_copy f) (λ c. nat_lt (d.lsn + 1) c.number) (λ c. nat_lt (d.lsn + 1) c.number) (λ c. refl)
            (record { number = d.lsn + 1; pieces = ps }) (record { number = d.lsn + 1; pieces = map (map_piece f) ps }) refl d.copies,
      )

  pub map-with_copy : (d : Durable X) (source base target : ℕ)
      → map_durable f (with_copy s d source base target) ≡ with_copy t (map_durable f d) source base target
  unfolding with_copy
  map-with_copy d source base target =
      map-volume_of f d source (map_durable f)
      (λ v. if_found (volume_of d base) (λ w. copy_started d (Copy source base target) (difference s v.chunks w.chunks)) d)
      (λ v. if_found (volume_of (map_durable f d) base) (λ w. copy_started (map_durable f d) (Copy source base target) (difference t v.chunks w.chunks)) (map_durable f d))
      d (map_durable f d)
      (λ v. map-volume_of f d base (map_durable f)
      (λ w. copy_started d (Copy source base target) (difference s v.chunks w.chunks))
      (λ w. copy_started (map_durable f d) (Copy source base target) (difference t (map f v.chunks) w.chunks))
      d (map_durable f d)
      (λ w. map-copy_started d (Copy source base target) (difference s v.chunks w.chunks)
      (difference t (map f v.chunks) (map f w.chunks)) (map-difference v.chunks w.chunks)) refl) refl

  pub map-effect : (values : List X) (u : X) (d : Durable X) (c : Change)
      → map_durable f (effect s values u d c) ≡ effect t (map f values) (f u) (map_durable f d) c
  unfolding effect
  map-effect values u d (MakeContainer quota offers) = refl
  map-effect values u d (MakeVolume k vtype chunks needs) =
      map-and_volume f d _ _ (ap (λ xs. record { number = d.lsn + 1; container = k; vtype = vtype; kind = Plain; reverted = 0; needs = needs; metadata = []; chunks = xs }) (map-replicate f chunks u))
  map-effect values u d (DeleteVolume n) =
      ap (λ vs. record (map_durable f d) { volumes = vs }) (map-first_removed (map_volume f) (λ v. v.number == n) (λ v. v.number == n) (λ v. refl) d.volumes)
  map-effect values u d (GrowVolume n chunks) =
      map-with_volume f d n _ _ (λ v. ap (λ xs. record (map_volume f v) { chunks = xs }) (map-grown f chunks u v.chunks))
  map-effect values u d (SetMetadata n key text) = map-with_volume f d n _ _ (λ v. refl)
  map-effect values u d (Snapshot n) =
      map-volume_of f d n (map_durable f) _ _ d (map_durable f d) (λ v. map-and_volume f d _ _ refl) refl
  map-effect values u d (FastClone n) =
      map-volume_of f d n (map_durable f) _ _ d (map_durable f d) (λ v. map-and_volume f d _ _ refl) refl
  map-effect values u d (Revert n snapshot) =
      map-volume_of f d snapshot (map_durable f) _ _ d (map_durable f d) (λ v. map-with_volume f d n _ _ (λ w. refl)) refl
  map-effect values u d (Write n first blocks) =
      map-with_volume f d n _ _ (λ v. ap (λ xs. record (map_volume f v) { chunks = xs })
      (map-put_at f (touched_indexes d.geometry.chunk_blocks first blocks) values v.chunks))
  map-effect values u d (Unmap n ranges) =
      map-with_volume f d n _ _ (λ v. ap (λ xs. record (map_volume f v) { chunks = xs }) (map-unmapped_in u ranges v.chunks))
  map-effect values u d (SetEndpoints host endpoints) = refl
  map-effect values u d (Bind host n) = refl
  map-effect values u d (Unbind host endpoint secondary) = refl
  map-effect values u d (UnbindAll host) = refl
  map-effect values u d (StartClone n) = map-with_clone u d n
  map-effect values u d (StartCopy source base target) = map-with_copy d source base target
  map-effect values u d (Turn n) = map-turned values d n
  map-effect values u d (Cancel n) = map-cancelled f d n

  pub map-apply : (values : List X) (u : X) (d : Durable X) (c : Change)
      → map_durable f (apply s values u d c) ≡ apply t (map f values) (f u) (map_durable f d) c
  unfolding apply
  map-apply values u d c = ap {A = Durable Y} (λ e. record e { lsn = d.lsn + 1 }) (map-effect values u d c)
