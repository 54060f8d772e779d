-- Which chunks stand in a durable part after a change, and where: those that stood before, unmapped ones, and the new ones
-- at the changed indexes. So what holds of all these holds of all that stands. This is said of any kind of chunk.
use Rattle.std.proofs.Common.{◌≡◌, ℕ, zero, suc, ◌+◌, ◌-◌, ◌==◌, ◌&&◌, not, refl, ap, sym, ◌∙◌, Bool, true, false, cond, List, [], ◌∷◌, ◌++◌, map, length, replicate, set, arith}
use Rattle.std.specs.Prelude.{Option, Some, None, nat_lt}
use Rattle.std.specs.List.{list_all}
use Rattle.std.proofs.lemmas.Bool.{eqb-true}
use Rattle.vv_units.specs.declared.volume.VolumeKind.TheVariants.{Plain, SnapshotOf, FastCloneOf}
use Rattle.vv_flat.specs.Lists.{if_found, first_removed, put_at, mapped_from, all_rising}
use Rattle.vv_flat.specs.State.{Durable, Volume, RunningClone, RunningCopy, Piece, Task, Job, Clone, Copy, indexed, volume_of, clone_of, copy_of, task_of}
use Rattle.vv_flat.specs.Chunks.{is_in_ranges, unmapped_in, touched_indexes}
use Rattle.vv_flat.specs.Space.{is_running}
use Rattle.vv_flat.specs.Bits.{is_unshared}
use Rattle.vv_flat.specs.Tasks.{turned, job_turned, turned_indexes, job_indexes, clone_turned, clone_goes_on, clone_ends, copy_turned, copy_ends, copy_goes_on, pieces_put, cancelled, with_clone, with_copy, clone_started, copy_started, clone_of_volume, cloned_volume, difference, is_last, turn_indexes, next_piece}
use Rattle.vv_flat.specs.Changes.{Change, MakeContainer, MakeVolume, DeleteVolume, GrowVolume, SetMetadata, Snapshot, FastClone, Revert, Write, Unmap, SetEndpoints, Bind, Unbind, UnbindAll, StartClone, StartCopy, Turn, Cancel, with_volume, and_volume, effect, changed_indexes}
use Rattle.vv_flat.proofs.Steps.{find-passes}
use Rattle.vv_flat.proofs.Shares.{and_left, and_right, and_both, list_all-follows}
use Rattle.vv_flat.proofs.Known.{all-put, all-removed, all-changed, all-found, all-filter}
use Rattle.vv_flat.proofs.Lookups.{none-left}

-- the values of some indexes
abbrev pub pieces_at : {X : Type 0} → List ℕ → List X → List (Piece X)
pieces_at [] vs = []
pieces_at (i ∷ is) [] = []
pieces_at (i ∷ is) (v ∷ vs) = record { index = i; chunk = v } ∷ pieces_at is vs

-- What stands passes a test, kind by kind of list, and so do the numbers of the running clones. A test is told whether
-- the chunk is in the target of a running clone, and of which.
pub record AllPass (X : Type 0) (r : Option ℕ → Piece X → Bool) (q : ℕ → Bool) (d : Durable X) : Type 0 where
  pub volumes : list_all (λ (v : Volume X). list_all (r None) (indexed v.chunks)) d.volumes ≡ true
  pub clones : list_all (λ (c : RunningClone X). list_all (r None) (indexed c.image) && list_all (r (Some c.number)) (indexed c.target)) d.clones ≡ true
  pub copies : list_all (λ (c : RunningCopy X). list_all (r None) c.pieces) d.copies ≡ true
  pub numbers : list_all (λ (c : RunningClone X). q c.number) d.clones ≡ true

-- A durable part, the running clones that are left after a change, and what holds of all that can stand after it. A chunk
-- of a target may become one of a volume where its clone is no more.
pub record Kept (X : Type 0) (u : X) (d : Durable X) (left : List (RunningClone X)) (r : Option ℕ → Piece X → Bool) (q : ℕ → Bool) : Type 0 where
  pub free : (o : Option ℕ) (i : ℕ) → r o (record { index = i; chunk = u }) ≡ true
  pub stands : AllPass X r q d
  pub ends : (n : ℕ) → list_all (λ (c : RunningClone X). not (c.number == n)) left ≡ true → (p : Piece X)
      → r (Some n) p ≡ true → r None p ≡ true
  pub next : q (d.lsn + 1) ≡ true
  pub rise : all_rising (map (λ (c : RunningClone X). c.number) d.clones) ≡ true

-- where the new entries of a change stand
abbrev pub new_home : Change → Option ℕ
new_home (Turn n) = Some n
new_home _ = None

module _ {X : Type 0} (stamp_of : X → ℕ) (u : X) where
  pieces_again : (ps : List (Piece X))
      → pieces_at (map (λ (p : Piece X). p.index) ps) (map (λ (p : Piece X). p.chunk) ps) ≡ ps
  pieces_again [] = refl
  pieces_again (p ∷ ps) = ap (λ qs. p ∷ qs) (pieces_again ps)

  -- lists of entries that pass a test at their indexes, as unmapped ones do at every index
  module _ (q : Piece X → Bool) where
    abbrev all_at : ℕ → List X → Bool
    all_at i xs = list_all q (mapped_from (λ i x. record { index = i; chunk = x }) i xs)

    at_set : (j i k : ℕ) (v : X) (xs : List X) → j + i ≡ k → q (record { index = k; chunk = v }) ≡ true
        → all_at j xs ≡ true → all_at j (set xs i v) ≡ true
    at_set j i k v [] e f h = refl
    at_set j zero k v (x ∷ xs) e f h =
        let same : j ≡ k = omega arith in
        and_both (q (record { index = j; chunk = v })) _ (rw same f) (and_right (q (record { index = j; chunk = x })) _ h)
    at_set j (suc i) k v (x ∷ xs) e f h =
        and_both (q (record { index = j; chunk = x })) _ (and_left (q (record { index = j; chunk = x })) _ h)
        (at_set (j + 1) i k v xs (omega arith) f (and_right (q (record { index = j; chunk = x })) _ h))

    at_put : (is : List ℕ) (vs xs : List X) → list_all q (pieces_at is vs) ≡ true → all_at 0 xs ≡ true
        → all_at 0 (put_at is vs xs) ≡ true
    at_put [] vs xs f h = h
    at_put (i ∷ is) [] xs f h = h
    at_put (i ∷ is) (v ∷ vs) xs f h =
        at_put is vs (set xs i v) (and_right (q (record { index = i; chunk = v })) _ f)
        (at_set 0 i i v xs (omega arith) (and_left (q (record { index = i; chunk = v })) _ f) h)

    at_pieces : (ps : List (Piece X)) (xs : List X) → list_all q ps ≡ true → all_at 0 xs ≡ true
        → all_at 0 (pieces_put ps xs) ≡ true
    at_pieces ps xs f h =
        at_put (map (λ (p : Piece X). p.index) ps) (map (λ (p : Piece X). p.chunk) ps) xs
        (ap (list_all q) (pieces_again ps) ∙ f) h

    module _ (free : (i : ℕ) → q (record { index = i; chunk = u }) ≡ true) where
      at_replicate : (i n : ℕ) → all_at i (replicate n u) ≡ true
      at_replicate i zero = refl
      at_replicate i (suc n) =
          and_both (q (record { index = i; chunk = u })) _ (free i) (at_replicate (i + 1) n)

      at_append : (i n : ℕ) (xs : List X) → all_at i xs ≡ true → all_at i (xs ++ replicate n u) ≡ true
      at_append i n [] h = at_replicate i n
      at_append i n (x ∷ xs) h =
          and_both (q (record { index = i; chunk = x })) _ (and_left (q (record { index = i; chunk = x })) _ h)
          (at_append (i + 1) n xs (and_right (q (record { index = i; chunk = x })) _ h))

      unmapped_step : (i : ℕ) (x : X) (b : Bool) → q (record { index = i; chunk = x }) ≡ true
          → q (record { index = i; chunk = (cond b u x) }) ≡ true
      unmapped_step i x true h = free i
      unmapped_step i x false h = h

      at_unmapped : (ranges : List (ℕ × ℕ)) (i : ℕ) (xs : List X) → all_at i xs ≡ true
          → all_at i (mapped_from (λ i (x : X). cond (is_in_ranges ranges i && not (stamp_of x == 0)) u x) i xs) ≡ true
      at_unmapped ranges i [] h = refl
      at_unmapped ranges i (x ∷ xs) h =
          and_both (q (record { index = i; chunk = (cond (is_in_ranges ranges i && not (stamp_of x == 0)) u x) })) _
          (unmapped_step i x (is_in_ranges ranges i && not (stamp_of x == 0)) (and_left (q (record { index = i; chunk = x })) _ h))
          (at_unmapped ranges (i + 1) xs (and_right (q (record { index = i; chunk = x })) _ h))

  module _ (d : Durable X) (left : List (RunningClone X)) (r : Option ℕ → Piece X → Bool) (q : ℕ → Bool) (k : Kept X u d left r q) where
    stood : AllPass X r q d
    stood = k.stands

    abbrev Right : Durable X → Type 0
    Right e = e.clones ≡ left → AllPass X r q e

    found_right : {A : Type 0} (o : Option A) (h : A → Durable X) → ((x : A) → o ≡ Some x → Right (h x)) → Right (if_found o h d)
    found_right None h there = λ is. stood
    found_right (Some x) h there = there x refl

    either_right : (b : Bool) (x y : Durable X) → Right x → Right y → Right (cond b x y)
    either_right true x y h g = h
    either_right false x y h g = g

    volume_right : (n : ℕ) (v : Volume X) → volume_of d n ≡ Some v → list_all (r None) (indexed v.chunks) ≡ true
    volume_right n v e =
        all-found (λ (w : Volume X). list_all (r None) (indexed w.chunks)) (λ w. w.number == n) v d.volumes stood.volumes e

    clone_right : (n : ℕ) (c : RunningClone X) → clone_of d n ≡ Some c
        → (list_all (r None) (indexed c.image) && list_all (r (Some c.number)) (indexed c.target)) ≡ true
    clone_right n c e =
        all-found (λ (b : RunningClone X). list_all (r None) (indexed b.image) && list_all (r (Some b.number)) (indexed b.target))
        (λ b. b.number == n) c d.clones stood.clones e

    copy_right : (n : ℕ) (c : RunningCopy X) → copy_of d n ≡ Some c → list_all (r None) c.pieces ≡ true
    copy_right n c e = all-found (λ (b : RunningCopy X). list_all (r None) b.pieces) (λ b. b.number == n) c d.copies stood.copies e

    with_right : (n : ℕ) (g : Volume X → Volume X)
        → ((v : Volume X) → list_all (r None) (indexed v.chunks) ≡ true → list_all (r None) (indexed (g v).chunks) ≡ true)
        → AllPass X r q (with_volume d n g)
    with_right n g h = record {
      volumes = all-changed (λ (w : Volume X). list_all (r None) (indexed w.chunks)) (λ w. w.number == n) g d.volumes
          stood.volumes (λ v found. h v);
      clones = stood.clones;
      copies = stood.copies;
      numbers = stood.numbers;
    }

    one_more_right : (v : Volume X) → list_all (r None) (indexed v.chunks) ≡ true → AllPass X r q (and_volume d v)
    one_more_right v h = record {
      volumes = all-put (λ (w : Volume X). list_all (r None) (indexed w.chunks)) (λ w. nat_lt v.number w.number) v d.volumes h
          stood.volumes;
      clones = stood.clones;
      copies = stood.copies;
      numbers = stood.numbers;
    }

    deleted_right : (n : ℕ) → AllPass X r q (record d { volumes = first_removed (λ (v : Volume X). v.number == n) d.volumes })
    deleted_right n = record {
      volumes = all-removed (λ (w : Volume X). list_all (r None) (indexed w.chunks)) (λ w. w.number == n) d.volumes stood.volumes;
      clones = stood.clones;
      copies = stood.copies;
      numbers = stood.numbers;
    }

    cancelled_right : (n : ℕ) → AllPass X r q (cancelled d n)
    unfolding cancelled
    cancelled_right n = record {
      volumes = stood.volumes;
      clones = all-removed
          (λ (c : RunningClone X). list_all (r None) (indexed c.image) && list_all (r (Some c.number)) (indexed c.target))
          (λ c. c.number == n) d.clones stood.clones;
      copies = all-removed (λ (c : RunningCopy X). list_all (r None) c.pieces) (λ c. c.number == n) d.copies stood.copies;
      numbers = all-removed (λ (c : RunningClone X). q c.number) (λ c. c.number == n) d.clones stood.numbers;
    }

    clone_started_right : (n : ℕ) (v : Volume X) → volume_of d n ≡ Some v
        → AllPass X r q (clone_started stamp_of u d n v)
    clone_started_right n v found = record {
      volumes = stood.volumes;
      clones = all-put
          (λ (c : RunningClone X). list_all (r None) (indexed c.image) && list_all (r (Some c.number)) (indexed c.target))
          (λ c. nat_lt (d.lsn + 1) c.number) (clone_of_volume u (d.lsn + 1) v) d.clones
          (and_both (list_all (r None) (indexed v.chunks)) _ (volume_right n v found)
          (at_replicate (r (Some (d.lsn + 1))) (k.free (Some (d.lsn + 1))) 0 (length v.chunks)))
          stood.clones;
      copies = stood.copies;
      numbers = all-put (λ (c : RunningClone X). q c.number) (λ c. nat_lt (d.lsn + 1) c.number)
          (clone_of_volume u (d.lsn + 1) v) d.clones k.next stood.numbers;
    }

    copy_started_right : (job : Job) (ps : List (Piece X)) → list_all (r None) ps ≡ true → AllPass X r q (copy_started d job ps)
    copy_started_right job ps h = record {
      volumes = stood.volumes;
      clones = stood.clones;
      copies = all-put (λ (c : RunningCopy X). list_all (r None) c.pieces) (λ c. nat_lt (d.lsn + 1) c.number)
          (record { number = d.lsn + 1; pieces = ps }) d.copies h stood.copies;
      numbers = stood.numbers;
    }

    copy_ends_right : (t : Task) (target : ℕ) (c : RunningCopy X) → copy_of d t.number ≡ Some c → AllPass X r q (copy_ends d t target c)
    copy_ends_right t target c e = record {
      volumes = all-changed (λ (w : Volume X). list_all (r None) (indexed w.chunks)) (λ w. w.number == target)
          (λ w. record w { chunks = pieces_put c.pieces w.chunks }) d.volumes stood.volumes
          (λ w found h. at_pieces (r None) c.pieces w.chunks (copy_right t.number c e) h);
      clones = stood.clones;
      copies = all-removed (λ (b : RunningCopy X). list_all (r None) b.pieces) (λ b. b.number == t.number) d.copies stood.copies;
      numbers = stood.numbers;
    }

    copy_goes_on_right : (t : Task) → AllPass X r q (copy_goes_on d t)
    copy_goes_on_right t = record { volumes = stood.volumes; clones = stood.clones; copies = stood.copies; numbers = stood.numbers }

    -- the target of a running clone with the new entries
    target_right : (n : ℕ) (is : List ℕ) (values : List X) (c : RunningClone X) → clone_of d n ≡ Some c
        → list_all (r (Some n)) (pieces_at is values) ≡ true → list_all (r (Some n)) (indexed (put_at is values c.target)) ≡ true
    target_right n is values c e new =
        let number : c.number ≡ n = eqb-true c.number n (find-passes (λ (b : RunningClone X). b.number == n) d.clones c e) in
        at_put (r (Some n)) is values c.target new
        (ap (λ m. list_all (r (Some m)) (indexed c.target)) (sym number)
        ∙ and_right (list_all (r None) (indexed c.image)) _ (clone_right n c e))

    clone_goes_on_right : (t : Task) (n : ℕ) (target : List X)
        → list_all (r (Some t.number)) (indexed target) ≡ true → AllPass X r q (clone_goes_on d t n target)
    clone_goes_on_right t n target h = record {
      volumes = stood.volumes;
      clones = all-changed
          (λ (c : RunningClone X). list_all (r None) (indexed c.image) && list_all (r (Some c.number)) (indexed c.target))
          (λ c. c.number == t.number) (λ c. record c { target = target }) d.clones stood.clones
          (λ c found both. let number : c.number ≡ t.number =
          eqb-true c.number t.number (find-passes (λ (b : RunningClone X). b.number == t.number) d.clones c found) in
          and_both (list_all (r None) (indexed c.image)) _
          (and_left (list_all (r None) (indexed c.image)) (list_all (r (Some c.number)) (indexed c.target)) both)
          (ap (λ m. list_all (r (Some m)) (indexed target)) number ∙ h));
      copies = stood.copies;
      numbers = all-changed (λ (c : RunningClone X). q c.number) (λ c. c.number == t.number) (λ c. record c { target = target })
          d.clones stood.numbers (λ c found h. h);
    }

    clone_ends_right : (t : Task) (n source : ℕ) (c : RunningClone X) (target : List X)
        → list_all (r (Some t.number)) (indexed target) ≡ true → Right (clone_ends d t n source c target)
    clone_ends_right t n source c target h = λ is. record {
      volumes = all-put (λ (w : Volume X). list_all (r None) (indexed w.chunks)) (λ w. nat_lt c.number w.number)
          (cloned_volume c source target) d.volumes
          (list_all-follows (r (Some t.number)) (r None)
          (k.ends t.number (ap (list_all (λ (b : RunningClone X). not (b.number == t.number))) (sym is)
          ∙ none-left (λ (b : RunningClone X). b.number) t.number d.clones k.rise))
          (indexed target) h)
          stood.volumes;
      clones = all-removed
          (λ (b : RunningClone X). list_all (r None) (indexed b.image) && list_all (r (Some b.number)) (indexed b.target))
          (λ b. b.number == t.number) d.clones stood.clones;
      copies = stood.copies;
      numbers = all-removed (λ (b : RunningClone X). q b.number) (λ b. b.number == t.number) d.clones stood.numbers;
    }

    module _ (values : List X) where
      clone_turn_right : (t : Task) (source : ℕ) (o : Option (RunningClone X)) → clone_of d t.number ≡ o
          → list_all (r (Some t.number))
          (pieces_at (if_found o (λ (c : RunningClone X). turn_indexes (map stamp_of c.image) t.done) []) values) ≡ true
          → Right (if_found o (clone_turned stamp_of values d t source) d)
      clone_turn_right t source None e new = λ is. stood
      clone_turn_right t source (Some c) e new =
          let is : List ℕ = turn_indexes (map stamp_of c.image) t.done in
          let target : List X = put_at is values c.target in
          let h : list_all (r (Some t.number)) (indexed target) ≡ true = target_right t.number is values c e new in
          either_right (is_last t (length is)) (clone_ends d t (length is) source c target) (clone_goes_on d t (length is) target)
          (clone_ends_right t (length is) source c target h) (λ same. clone_goes_on_right t (length is) target h)

      job_right : (t : Task) (job : Job)
          → list_all (r (Some t.number)) (pieces_at (job_indexes stamp_of d t job) values) ≡ true
          → Right (job_turned stamp_of values d t job)
      job_right t (Clone source) new = clone_turn_right t source (clone_of d t.number) refl new
      job_right t (Copy source base target) new =
          found_right (copy_of d t.number) (copy_turned d t target)
          (λ c e. either_right (is_last t (next_piece t)) (copy_ends d t target c) (copy_goes_on d t)
          (λ is. copy_ends_right t target c e) (λ is. copy_goes_on_right t))

      turn_right : (n : ℕ) → list_all (r (Some n)) (pieces_at (turned_indexes stamp_of d n) values) ≡ true
          → Right (turned stamp_of values d n)
      unfolding turned turned_indexes
      turn_right n new = of_task (task_of d n) refl new
        where
          run : (t : Task) (b : Bool)
              → list_all (r (Some t.number)) (pieces_at (cond b (job_indexes stamp_of d t t.job) []) values) ≡ true
              → Right (cond b (job_turned stamp_of values d t t.job) d)
          run t true at = job_right t t.job at
          run t false at = λ is. stood

          of_task : (o : Option Task) → task_of d n ≡ o
              → list_all (r (Some n)) (pieces_at (if_found o (λ t. cond (is_running t) (job_indexes stamp_of d t t.job) []) []) values) ≡ true
              → Right (if_found o (λ t. cond (is_running t) (job_turned stamp_of values d t t.job) d) d)
          of_task None e at = λ is. stood
          of_task (Some t) e at =
              let number : t.number ≡ n = eqb-true t.number n (find-passes (λ (u : Task). u.number == n) d.tasks t e) in
              run t (is_running t)
              (ap (λ m. list_all (r (Some m)) (pieces_at (cond (is_running t) (job_indexes stamp_of d t t.job) []) values)) number ∙ at)

      -- What stands after a change passes, where the new entries do.
      effect_right : (change : Change)
          → list_all (r (new_home change)) (pieces_at (changed_indexes stamp_of d change) values) ≡ true
          → Right (effect stamp_of values u d change)
      unfolding effect changed_indexes with_clone with_copy
      effect_right (MakeContainer quota offers) new = λ is.
          record { volumes = stood.volumes; clones = stood.clones; copies = stood.copies; numbers = stood.numbers }
      effect_right (MakeVolume container vtype chunks needs) new = λ is.
          one_more_right (record { number = d.lsn + 1; container = container; vtype = vtype; kind = Plain; reverted = 0; needs = needs; metadata = []; chunks = replicate chunks u })
          (at_replicate (r None) (k.free None) 0 chunks)
      effect_right (DeleteVolume n) new = λ is. deleted_right n
      effect_right (GrowVolume n chunks) new = λ is.
          with_right n (λ v. record v { chunks = v.chunks ++ replicate (chunks - length v.chunks) u })
          (λ v h. at_append (r None) (k.free None) 0 (chunks - length v.chunks) v.chunks h)
      effect_right (SetMetadata n key text) new = λ is. with_right n _ (λ v h. h)
      effect_right (Snapshot n) new =
          found_right (volume_of d n) (λ v. and_volume d (record v { number = d.lsn + 1; kind = SnapshotOf (record { 0 = n }) }))
          (λ v found is. one_more_right (record v { number = d.lsn + 1; kind = SnapshotOf (record { 0 = n }) }) (volume_right n v found))
      effect_right (FastClone n) new =
          found_right (volume_of d n) (λ v. and_volume d (record v { number = d.lsn + 1; kind = FastCloneOf (record { 0 = n }) }))
          (λ v found is. one_more_right (record v { number = d.lsn + 1; kind = FastCloneOf (record { 0 = n }) }) (volume_right n v found))
      effect_right (Revert n snapshot) new =
          found_right (volume_of d snapshot) (λ s. with_volume d n (λ v. record v { chunks = s.chunks; reverted = d.lsn + 1 }))
          (λ s found is. with_right n (λ v. record v { chunks = s.chunks; reverted = d.lsn + 1 }) (λ v h. volume_right snapshot s found))
      effect_right (Write n first blocks) new = λ is.
          with_right n (λ v. record v { chunks = put_at (touched_indexes d.geometry.chunk_blocks first blocks) values v.chunks })
          (λ v h. at_put (r None) (touched_indexes d.geometry.chunk_blocks first blocks) values v.chunks new h)
      effect_right (Unmap n ranges) new = λ is.
          with_right n (λ v. record v { chunks = unmapped_in stamp_of u ranges v.chunks })
          (λ v h. at_unmapped (r None) (k.free None) ranges 0 v.chunks h)
      effect_right (SetEndpoints host endpoints) new = λ is.
          record { volumes = stood.volumes; clones = stood.clones; copies = stood.copies; numbers = stood.numbers }
      effect_right (Bind host n) new = λ is.
          record { volumes = stood.volumes; clones = stood.clones; copies = stood.copies; numbers = stood.numbers }
      effect_right (Unbind host endpoint secondary) new = λ is.
          record { volumes = stood.volumes; clones = stood.clones; copies = stood.copies; numbers = stood.numbers }
      effect_right (UnbindAll host) new = λ is.
          record { volumes = stood.volumes; clones = stood.clones; copies = stood.copies; numbers = stood.numbers }
      effect_right (StartClone n) new =
          found_right (volume_of d n) (clone_started stamp_of u d n) (λ v found is. clone_started_right n v found)
      effect_right (StartCopy source base target) new =
          found_right (volume_of d source) (λ v. if_found (volume_of d base)
          (λ w. copy_started d (Copy source base target) (difference stamp_of v.chunks w.chunks)) d)
          (λ v found. found_right (volume_of d base)
          (λ w. copy_started d (Copy source base target) (difference stamp_of v.chunks w.chunks))
          (λ w at is. copy_started_right (Copy source base target) (difference stamp_of v.chunks w.chunks)
          (all-filter (r None) (λ p. is_unshared (map stamp_of w.chunks) p.index (stamp_of p.chunk)) (indexed v.chunks)
          (volume_right source v found))))
      effect_right (Turn n) new = turn_right n new
      effect_right (Cancel n) new = λ is. cancelled_right n

  -- What stands after a change passes, and so do the numbers of the clones that run then.
  pub stays_right : (d : Durable X) (values : List X) (change : Change) (r : Option ℕ → Piece X → Bool) (q : ℕ → Bool)
      → Kept X u d (effect stamp_of values u d change).clones r q
      → list_all (r (new_home change)) (pieces_at (changed_indexes stamp_of d change) values) ≡ true
      → AllPass X r q (effect stamp_of values u d change)
  stays_right d values change r q k new =
      effect_right d (effect stamp_of values u d change).clones r q k values change new refl
