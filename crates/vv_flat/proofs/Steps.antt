-- What a step of the flat array, of tables and of the shape have in common: the shape of the one is that of the other,
-- and a record over tables does what the call does over the flat array.
use Rattle.std.proofs.Common.{◌≡◌, ℕ, ◌+◌, ◌*◌, ◌/◌, ◌==◌, ◌&&◌, refl, ap, sym, ◌∙◌, Bool, true, false, cond, List, [], ◌∷◌, map, length, arith}
use Rattle.std.specs.Prelude.{Option, Some, None}
use Rattle.std.specs.List.{find}
use Rattle.std.proofs.lemmas.Bool.{eqb-true}
use Rattle.vv_units.specs.Sizes.{block_bytes}
use Rattle.vv_flat.specs.Lists.{if_found, put_at}
use Rattle.vv_flat.specs.State.{Durable, Volume, RunningClone, Task, Job, Clone, Copy, map_durable, volume_of, clone_of, task_of}
use Rattle.vv_flat.specs.Chunks.{ChunkValue, Entry, shape, shape_of_tables, filled, filled_tables, unmapped_value, unmapped_entry, touched_indexes, written_values, copied_values, placed_entries}
use Rattle.vv_flat.specs.Space.{is_running}
use Rattle.vv_flat.specs.Tasks.{job_indexes, turned_indexes, turn_indexes}
use Rattle.vv_flat.specs.Changes.{Change, MakeContainer, MakeVolume, DeleteVolume, GrowVolume, SetMetadata, Snapshot, FastClone, Revert, Write, Unmap, SetEndpoints, Bind, Unbind, UnbindAll, StartClone, StartCopy, Turn, Cancel, effect, apply, apply_shape, changed_indexes, new_stamp, judge}
use Rattle.vv_flat.specs.Replay.{fits, replayed, is_accepted}
use Rattle.vv_flat.specs.Flat.{has_its_bytes, new_values, flat_after}
use Rattle.vv_flat.proofs.MapLists.{map-after}
use Rattle.vv_flat.proofs.MapDurable.{map-volume_of, map-apply, same-changed_indexes}
use Rattle.vv_flat.proofs.NothingChanges.{with_volume-same}
use Rattle.vv_flat.proofs.Filled.{filled-apply}

-- what is found passes the test
passes_step : {A : Type 0} (p : A → Bool) (y x : A) (rest : Option A) (b : Bool) → p y ≡ b → cond b (Some y) rest ≡ Some x
    → (rest ≡ Some x → p x ≡ true) → p x ≡ true
passes_step p y x rest true is e there = let same : y ≡ x = cc in rw same at is
passes_step p y x rest false is e there = there e

pub find-passes : {A : Type 0} (p : A → Bool) (xs : List A) (x : A) → find p xs ≡ Some x → p x ≡ true
find-passes p [] x e = cc
find-passes p (y ∷ ys) x e = passes_step p y x (find p ys) (p y) refl e (find-passes p ys x)

-- the same value for each of two lists that are as long
map-constant : {A B C : Type 0} (c : C) (xs : List A) (ys : List B) → length xs ≡ length ys → map (λ _. c) xs ≡ map (λ _. c) ys
map-constant c [] [] e = refl
map-constant c [] (y ∷ ys) e = absurd (omega arith)
map-constant c (x ∷ xs) [] e = absurd (omega arith)
map-constant c (x ∷ xs) (y ∷ ys) e = ap (λ zs. c ∷ zs) (map-constant c xs ys (omega arith))

-- a clone's turn has no indexes where no clone of the number runs
no_indexes : {X : Type 0} (s : X → ℕ) (d : Durable X) (t : Task) (n : ℕ) (job : Job) → t.number ≡ n → clone_of d n ≡ None
    → job_indexes s d t job ≡ []
no_indexes {X} s d t n (Clone source) e none =
    let same : clone_of d t.number ≡ None = ap (λ m. clone_of d m) e ∙ none in
    ap (λ (o : Option (RunningClone X)). if_found o (λ (c : RunningClone X). turn_indexes (map s c.image) t.done) []) same
no_indexes s d t n (Copy source base target) e none = refl

turn_without_clone : {X : Type 0} (s : X → ℕ) (d : Durable X) (n : ℕ) → clone_of d n ≡ None → turned_indexes s d n ≡ []
unfolding turned_indexes
turn_without_clone s d n none = go (task_of d n) refl
  where
    empty : (b : Bool) (is : List ℕ) → is ≡ [] → cond b is [] ≡ []
    empty true is e = e
    empty false is e = refl

    go : (o : Option Task) → task_of d n ≡ o → if_found o (λ t. cond (is_running t) (job_indexes s d t t.job) []) [] ≡ []
    go None e = refl
    go (Some t) e =
        empty (is_running t) (job_indexes s d t t.job)
        (no_indexes s d t n t.job (eqb-true t.number n (find-passes (λ (u : Task). u.number == n) d.tasks t e)) none)

-- the stamps of a turn's new values
turn_stamps : (d : Durable ChunkValue) (n : ℕ) (bytes : List ℕ)
    → map (λ (x : ChunkValue). x.stamp) (new_values d (Turn n) bytes) ≡ map (λ _. n) (turned_indexes (λ x. x.stamp) d n)
unfolding new_values copied_values changed_indexes
turn_stamps d n bytes = go (clone_of d n) refl
  where
    go : (o : Option (RunningClone ChunkValue)) → clone_of d n ≡ o
        → map (λ (x : ChunkValue). x.stamp) (if_found o (λ c. copied_values c.image (turned_indexes (λ x. x.stamp) d n) n) [])
        ≡ map (λ _. n) (turned_indexes (λ x. x.stamp) d n)
    go None e = rw (turn_without_clone (λ (x : ChunkValue). x.stamp) d n e)
    go (Some c) e = map-after _ (λ (x : ChunkValue). x.stamp) (λ _. n) (λ i. refl) (turned_indexes (λ x. x.stamp) d n)

-- the stamps of a write's new values
write_stamps : (B : ℕ) (chunks : List ChunkValue) (first blocks stamp : ℕ) (bytes : List ℕ) → (length bytes == blocks * block_bytes) ≡ true
    → map (λ (x : ChunkValue). x.stamp) (written_values B chunks first bytes stamp) ≡ map (λ _. stamp) (touched_indexes B first blocks)
unfolding written_values
write_stamps B chunks first blocks stamp bytes e =
    let long : length bytes ≡ blocks * 512 = eqb-true (length bytes) (blocks * 512) e in
    let whole : length bytes / 512 ≡ blocks = omega (arith, long) in
    rw whole (map-after _ (λ (x : ChunkValue). x.stamp) (λ _. stamp) (λ i. refl) (touched_indexes B first blocks))

no_volume : {X Y : Type 0} (f : X → Y) (d : Durable X) (n : ℕ) (w : Volume Y) → volume_of d n ≡ None
    → volume_of (map_durable f d) n ≡ Some w → false ≡ true
no_volume f d n w none some =
    let same : if_found (volume_of d n) (λ _. true) false ≡ if_found (volume_of (map_durable f d) n) (λ _. true) false =
    map-volume_of f d n (λ b. b) (λ _. true) (λ _. true) false false (λ v. refl) refl in
    let left : if_found (volume_of d n) (λ _. true) false ≡ false = ap (λ o. if_found o (λ _. true) false) none in
    let right : if_found (volume_of (map_durable f d) n) (λ _. true) false ≡ true = ap (λ o. if_found o (λ _. true) false) some in
    cc

-- where the stamps of the new values are the change's, the shape of the step is the step of the shape
by_values : (d : Durable ChunkValue) (c : Change) (bytes : List ℕ)
    → map (λ (x : ChunkValue). x.stamp) (new_values d c bytes) ≡ map (λ _. new_stamp (shape d) c) (changed_indexes (λ s. s) (shape d) c)
    → shape (flat_after d c bytes) ≡ apply_shape (shape d) c
unfolding flat_after apply_shape
by_values d c bytes e =
    map-apply (λ (x : ChunkValue). x.stamp) (λ x. x.stamp) (λ s. s) (λ x. refl) (new_values d c bytes)
    (unmapped_value d.geometry.chunk_blocks) d c
    ∙ ap (λ vs. apply (λ s. s) vs 0 (shape d) c) e

-- a write to no volume changes nothing, whatever its values are
unwritten : (d : Durable ChunkValue) (n first blocks : ℕ) (values : List ℕ) → volume_of d n ≡ None
    → effect (λ s. s) values 0 (shape d) (Write n first blocks) ≡ shape d
unfolding effect
unwritten d n first blocks values none =
    with_volume-same (λ s. s) 0 (shape d) n
    (λ v. record v { chunks = put_at (touched_indexes d.geometry.chunk_blocks first blocks) values v.chunks })
    (λ w found. let f : false ≡ true = no_volume (λ (x : ChunkValue). x.stamp) d n w none found in cc)

-- the stamps of the values of a write to a volume
some_volume : (d : Durable ChunkValue) (n first blocks : ℕ) (bytes : List ℕ) → (length bytes == blocks * block_bytes) ≡ true
    → (v : Volume ChunkValue) → volume_of d n ≡ Some v
    → map (λ (x : ChunkValue). x.stamp) (new_values d (Write n first blocks) bytes)
    ≡ map (λ _. new_stamp (shape d) (Write n first blocks)) (changed_indexes (λ s. s) (shape d) (Write n first blocks))
unfolding new_values changed_indexes
some_volume d n first blocks bytes e v found =
    ap (λ (o : Option (Volume ChunkValue)). map (λ (x : ChunkValue). x.stamp) (if_found o (λ w. written_values d.geometry.chunk_blocks w.chunks first bytes (d.lsn + 1)) [])) found
    ∙ write_stamps d.geometry.chunk_blocks v.chunks first blocks (d.lsn + 1) bytes e

write_step : (d : Durable ChunkValue) (n first blocks : ℕ) (bytes : List ℕ) → (length bytes == blocks * block_bytes) ≡ true
    → (o : Option (Volume ChunkValue)) → volume_of d n ≡ o
    → shape (flat_after d (Write n first blocks) bytes) ≡ apply_shape (shape d) (Write n first blocks)
unfolding flat_after apply_shape apply
write_step d n first blocks bytes e None none =
    map-apply (λ (x : ChunkValue). x.stamp) (λ x. x.stamp) (λ s. s) (λ x. refl) (new_values d (Write n first blocks) bytes)
    (unmapped_value d.geometry.chunk_blocks) d (Write n first blocks)
    ∙ ap {A = Durable ℕ} (λ m. record m { lsn = d.lsn + 1 })
    (unwritten d n first blocks _ none ∙ sym (unwritten d n first blocks _ none))
write_step d n first blocks bytes e (Some v) found =
    by_values d (Write n first blocks) bytes (some_volume d n first blocks bytes e v found)

turn_step : (d : Durable ChunkValue) (n : ℕ) (bytes : List ℕ)
    → map (λ (x : ChunkValue). x.stamp) (new_values d (Turn n) bytes)
    ≡ map (λ _. new_stamp (shape d) (Turn n)) (changed_indexes (λ s. s) (shape d) (Turn n))
unfolding changed_indexes
turn_step d n bytes =
    turn_stamps d n bytes
    ∙ ap (map (λ _. n)) (sym (same-changed_indexes (λ (x : ChunkValue). x.stamp) (λ x. x.stamp) (λ s. s) (λ x. refl) d (Turn n)))

none_step : (d : Durable ChunkValue) (c : Change) (bytes : List ℕ) → new_values d c bytes ≡ [] → changed_indexes (λ s. s) (shape d) c ≡ []
    → shape (flat_after d c bytes) ≡ apply_shape (shape d) c
none_step d c bytes e f = by_values d c bytes (rw (e, f))

pub flat_step : (d : Durable ChunkValue) (c : Change) (bytes : List ℕ) → has_its_bytes c bytes ≡ true
    → shape (flat_after d c bytes) ≡ apply_shape (shape d) c
unfolding new_values changed_indexes
flat_step d (MakeContainer quota offers) bytes e = none_step d (MakeContainer quota offers) bytes refl refl
flat_step d (MakeVolume k vtype chunks needs) bytes e = none_step d (MakeVolume k vtype chunks needs) bytes refl refl
flat_step d (DeleteVolume n) bytes e = none_step d (DeleteVolume n) bytes refl refl
flat_step d (GrowVolume n chunks) bytes e = none_step d (GrowVolume n chunks) bytes refl refl
flat_step d (SetMetadata n key text) bytes e = none_step d (SetMetadata n key text) bytes refl refl
flat_step d (Snapshot n) bytes e = none_step d (Snapshot n) bytes refl refl
flat_step d (FastClone n) bytes e = none_step d (FastClone n) bytes refl refl
flat_step d (Revert n snapshot) bytes e = none_step d (Revert n snapshot) bytes refl refl
flat_step d (Write n first blocks) bytes e = write_step d n first blocks bytes e (volume_of d n) refl
flat_step d (Unmap n ranges) bytes e = none_step d (Unmap n ranges) bytes refl refl
flat_step d (SetEndpoints host endpoints) bytes e = none_step d (SetEndpoints host endpoints) bytes refl refl
flat_step d (Bind host n) bytes e = none_step d (Bind host n) bytes refl refl
flat_step d (Unbind host endpoint secondary) bytes e = none_step d (Unbind host endpoint secondary) bytes refl refl
flat_step d (UnbindAll host) bytes e = none_step d (UnbindAll host) bytes refl refl
flat_step d (StartClone n) bytes e = none_step d (StartClone n) bytes refl refl
flat_step d (StartCopy source base target) bytes e = none_step d (StartCopy source base target) bytes refl refl
flat_step d (Turn n) bytes e = by_values d (Turn n) bytes (turn_step d n bytes)
flat_step d (Cancel n) bytes e = none_step d (Cancel n) bytes refl refl

-- the second of three tests that pass, and so on
and_left : (a b : Bool) → (a && b) ≡ true → a ≡ true
and_left true b e = refl
and_left false b e = cc

and_right : (a b : Bool) → (a && b) ≡ true → b ≡ true
and_right true b e = e
and_right false b e = cc

placed_stamps : (places : List ℕ) (stamp : ℕ) (is : List ℕ) → (length places == length is) ≡ true
    → map (λ (x : Entry). x.stamp) (placed_entries places stamp) ≡ map (λ _. stamp) is
placed_stamps places stamp is e =
    map-after _ (λ (x : Entry). x.stamp) (λ _. stamp) (λ p. refl) places
    ∙ map-constant stamp places is (eqb-true (length places) (length is) e)

same-new_stamp : {X Y : Type 0} (f : X → Y) (d : Durable X) (c : Change) → new_stamp (map_durable f d) c ≡ new_stamp d c
same-new_stamp f d (MakeContainer quota offers) = refl
same-new_stamp f d (MakeVolume k vtype chunks needs) = refl
same-new_stamp f d (DeleteVolume n) = refl
same-new_stamp f d (GrowVolume n chunks) = refl
same-new_stamp f d (SetMetadata n key text) = refl
same-new_stamp f d (Snapshot n) = refl
same-new_stamp f d (FastClone n) = refl
same-new_stamp f d (Revert n snapshot) = refl
same-new_stamp f d (Write n first blocks) = refl
same-new_stamp f d (Unmap n ranges) = refl
same-new_stamp f d (SetEndpoints host endpoints) = refl
same-new_stamp f d (Bind host n) = refl
same-new_stamp f d (Unbind host endpoint secondary) = refl
same-new_stamp f d (UnbindAll host) = refl
same-new_stamp f d (StartClone n) = refl
same-new_stamp f d (StartCopy source base target) = refl
same-new_stamp f d (Turn n) = refl
same-new_stamp f d (Cancel n) = refl

-- a record that fits takes the shape of tables where its change takes the shape
pub record_step : (tables : Durable Entry) (c : Change) (places : List ℕ) → fits tables c places ≡ true
    → shape_of_tables (replayed tables c places) ≡ apply_shape (shape_of_tables tables) c
unfolding fits replayed apply_shape
record_step tables c places e =
    let count : (length places == length (changed_indexes (λ (x : Entry). x.stamp) tables c)) ≡ true =
    and_right (is_accepted (judge None (shape_of_tables tables) c)) _ (and_left _ _ (and_left _ _ e)) in
    map-apply (λ (x : Entry). x.stamp) (λ x. x.stamp) (λ s. s) (λ x. refl) (placed_entries places (new_stamp tables c))
    unmapped_entry tables c
    ∙ ap (λ vs. apply (λ s. s) vs 0 (shape_of_tables tables) c)
    (placed_stamps places (new_stamp tables c) (changed_indexes (λ (x : Entry). x.stamp) tables c) count
    ∙ ap (λ is. map (λ _. new_stamp tables c) is) (sym (same-changed_indexes (λ (x : Entry). x.stamp) (λ x. x.stamp) (λ s. s) (λ x. refl) tables c))
    ∙ ap (λ st. map (λ _. st) (changed_indexes (λ s. s) (shape_of_tables tables) c)) (sym (same-new_stamp (λ (x : Entry). x.stamp) tables c)))

-- a record whose fresh places hold the new bytes of a call does what the call does
pub record_is_call : (bytes_at : ℕ → List ℕ) (tables : Durable Entry) (c : Change) (places bytes : List ℕ)
    → map (filled tables.geometry.chunk_blocks bytes_at) (placed_entries places (new_stamp tables c)) ≡ new_values (filled_tables bytes_at tables) c bytes
    → filled_tables bytes_at (replayed tables c places) ≡ flat_after (filled_tables bytes_at tables) c bytes
unfolding replayed flat_after
record_is_call bytes_at tables c places bytes e =
    filled-apply bytes_at (placed_entries places (new_stamp tables c)) tables c
    ∙ ap (λ vs. apply (λ x. x.stamp) vs (unmapped_value tables.geometry.chunk_blocks) (filled_tables bytes_at tables) c) e
