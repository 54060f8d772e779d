-- The steps that an accepted change of tables can be that keep the rules, each with what its checks and the rules tell. The laws
-- that an accepted change keeps the rules are proved step by step.
use Rattle.std.proofs.Common.{◌≡◌, ◌≤◌, ◌<◌, ℕ, ◌+◌, ◌-◌, ◌==◌, ◌&&◌, ◌||◌, not, refl, ap, ◌∙◌, Bool, true, false, cond, List, [], ◌∷◌, ◌++◌, map, length, replicate, subst, arith}
use Rattle.std.specs.Prelude.{Option, Some, None, is_none, is_some, nat_lt, nat_le}
use Rattle.std.proofs.lemmas.List.{length-append, length-replicate}
use Rattle.std.proofs.lemmas.Bool.{le-leb, leb-true, ltb-false, eqb-true, or_parts, not-false, not_from_false}
use Rattle.std.proofs.lemmas.Bool.Decides.{nat_tests}
use Rattle.vv_units.specs.Pairs.{same_key, note_of, with_pair, without_pair, after_set}
use Rattle.vv_units.specs.declared.field.Field.{Field}
use Rattle.vv_units.specs.declared.field.Field.TheVariants.{Container as in_container, Vvol as in_vvol, SizeInMb as in_size, Target as in_target, Task as in_task, Key as in_key, Pairs}
use Rattle.vv_units.specs.declared.volume.VolumeKind.{VolumeKind}
use Rattle.vv_units.specs.declared.volume.VolumeKind.TheVariants.{Plain, SnapshotOf, FastCloneOf}
use Rattle.vv_flat.specs.Lists.{if_found, put_before, first_removed, put_at}
use Rattle.vv_flat.specs.State.{Container, Volume, Address, Job, Clone, Copy, Task, RunningClone, Piece, RunningCopy, Durable, container_of, volume_of, task_of, clone_of, copy_of}
use Rattle.vv_flat.specs.Chunks.{touched_indexes, unmapped_in}
use Rattle.vv_flat.specs.Space.{is_running, volume_count, pair_count, running_count, is_volume_size}
use Rattle.vv_flat.specs.Bindings.{is_bound, with_context, with_binding, without_binding, without_host}
use Rattle.vv_flat.specs.Tasks.{running_limit, is_busy, is_last, next_piece, turn_indexes, clone_goes_on, clone_ends, clone_turned, copy_goes_on, copy_ends, copy_turned, job_turned, turned, cancelled, clone_started, with_clone, difference, copy_started, with_copy}
use Rattle.vv_flat.specs.Profiles.{Misfit}
use Rattle.vv_flat.specs.Refusals.{Refusal, NotFound, InvalidArgument, IncompatibleVolume, ResourceInUse, TooMany, Accept, missing_volume, too_many, too_many_pairs, pairs_limit}
use Rattle.vv_flat.specs.Rules.{endpoint_limit, offer_limit, need_limit, is_logged, is_kind_logged, is_of_no_snapshot, is_host, numbers_rule, names_rule, limits_rule, sizes_rule, has_its_fields}
use Rattle.vv_flat.specs.Changes.{Change, MakeContainer, MakeVolume, DeleteVolume, GrowVolume, SetMetadata, Snapshot, FastClone, Revert, Write, Unmap, SetEndpoints, Bind, Unbind, UnbindAll, StartClone, StartCopy, Turn, Cancel, volume_limit, container_limit, key_limit, judge, state_checks, room_checks, effect, size_of, metadata_of, is_snapshot, too_many_bindings, too_many_volumes, added_pairs, where_positive, with_volume, and_volume}
use Rattle.vv_flat.proofs.Shares.{and_left, and_right}
use Rattle.vv_flat.proofs.Verdicts.{passed_state, passed_room, not_refused}
use Rattle.vv_flat.proofs.Steps.{find-passes}
use Rattle.vv_flat.proofs.Entries.{length-put_at, length-mapped_from}
use Rattle.vv_flat.proofs.Known.{all-found}
use Rattle.vv_flat.proofs.Kept.{Kept}

-- What is known of a volume that is made.
pub record NewVolume (d : Durable ℕ) (v : Volume ℕ) : Type 0 where
  pub number : v.number ≡ d.lsn + 1
  pub home : is_some (container_of d v.container) ≡ true
  pub kind : is_kind_logged d.lsn v.kind ≡ true
  pub snapshot : is_of_no_snapshot d v.kind ≡ true
  pub reverted : nat_le v.reverted d.lsn ≡ true
  pub needs : nat_le (length v.needs) need_limit ≡ true
  pub keys : nat_le (length v.metadata) key_limit ≡ true
  pub pairs : pair_count d + length v.metadata ≤ pairs_limit
  pub room : volume_count d < volume_limit
  pub size : is_volume_size d.geometry.chunk_blocks (length v.chunks) ≡ true

-- What is known of a change of a volume. It adds so many metadata pairs at most.
pub record ChangedVolume (d : Durable ℕ) (n : ℕ) (g : Volume ℕ → Volume ℕ) : Type 0 where
  pub number : (v : Volume ℕ) → (g v).number ≡ v.number
  pub container : (v : Volume ℕ) → (g v).container ≡ v.container
  pub kind : (v : Volume ℕ) → (g v).kind ≡ v.kind
  pub needs : (v : Volume ℕ) → (g v).needs ≡ v.needs
  pub reverted : (v : Volume ℕ) → nat_le v.reverted (d.lsn + 1) ≡ true → nat_le (g v).reverted (d.lsn + 1) ≡ true
  pub added : ℕ
  pub more : (v : Volume ℕ) → volume_of d n ≡ Some v → length (g v).metadata ≤ length v.metadata + added
  pub pairs : pair_count d + added ≤ pairs_limit
  pub keys : (v : Volume ℕ) → volume_of d n ≡ Some v → nat_le (length (g v).metadata) key_limit ≡ true
  pub size : (v : Volume ℕ) → volume_of d n ≡ Some v → is_volume_size d.geometry.chunk_blocks (length (g v).chunks) ≡ true

-- What is known of the start of a clone.
pub record StartedClone (d : Durable ℕ) (n : ℕ) (v : Volume ℕ) : Type 0 where
  pub found : volume_of d n ≡ Some v
  pub pairs : pair_count d + length v.metadata ≤ pairs_limit
  pub room : volume_count d < volume_limit
  pub few : running_count d < running_limit

-- What is known of a task that takes a turn.
pub record Turning (d : Durable ℕ) (t : Task) : Type 0 where
  pub found : task_of d t.number ≡ Some t
  pub runs : is_running t ≡ true

-- P holds after each step but for the log number.
pub record Steps (d : Durable ℕ) (P : Durable ℕ → Type 0) : Type 0 where
  pub same : P d
  pub container : (k : Container) → k.number ≡ d.lsn + 1 → nat_le (length k.offers) offer_limit ≡ true
      → length d.containers < container_limit
      → P (record d { containers = put_before (λ (j : Container). nat_lt (d.lsn + 1) j.number) k d.containers })
  pub volume : (v : Volume ℕ) → NewVolume d v → P (and_volume d v)
  pub deleted : (n : ℕ) → is_bound d.bindings n ≡ false → is_busy d n ≡ false
      → P (record d { volumes = first_removed (λ (v : Volume ℕ). v.number == n) d.volumes })
  pub changed : (n : ℕ) (g : Volume ℕ → Volume ℕ) → ChangedVolume d n g → P (with_volume d n g)
  pub context : (host : ℕ) (endpoints : List ℕ) → is_host host ≡ true → nat_le (length endpoints) endpoint_limit ≡ true
      → P (record d { contexts = with_context d.contexts host endpoints })
  pub bound : (host n : ℕ) → is_host host ≡ true → is_some (volume_of d n) ≡ true → too_many_bindings d host n ≡ None
      → P (record d { bindings = with_binding d.contexts d.bindings host n })
  pub unbound : (a : Address) → P (record d { bindings = without_binding d.bindings a })
  pub host_unbound : (host : ℕ) → P (record d { bindings = without_host d.bindings host })
  pub clone_starts : (n : ℕ) (v : Volume ℕ) → StartedClone d n v → P (clone_started (λ s. s) 0 d n v)
  pub copy_starts : (source base target : ℕ) (ps : List (Piece ℕ)) → is_some (volume_of d target) ≡ true
      → running_count d < running_limit → P (copy_started d (Copy source base target) ps)
  pub clone_turns : (t : Task) (k source : ℕ) (c : RunningClone ℕ) (target : List ℕ) → Turning d t → t.job ≡ Clone source
      → clone_of d t.number ≡ Some c → length target ≡ length c.target → is_last t k ≡ false → P (clone_goes_on d t k target)
  pub clone_done : (t : Task) (k source : ℕ) (c : RunningClone ℕ) (target : List ℕ) → Turning d t → t.job ≡ Clone source
      → clone_of d t.number ≡ Some c → length target ≡ length c.target → is_last t k ≡ true → P (clone_ends d t k source c target)
  pub copy_turns : (t : Task) (source base target : ℕ) → Turning d t → t.job ≡ Copy source base target
      → is_last t (next_piece t) ≡ false → P (copy_goes_on d t)
  pub copy_done : (t : Task) (source base target : ℕ) (c : RunningCopy ℕ) → Turning d t → t.job ≡ Copy source base target
      → copy_of d t.number ≡ Some c → is_last t (next_piece t) ≡ true → P (copy_ends d t target c)
  pub cancels : (n : ℕ) → P (cancelled d n)

-- What checks that were passed tell.

pub below_limit : (limit count : ℕ) → nat_le limit count ≡ false → count < limit
below_limit limit count e = grind (arith, nat_tests)

within_limit : (limit count : ℕ) → nat_lt limit count ≡ false → count ≤ limit
within_limit limit count e = grind (arith, nat_tests)

pub few : (count limit : ℕ) (name : Field) → too_many count limit name ≡ None → count < limit
few count limit name e = below_limit limit count (not_refused (nat_le limit count) (TooMany name limit) e)

few_pairs : (d : Durable ℕ) (added : ℕ) → too_many_pairs d added ≡ None → pair_count d + added ≤ pairs_limit
few_pairs d added e =
    within_limit pairs_limit (pair_count d + added)
    (not_refused (nat_lt pairs_limit (pair_count d + added)) (TooMany Pairs pairs_limit) e)

stands : {A : Type 0} (o : Option A) → is_none o ≡ false → is_some o ≡ true
stands None e = cc
stands (Some x) e = refl

standing_volume : (d : Durable ℕ) (n : ℕ) (name : Field) → missing_volume d n name ≡ None → is_some (volume_of d n) ≡ true
standing_volume d n name e = stands (volume_of d n) (not_refused (is_none (volume_of d n)) (NotFound name) e)

-- Metadata that are set.

set_step : (p : List ℕ × List ℕ) (pairs : List (List ℕ × List ℕ)) (key text : List ℕ) (b : Bool)
    → length (with_pair pairs key text) ≤ length pairs + cond (is_none (note_of pairs key)) 1 0
    → length (cond b ((p.0, text) ∷ pairs) (p ∷ with_pair pairs key text)) ≤ length (p ∷ pairs) + cond (is_none (cond b (Some p.1) (note_of pairs key))) 1 0
set_step p pairs key text true h = omega arith
set_step p pairs key text false h = omega (arith, h)

set_long : (pairs : List (List ℕ × List ℕ)) (key text : List ℕ)
    → length (with_pair pairs key text) ≤ length pairs + cond (is_none (note_of pairs key)) 1 0
set_long [] key text = omega arith
set_long (p ∷ pairs) key text = set_step p pairs key text (same_key key p.0) (set_long pairs key text)

unset_step : (p : List ℕ × List ℕ) (pairs : List (List ℕ × List ℕ)) (key : List ℕ) (b : Bool)
    → length (without_pair pairs key) ≤ length pairs
    → length (cond b pairs (p ∷ without_pair pairs key)) ≤ length (p ∷ pairs)
unset_step p pairs key true h = omega arith
unset_step p pairs key false h = omega (arith, h)

unset_long : (pairs : List (List ℕ × List ℕ)) (key : List ℕ) → length (without_pair pairs key) ≤ length pairs
unset_long [] key = omega arith
unset_long (p ∷ pairs) key = unset_step p pairs key (same_key key p.0) (unset_long pairs key)

after_long : (pairs : List (List ℕ × List ℕ)) (key : List ℕ) (text : Option (List ℕ))
    → length (after_set pairs key text) ≤ length pairs + added_pairs pairs key text
after_long pairs key None = let l : length (without_pair pairs key) ≤ length pairs = unset_long pairs key in omega (arith, l)
after_long pairs key (Some text) = set_long pairs key text

pub one_or_none : (b : Bool) → cond b 1 0 ≤ 1
one_or_none true = omega arith
one_or_none false = omega arith

added_few : (pairs : List (List ℕ × List ℕ)) (key : List ℕ) (text : Option (List ℕ)) → added_pairs pairs key text ≤ 1
added_few pairs key None = omega arith
added_few pairs key (Some text) = one_or_none (is_none (note_of pairs key))

-- a check that counts only where something is asked for
asked_only : (asked : ℕ) (check : Option Refusal) (Q : Type 0) → (asked ≡ 0 → Q) → (check ≡ None → Q) → where_positive asked check ≡ None → Q
asked_only asked check Q none some e = of_zero (asked == 0) refl e
  where
    of_zero : (b : Bool) → (asked == 0) ≡ b → cond b None check ≡ None → Q
    of_zero true is f = none (eqb-true asked 0 is)
    of_zero false is f = some f

grown_long : (xs : List ℕ) (n : ℕ) → length xs ≤ n → length (xs ++ replicate (n - length xs) 0) ≡ n
grown_long xs n le =
    let l : length (xs ++ replicate (n - length xs) 0) ≡ length xs + (n - length xs) =
    length-append xs (replicate (n - length xs) 0) ∙ ap (λ k. length xs + k) (length-replicate (n - length xs) 0) in
    omega (arith, l, le)

module _ (d : Durable ℕ) (kept : Kept d) where
  -- what the rules say of a volume that is found
  pub volume_numbered : (n : ℕ) (v : Volume ℕ) → volume_of d n ≡ Some v
      → (is_logged d.lsn v.number && is_kind_logged d.lsn v.kind && nat_le v.reverted d.lsn) ≡ true
  unfolding numbers_rule
  volume_numbered n v found =
      all-found (λ (v : Volume ℕ). is_logged d.lsn v.number && is_kind_logged d.lsn v.kind && nat_le v.reverted d.lsn)
      (λ (v : Volume ℕ). v.number == n) v d.volumes
      (and_left _ _ (and_left _ _ (and_left _ _ (and_left _ _ kept.numbers)))) found

  pub number_logged : (n : ℕ) (v : Volume ℕ) → volume_of d n ≡ Some v → is_logged d.lsn n ≡ true
  number_logged n v found =
      let is : v.number ≡ n = eqb-true v.number n (find-passes (λ (w : Volume ℕ). w.number == n) d.volumes v found) in
      rw is at (and_left (is_logged d.lsn v.number) _ (and_left _ _ (volume_numbered n v found)))

  pub volume_named : (n : ℕ) (v : Volume ℕ) → volume_of d n ≡ Some v → is_some (container_of d v.container) ≡ true
  unfolding names_rule
  volume_named n v found =
      and_left (is_some (container_of d v.container)) (is_of_no_snapshot d v.kind)
      (all-found (λ (v : Volume ℕ). is_some (container_of d v.container) && is_of_no_snapshot d v.kind)
      (λ (v : Volume ℕ). v.number == n) v d.volumes (and_left _ _ (and_left _ _ (and_left _ _ kept.names))) found)

  pub volume_limited : (n : ℕ) (v : Volume ℕ) → volume_of d n ≡ Some v
      → (nat_le (length v.needs) need_limit && nat_le (length v.metadata) key_limit) ≡ true
  unfolding limits_rule
  volume_limited n v found =
      all-found (λ (v : Volume ℕ). nat_le (length v.needs) need_limit && nat_le (length v.metadata) key_limit)
      (λ (v : Volume ℕ). v.number == n) v d.volumes (and_right _ _ (and_left _ _ (and_left _ _ (and_left _ _ kept.limits)))) found

  pub pairs_within : pair_count d ≤ pairs_limit
  unfolding limits_rule
  pairs_within =
      leb-true (pair_count d) pairs_limit
      (and_right _ _ (and_left _ _ (and_left _ _ (and_left _ _ (and_left _ _ (and_left _ _ (and_left _ _ kept.limits)))))))

  pub volume_sized : (n : ℕ) (v : Volume ℕ) → volume_of d n ≡ Some v → is_volume_size d.geometry.chunk_blocks (length v.chunks) ≡ true
  unfolding sizes_rule
  volume_sized n v found =
      all-found (λ (v : Volume ℕ). is_volume_size d.geometry.chunk_blocks (length v.chunks))
      (λ (v : Volume ℕ). v.number == n) v d.volumes (and_left _ _ kept.sizes) found

  metadata_is : (n : ℕ) (v : Volume ℕ) → volume_of d n ≡ Some v → metadata_of d n ≡ v.metadata
  metadata_is n v e = ap (λ o. if_found o (λ (w : Volume ℕ). w.metadata) []) e

  size_is : (n : ℕ) (v : Volume ℕ) → volume_of d n ≡ Some v → size_of d n ≡ length v.chunks
  size_is n v e = ap (λ o. length (if_found o (λ (w : Volume ℕ). w.chunks) [])) e

  -- the copy of a volume, with a number and a kind of its own
  copied_volume : (n : ℕ) (v : Volume ℕ) (kind : VolumeKind) → volume_of d n ≡ Some v → is_kind_logged d.lsn kind ≡ true
      → is_of_no_snapshot d kind ≡ true → too_many_volumes d ≡ None → too_many_pairs d (length (metadata_of d n)) ≡ None
      → NewVolume d (record v { number = d.lsn + 1; kind = kind })
  copied_volume n v kind found logged snapshot room pairs = record {
    number = refl;
    home = volume_named n v found;
    kind = logged;
    snapshot = snapshot;
    reverted = and_right _ _ (volume_numbered n v found);
    needs = and_left _ _ (volume_limited n v found);
    keys = and_right _ _ (volume_limited n v found);
    pairs = rw (metadata_is n v found) at (few_pairs d (length (metadata_of d n)) pairs);
    room = few (volume_count d) volume_limit in_vvol room;
    size = volume_sized n v found;
  }

  -- a change of the chunks alone, or of the last revert with them
  chunks_changed : (n : ℕ) (g : Volume ℕ → Volume ℕ) → ((v : Volume ℕ) → (g v).number ≡ v.number)
      → ((v : Volume ℕ) → (g v).container ≡ v.container) → ((v : Volume ℕ) → (g v).kind ≡ v.kind) → ((v : Volume ℕ) → (g v).needs ≡ v.needs)
      → ((v : Volume ℕ) → (g v).metadata ≡ v.metadata)
      → ((v : Volume ℕ) → nat_le v.reverted (d.lsn + 1) ≡ true → nat_le (g v).reverted (d.lsn + 1) ≡ true)
      → ((v : Volume ℕ) → volume_of d n ≡ Some v → is_volume_size d.geometry.chunk_blocks (length (g v).chunks) ≡ true)
      → ChangedVolume d n g
  chunks_changed n g number container kind needs metadata reverted size = record {
    number = number;
    container = container;
    kind = kind;
    needs = needs;
    reverted = reverted;
    added = 0;
    more = λ v found. let m : (g v).metadata ≡ v.metadata = metadata v in rw m (omega arith);
    pairs = let p : pair_count d ≤ pairs_limit = pairs_within in omega (arith, p);
    keys = λ v found. let m : (g v).metadata ≡ v.metadata = metadata v in rw m (and_right _ _ (volume_limited n v found));
    size = size;
  }

  same_size : (n : ℕ) (v : Volume ℕ) (xs : List ℕ) → volume_of d n ≡ Some v → length xs ≡ length v.chunks
      → is_volume_size d.geometry.chunk_blocks (length xs) ≡ true
  same_size n v xs found long = rw long (volume_sized n v found)

  metadata_changed : (n : ℕ) (key : List ℕ) (text : Option (List ℕ))
      → where_positive (added_pairs (metadata_of d n) key text) (too_many (length (metadata_of d n)) key_limit in_key) ≡ None
      → where_positive (added_pairs (metadata_of d n) key text) (too_many_pairs d (added_pairs (metadata_of d n) key text)) ≡ None
      → ChangedVolume d n (λ v. record v { metadata = after_set v.metadata key text })
  metadata_changed n key text keys pairs = record {
    number = λ v. refl;
    container = λ v. refl;
    kind = λ v. refl;
    needs = λ v. refl;
    reverted = λ v e. e;
    added = added_pairs (metadata_of d n) key text;
    more = λ v found. rw (metadata_is n v found) (after_long v.metadata key text);
    pairs = asked_only (added_pairs (metadata_of d n) key text) (too_many_pairs d (added_pairs (metadata_of d n) key text))
        (pair_count d + added_pairs (metadata_of d n) key text ≤ pairs_limit)
        (λ z. let p : pair_count d ≤ pairs_limit = pairs_within in omega (arith, z, p))
        (λ e. few_pairs d (added_pairs (metadata_of d n) key text) e) pairs;
    keys = λ v found. le-leb (length (after_set v.metadata key text)) key_limit (within v found);
    size = λ v found. volume_sized n v found;
  }
    where
      within : (v : Volume ℕ) → volume_of d n ≡ Some v → length (after_set v.metadata key text) ≤ key_limit
      within v found =
          let same : metadata_of d n ≡ v.metadata = metadata_is n v found in
          let l : length (after_set v.metadata key text) ≤ length v.metadata + added_pairs v.metadata key text = after_long v.metadata key text in
          let one : added_pairs v.metadata key text ≤ 1 = added_few v.metadata key text in
          let k : length v.metadata ≤ key_limit =
          leb-true (length v.metadata) key_limit
          (and_right (nat_le (length v.needs) need_limit) (nat_le (length v.metadata) key_limit) (volume_limited n v found)) in
          asked_only (added_pairs v.metadata key text) (too_many (length v.metadata) key_limit in_key)
          (length (after_set v.metadata key text) ≤ key_limit)
          (λ z. omega (arith, z, l, k))
          (λ e. let f : length v.metadata < key_limit = few (length v.metadata) key_limit in_key e in omega (arith, f, l, one))
          (subst (λ (m : List (List ℕ × List ℕ)). where_positive (added_pairs m key text) (too_many (length m) key_limit in_key) ≡ None) same keys)

  module _ (P : Durable ℕ → Type 0) (steps : Steps d P) where
    of_found : {A : Type 0} (o : Option A) (h : A → Durable ℕ) → ((x : A) → o ≡ Some x → P (h x)) → P (if_found o h d)
    of_found None h there = steps.same
    of_found (Some x) h there = there x refl

    of_either : (b : Bool) (x y : Durable ℕ) → (b ≡ true → P x) → (b ≡ false → P y) → P (cond b x y)
    of_either true x y h k = h refl
    of_either false x y h k = k refl

    clone_turn : (values : List ℕ) (t : Task) (source : ℕ) → Turning d t → t.job ≡ Clone source
        → P (if_found (clone_of d t.number) (clone_turned (λ s. s) values d t source) d)
    clone_turn values t source turning job =
        of_found (clone_of d t.number) (clone_turned (λ s. s) values d t source)
        (λ c found. let is : List ℕ = turn_indexes (map (λ s. s) c.image) t.done in
        of_either (is_last t (length is)) (clone_ends d t (length is) source c (put_at is values c.target))
        (clone_goes_on d t (length is) (put_at is values c.target))
        (λ e. steps.clone_done t (length is) source c (put_at is values c.target) turning job found (length-put_at is values c.target) e)
        (λ e. steps.clone_turns t (length is) source c (put_at is values c.target) turning job found (length-put_at is values c.target) e))

    copy_turn : (t : Task) (source base target : ℕ) → Turning d t → t.job ≡ Copy source base target
        → P (if_found (copy_of d t.number) (copy_turned d t target) d)
    copy_turn t source base target turning job =
        of_found (copy_of d t.number) (copy_turned d t target)
        (λ c found. of_either (is_last t (next_piece t)) (copy_ends d t target c) (copy_goes_on d t)
        (λ e. steps.copy_done t source base target c turning job found e)
        (λ e. steps.copy_turns t source base target turning job e))

    job_turn : (values : List ℕ) (t : Task) → Turning d t → (job : Job) → t.job ≡ job → P (job_turned (λ s. s) values d t job)
    job_turn values t turning (Clone source) e = clone_turn values t source turning e
    job_turn values t turning (Copy source base target) e = copy_turn t source base target turning e

    turn : (values : List ℕ) (n : ℕ) → P (turned (λ s. s) values d n)
    unfolding turned
    turn values n =
        of_found (task_of d n) (λ t. cond (is_running t) (job_turned (λ s. s) values d t t.job) d)
        (λ t e. of_either (is_running t) (job_turned (λ s. s) values d t t.job) d
        (λ runs. let number : t.number ≡ n = eqb-true t.number n (find-passes (λ (u : Task). u.number == n) d.tasks t e) in
        let found : task_of d t.number ≡ Some t = ap (λ m. task_of d m) number ∙ e in
        job_turn values t (record { found = found; runs = runs }) t.job refl)
        (λ e. steps.same))

    -- An accepted change is one of the steps.
    pub by_steps : (misfit : Option Misfit) (values : List ℕ) (c : Change) → has_its_fields c ≡ true → judge misfit d c ≡ Accept
        → P (effect (λ s. s) values 0 d c)
    unfolding effect state_checks room_checks with_clone with_copy
    by_steps misfit values (MakeContainer quota offers) fields e =
        steps.container (record { number = d.lsn + 1; quota = quota; offers = offers }) refl fields
        (few (length d.containers) container_limit in_container (passed_room misfit d (MakeContainer quota offers) e 1))
    by_steps misfit values (MakeVolume k vtype chunks needs) fields e =
        let long : length {A = ℕ} (replicate chunks 0) ≡ chunks = length-replicate chunks 0 in
        let p : pair_count d ≤ pairs_limit = pairs_within in
        steps.volume (record {
          number = d.lsn + 1;
          container = k;
          vtype = vtype;
          kind = Plain;
          reverted = 0;
          needs = needs;
          metadata = [];
          chunks = replicate chunks 0;
        }) (record {
          number = refl;
          home = stands (container_of d k)
              (not_refused (is_none (container_of d k)) (NotFound in_container) (passed_state misfit d (MakeVolume k vtype chunks needs) e 0));
          kind = refl;
          snapshot = refl;
          reverted = le-leb 0 d.lsn (omega arith);
          needs = fields;
          keys = refl;
          pairs = omega (arith, p);
          room = few (volume_count d) volume_limit in_vvol (passed_room misfit d (MakeVolume k vtype chunks needs) e 1);
          size = ap (λ n. is_volume_size d.geometry.chunk_blocks n) long
              ∙ not-false (is_volume_size d.geometry.chunk_blocks chunks)
              (not_refused (not (is_volume_size d.geometry.chunk_blocks chunks)) (InvalidArgument in_size) (passed_state misfit d (MakeVolume k vtype chunks needs) e 1));
        })
    by_steps misfit values (DeleteVolume n) fields e =
        let free : (is_bound d.bindings n || is_busy d n) ≡ false =
        not_refused (is_bound d.bindings n || is_busy d n) (ResourceInUse in_vvol) (passed_state misfit d (DeleteVolume n) e 1) in
        steps.deleted n (or_parts (is_bound d.bindings n) (is_busy d n) free).0 (or_parts (is_bound d.bindings n) (is_busy d n) free).1
    by_steps misfit values (GrowVolume n chunks) fields e =
        let fits : (not (is_volume_size d.geometry.chunk_blocks chunks) || nat_lt chunks (size_of d n)) ≡ false =
        not_refused (not (is_volume_size d.geometry.chunk_blocks chunks) || nat_lt chunks (size_of d n)) (InvalidArgument in_size)
        (passed_state misfit d (GrowVolume n chunks) e 1) in
        let parts = or_parts (not (is_volume_size d.geometry.chunk_blocks chunks)) (nat_lt chunks (size_of d n)) fits in
        steps.changed n (λ v. record v { chunks = v.chunks ++ replicate (chunks - length v.chunks) 0 })
        (chunks_changed n (λ v. record v { chunks = v.chunks ++ replicate (chunks - length v.chunks) 0 })
        (λ v. refl) (λ v. refl) (λ v. refl) (λ v. refl) (λ v. refl) (λ v r. r)
        (λ v found. let s : size_of d n ≡ length v.chunks = size_is n v found in
        let le : size_of d n ≤ chunks = ltb-false chunks (size_of d n) parts.1 in
        ap (λ k. is_volume_size d.geometry.chunk_blocks k) (grown_long v.chunks chunks (omega (arith, s, le)))
        ∙ not-false (is_volume_size d.geometry.chunk_blocks chunks) parts.0))
    by_steps misfit values (SetMetadata n key text) fields e =
        steps.changed n (λ v. record v { metadata = after_set v.metadata key text })
        (metadata_changed n key text (passed_room misfit d (SetMetadata n key text) e 1) (passed_room misfit d (SetMetadata n key text) e 2))
    by_steps misfit values (Snapshot n) fields e =
        of_found (volume_of d n) (λ v. and_volume d (record v { number = d.lsn + 1; kind = SnapshotOf (record { 0 = n }) }))
        (λ v found. steps.volume (record v { number = d.lsn + 1; kind = SnapshotOf (record { 0 = n }) })
        (copied_volume n v (SnapshotOf (record { 0 = n })) found (number_logged n v found)
        (not_from_false (is_snapshot d n) (not_refused (is_snapshot d n) (IncompatibleVolume in_vvol) (passed_state misfit d (Snapshot n) e 1)))
        (passed_room misfit d (Snapshot n) e 1) (passed_room misfit d (Snapshot n) e 2)))
    by_steps misfit values (FastClone n) fields e =
        of_found (volume_of d n) (λ v. and_volume d (record v { number = d.lsn + 1; kind = FastCloneOf (record { 0 = n }) }))
        (λ v found. steps.volume (record v { number = d.lsn + 1; kind = FastCloneOf (record { 0 = n }) })
        (copied_volume n v (FastCloneOf (record { 0 = n })) found (number_logged n v found) refl
        (passed_room misfit d (FastClone n) e 1) (passed_room misfit d (FastClone n) e 2)))
    by_steps misfit values (Revert n snapshot) fields e =
        of_found (volume_of d snapshot) (λ s. with_volume d n (λ v. record v { chunks = s.chunks; reverted = d.lsn + 1 }))
        (λ s at. steps.changed n (λ v. record v { chunks = s.chunks; reverted = d.lsn + 1 })
        (chunks_changed n (λ v. record v { chunks = s.chunks; reverted = d.lsn + 1 })
        (λ v. refl) (λ v. refl) (λ v. refl) (λ v. refl) (λ v. refl) (λ v r. le-leb (d.lsn + 1) (d.lsn + 1) (omega arith))
        (λ v found. volume_sized snapshot s at)))
    by_steps misfit values (Write n first blocks) fields e =
        let is : List ℕ = touched_indexes d.geometry.chunk_blocks first blocks in
        steps.changed n (λ v. record v { chunks = put_at (touched_indexes d.geometry.chunk_blocks first blocks) values v.chunks })
        (chunks_changed n (λ v. record v { chunks = put_at (touched_indexes d.geometry.chunk_blocks first blocks) values v.chunks })
        (λ v. refl) (λ v. refl) (λ v. refl) (λ v. refl) (λ v. refl) (λ v r. r)
        (λ v found. same_size n v (put_at is values v.chunks) found (length-put_at is values v.chunks)))
    by_steps misfit values (Unmap n ranges) fields e =
        steps.changed n (λ v. record v { chunks = unmapped_in (λ s. s) 0 ranges v.chunks })
        (chunks_changed n (λ v. record v { chunks = unmapped_in (λ s. s) 0 ranges v.chunks })
        (λ v. refl) (λ v. refl) (λ v. refl) (λ v. refl) (λ v. refl) (λ v r. r)
        (λ v found. same_size n v (unmapped_in (λ s. s) 0 ranges v.chunks) found (length-mapped_from _ 0 v.chunks)))
    by_steps misfit values (SetEndpoints host endpoints) fields e =
        steps.context host endpoints (and_left (is_host host) _ fields) (and_right (is_host host) _ fields)
    by_steps misfit values (Bind host n) fields e =
        steps.bound host n fields (standing_volume d n in_vvol (passed_state misfit d (Bind host n) e 0)) (passed_room misfit d (Bind host n) e 1)
    by_steps misfit values (Unbind host endpoint secondary) fields e =
        steps.unbound (record { host = host; endpoint = endpoint; secondary = secondary })
    by_steps misfit values (UnbindAll host) fields e = steps.host_unbound host
    by_steps misfit values (StartClone n) fields e =
        of_found (volume_of d n) (clone_started (λ s. s) 0 d n)
        (λ v found. steps.clone_starts n v (record {
          found = found;
          pairs = rw (metadata_is n v found) at (few_pairs d (length (metadata_of d n)) (passed_room misfit d (StartClone n) e 2));
          room = few (volume_count d) volume_limit in_vvol (passed_room misfit d (StartClone n) e 1);
          few = few (running_count d) running_limit in_task (passed_room misfit d (StartClone n) e 3);
        }))
    by_steps misfit values (StartCopy source base target) fields e =
        of_found (volume_of d source) (λ v. if_found (volume_of d base)
        (λ w. copy_started d (Copy source base target) (difference (λ s. s) v.chunks w.chunks)) d)
        (λ v found. of_found (volume_of d base) (λ w. copy_started d (Copy source base target) (difference (λ s. s) v.chunks w.chunks))
        (λ w at. steps.copy_starts source base target (difference (λ s. s) v.chunks w.chunks)
        (standing_volume d target in_target (passed_state misfit d (StartCopy source base target) e 2))
        (few (running_count d) running_limit in_task (passed_room misfit d (StartCopy source base target) e 1))))
    by_steps misfit values (Turn n) fields e = turn values n
    by_steps misfit values (Cancel n) fields e = steps.cancels n
