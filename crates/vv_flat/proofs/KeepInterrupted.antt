-- An interruption keeps the form and all nine rules, and the tables of an empty array have their form and meet the
-- rules: for the laws that say so.
use Rattle.std.proofs.Common.{◌≡◌, ◌≤◌, ℕ, ◌+◌, ◌-◌, ◌==◌, ◌&&◌, ◌||◌, not, refl, ap, sym, ◌∙◌, Bool, true, false, cond, List, [], ◌∷◌, ◌++◌, map, arith}
use Rattle.std.specs.Prelude.{Some, None, is_some, nat_le, sum_by}
use Rattle.std.specs.List.{filter, flat_map, list_all}
use Rattle.std.proofs.lemmas.List.{append-nil, length-map}
use Rattle.std.proofs.lemmas.List.Sums.{sum_by-cons}
use Rattle.std.proofs.lemmas.List.Folds.{list_all-map, list_all-append, list_any-append}
use Rattle.std.proofs.lemmas.Bool.{leb-true, le-leb}
use Rattle.vv_units.specs.declared.geometry.Geometry.{Geometry}
use Rattle.vv_units.specs.declared.volume.TaskState.{TaskState}
use Rattle.vv_units.specs.declared.volume.TaskState.TheVariants.{Running, Success, Cancelled, Interrupted}
use Rattle.vv_units.specs.declared.volume.VolumeKind.{VolumeKind}
use Rattle.vv_units.specs.declared.volume.VolumeKind.TheVariants.{Plain, SnapshotOf, FastCloneOf, FullCloneOf}
use Rattle.vv_flat.specs.Lists.{if_found, numbers_eq, all_different, all_rising}
use Rattle.vv_flat.specs.State.{Container, Volume, Task, RunningClone, Piece, RunningCopy, Durable, container_of, empty_durable, indexed, all_pieces}
use Rattle.vv_flat.specs.Chunks.{Entry, shape_of_tables}
use Rattle.vv_flat.specs.Space.{used, reserved, entries, charge, is_running, is_clone, job_target, running_target, volume_count, pair_count, running_count}
use Rattle.vv_flat.specs.Tasks.{record_limit, running_limit}
use Rattle.vv_flat.specs.Refusals.{pairs_limit}
use Rattle.vv_flat.specs.Restart.{interrupted_task, interrupted_durable}
use Rattle.vv_flat.specs.Changes.{volume_limit}
use Rattle.vv_flat.specs.Form.{is_formed}
use Rattle.vv_flat.specs.Sharing.{agrees, Standing, standing, standings, is_shared_rightly, shares}
use Rattle.vv_flat.specs.Rules.{is_logged, is_source_logged, numbers_rule, is_of_no_snapshot, names_rule, limits_rule, sizes_rule, space_rule, bindings_rule, clones_rule, is_success, running_targets, copies_rule, meets_rules}
use Rattle.vv_flat.proofs.MapLists.{map-after}
use Rattle.vv_flat.proofs.Shares.{and_left, and_right, and_both, list_all-follows}
use Rattle.vv_flat.proofs.Distinct.{is_some_piece, used_within}
use Rattle.vv_flat.proofs.Known.{AllKnown, before_known, by_kind, of_kinds}
use Rattle.vv_flat.proofs.Kept.{Kept}
use Rattle.vv_flat.proofs.KeepRules.{rules_met, meets_all}

-- A task after an interruption: it doesn't run, and is as it was but for its state.

is_stopped : (t : Task) → is_running (interrupted_task t) ≡ false
is_stopped t = go t.state
  where
    go : (state : TaskState) → is_running (interrupted_task (record t { state = state })) ≡ false
    go Running = refl
    go Success = refl
    go Cancelled = refl
    go Interrupted = refl

same_number : (t : Task) → (interrupted_task t).number ≡ t.number
same_number t = go (is_running t)
  where
    go : (b : Bool) → (cond b (record t { state = Interrupted }) t).number ≡ t.number
    go true = refl
    go false = refl

abbrev has_done : Task → Bool
has_done t = nat_le t.done t.total && (not (is_success t.state) || (t.done == t.total))

still_done : (t : Task) → has_done t ≡ true → has_done (interrupted_task t) ≡ true
still_done t e = go t.state e
  where
    go : (state : TaskState) → has_done (record t { state = state }) ≡ true → has_done (interrupted_task (record t { state = state })) ≡ true
    go Running e = e
    go Success e = e
    go Cancelled e = e
    go Interrupted e = e

no_target : (t : Task) → running_target (interrupted_task t) ≡ None
no_target t = ap (λ b. cond b (job_target (interrupted_task t).job) None) (is_stopped t)

-- All of them.

no_targets : (ts : List Task) → running_targets (map interrupted_task ts) ≡ []
no_targets [] = refl
no_targets (t ∷ ts) =
    ap (λ o. if_found o (λ n. n ∷ running_targets (map interrupted_task ts)) (running_targets (map interrupted_task ts))) (no_target t)
    ∙ no_targets ts

no_target_fails : (f : ℕ → Bool) (ts : List Task) → list_all (λ (t : Task). if_found (running_target t) f true) (map interrupted_task ts) ≡ true
no_target_fails f [] = refl
no_target_fails f (t ∷ ts) = and_both _ _ (ap (λ o. if_found o f true) (no_target t)) (no_target_fails f ts)

none_picked : (r : Task → Bool) (ts : List Task) → filter (λ (t : Task). is_running t && r t) (map interrupted_task ts) ≡ []
none_picked r [] = refl
none_picked r (t ∷ ts) =
    let rest : List Task = filter (λ (t : Task). is_running t && r t) (map interrupted_task ts) in
    ap (λ b. cond (b && r (interrupted_task t)) (interrupted_task t ∷ rest) rest) (is_stopped t) ∙ none_picked r ts

nothing_counts : (f : Task → ℕ) → ((t : Task) → is_running t ≡ false → f t ≡ 0) → (ts : List Task) → sum_by f (map interrupted_task ts) ≡ 0
nothing_counts f h [] = refl
nothing_counts f h (t ∷ ts) =
    let c : sum_by f (interrupted_task t ∷ map interrupted_task ts) ≡ f (interrupted_task t) + sum_by f (map interrupted_task ts) =
    sum_by-cons f (interrupted_task t) (map interrupted_task ts) in
    let z : f (interrupted_task t) ≡ 0 = h (interrupted_task t) (is_stopped t) in
    let r : sum_by f (map interrupted_task ts) ≡ 0 = nothing_counts f h ts in
    omega (arith, c, z, r)

-- what holds of a task after an interruption, where something holds of it before
all_interrupted : (p q : Task → Bool) → ((t : Task) → p t ≡ true → q (interrupted_task t) ≡ true) → (ts : List Task)
    → list_all p ts ≡ true → list_all q (map interrupted_task ts) ≡ true
all_interrupted p q h ts e =
    list_all-map q interrupted_task ts ∙ list_all-follows p (λ (t : Task). q (interrupted_task t)) h ts e

-- The form.
form_interrupted : {X : Type 0} (d : Durable X) → is_formed d ≡ true → is_formed (interrupted_durable d) ≡ true
unfolding is_formed
form_interrupted d e =
    let till_tasks = and_left _ _ (and_left _ _ e) in
    and_both _ _
    (and_both _ _
    (and_both _ _ (and_left _ _ till_tasks)
    (ap all_rising (map-after interrupted_task (λ (t : Task). t.number) (λ (t : Task). t.number) same_number d.tasks) ∙ and_right _ _ till_tasks))
    (ap (λ (ts : List Task). numbers_eq [] (map (λ (t : Task). t.number) ts)) (none_picked (λ (t : Task). is_clone t.job) d.tasks)))
    (ap (λ (ts : List Task). numbers_eq [] (map (λ (t : Task). t.number) ts)) (none_picked (λ (t : Task). not (is_clone t.job)) d.tasks))

-- The rules, one by one.

not_either : (a b : Bool) → not (a || b) ≡ true → not a ≡ true
not_either true b e = e
not_either false b e = refl

different_left : (xs ys : List ℕ) → all_different (xs ++ ys) ≡ true → all_different xs ≡ true
different_left [] ys e = refl
different_left (x ∷ xs) ys e =
    and_both _ _
    (not_either _ _ (ap not (sym (list_any-append (λ (m : ℕ). m == x) xs ys)) ∙ and_left _ _ e))
    (different_left xs ys (and_right _ _ e))

logged_step : (a b c : Bool) → b ≡ false → a ≡ true → (a && (not b || c)) ≡ true
logged_step a true c e f = cc
logged_step a false c e f = and_both a true f refl

numbers_interrupted : (d : Durable ℕ) → numbers_rule d ≡ true → numbers_rule (interrupted_durable d) ≡ true
unfolding numbers_rule
numbers_interrupted d e =
    let till_numbers = and_left _ _ e in
    let till_tasks = and_left _ _ till_numbers in
    let own : List ℕ = map (λ (v : Volume ℕ). v.number) d.volumes ++ map (λ (k : Container). k.number) d.containers in
    let apart : all_different own ≡ true = different_left own (map (λ (c : RunningClone ℕ). c.number) d.clones) (and_right _ _ till_numbers) in
    and_both _ _
    (and_both _ _
    (and_both _ _ (and_left _ _ till_tasks)
    (all_interrupted (λ (t : Task). is_logged d.lsn t.number && (not (is_running t) || is_source_logged d.lsn t.job))
    (λ (t : Task). is_logged d.lsn t.number && (not (is_running t) || is_source_logged d.lsn t.job))
    (λ t h. logged_step (is_logged d.lsn (interrupted_task t).number) (is_running (interrupted_task t)) _ (is_stopped t)
    (ap (is_logged d.lsn) (same_number t) ∙ and_left _ _ h))
    d.tasks (and_right _ _ till_tasks)))
    (ap all_different (append-nil own) ∙ apart))
    (and_right _ _ e)

same_snapshots : (d : Durable ℕ) (kind : VolumeKind) → is_of_no_snapshot (interrupted_durable d) kind ≡ is_of_no_snapshot d kind
same_snapshots d Plain = refl
same_snapshots d (SnapshotOf v) = refl
same_snapshots d (FastCloneOf v) = refl
same_snapshots d (FullCloneOf v) = refl

names_interrupted : (d : Durable ℕ) → names_rule d ≡ true → names_rule (interrupted_durable d) ≡ true
unfolding names_rule
names_interrupted d e =
    let till_bindings = and_left _ _ e in
    let volumes = and_left _ _ (and_left _ _ till_bindings) in
    and_both _ _
    (and_both _ _
    (and_both _ _
    (list_all-follows (λ (v : Volume ℕ). is_some (container_of d v.container) && is_of_no_snapshot d v.kind)
    (λ (v : Volume ℕ). is_some (container_of d v.container) && is_of_no_snapshot (interrupted_durable d) v.kind)
    (λ v h. and_both _ _ (and_left _ _ h) (same_snapshots d v.kind ∙ and_right _ _ h)) d.volumes volumes)
    refl)
    (and_right _ _ till_bindings))
    (no_target_fails _ d.tasks)

within : (a b limit : ℕ) → a ≤ b → nat_le b limit ≡ true → nat_le a limit ≡ true
within a b limit le e = let h : b ≤ limit = leb-true b limit e in le-leb a limit (omega arith)

limits_interrupted : (d : Durable ℕ) → limits_rule d ≡ true → limits_rule (interrupted_durable d) ≡ true
unfolding limits_rule entries
limits_interrupted d e =
    let till_contexts = and_left _ _ e in
    let till_clones = and_left _ _ till_contexts in
    let till_volumes = and_left _ _ till_clones in
    let till_containers = and_left _ _ till_volumes in
    let till_entries = and_left _ _ till_containers in
    let till_pairs = and_left _ _ till_entries in
    let till_tasks = and_left _ _ till_pairs in
    let till_running = and_left _ _ till_tasks in
    let till_bindings = and_left _ _ till_running in
    let till_number = and_left _ _ till_bindings in
    let none : running_count (interrupted_durable d) ≡ 0 =
    nothing_counts (λ (t : Task). cond (is_running t) 1 0) (λ t stops. ap (λ b. cond b 1 0) stops) d.tasks in
    and_both _ _ (and_both _ _ (and_both _ _ (and_both _ _ (and_both _ _ (and_both _ _ (and_both _ _ (and_both _ _ (and_both _ _ (and_both _ _ (and_both _ _
    (within (volume_count (interrupted_durable d)) (volume_count d) volume_limit (omega arith) (and_left _ _ till_number))
    (and_right _ _ till_number))
    (and_right _ _ till_bindings))
    (within (running_count (interrupted_durable d)) (running_count d) running_limit (omega (arith, none)) (and_right _ _ till_running)))
    (ap (λ n. nat_le n record_limit) (length-map d.tasks interrupted_task) ∙ and_right _ _ till_tasks))
    (within (pair_count (interrupted_durable d)) (pair_count d) pairs_limit (omega arith) (and_right _ _ till_pairs)))
    (within (entries (interrupted_durable d)) (entries d) d.geometry.map_chunks (omega arith) (and_right _ _ till_entries)))
    (and_right _ _ till_containers))
    (and_right _ _ till_volumes))
    refl)
    (and_right _ _ till_contexts))
    (and_right _ _ e)

sizes_interrupted : (d : Durable ℕ) → sizes_rule d ≡ true → sizes_rule (interrupted_durable d) ≡ true
unfolding sizes_rule
sizes_interrupted d e = and_both _ _ (and_left _ _ e) refl

-- The pieces of an array that are left are pieces that were there.
used_interrupted : (d : Durable ℕ) → used (interrupted_durable d) ≤ used d
used_interrupted d =
    let known : List (Piece ℕ) = filter is_some_piece (all_pieces d) in
    let k : AllKnown known d = by_kind known d (before_known (all_pieces d)) in
    let w : used (interrupted_durable d) ≤ 0 + used d =
    used_within d (interrupted_durable d) [] (of_kinds known (interrupted_durable d) (record { volumes = k.volumes; clones = refl; copies = refl })) in
    omega (arith, w)

reserved_interrupted : (d : Durable ℕ) → reserved (interrupted_durable d) ≡ 0
unfolding reserved
reserved_interrupted d =
    nothing_counts (λ (t : Task). cond (is_running t && is_clone t.job) (t.total - t.done) 0)
    (λ t stops. ap (λ b. cond (b && is_clone t.job) (t.total - t.done) 0) stops) d.tasks

charge_interrupted : (d : Durable ℕ) (k : ℕ) → charge (interrupted_durable d) k ≤ charge d k
unfolding charge
charge_interrupted d k = omega arith

space_interrupted : (d : Durable ℕ) → space_rule d ≡ true → space_rule (interrupted_durable d) ≡ true
unfolding space_rule
space_interrupted d e =
    let u : used (interrupted_durable d) ≤ used d = used_interrupted d in
    let r : reserved (interrupted_durable d) ≡ 0 = reserved_interrupted d in
    and_both _ _
    (within (used (interrupted_durable d) + reserved (interrupted_durable d)) (used d + reserved d) d.geometry.pool_chunks
    (omega (arith, u, r)) (and_left _ _ e))
    (list_all-follows (λ (k : Container). nat_le (charge d k.number) k.quota) (λ (k : Container). nat_le (charge (interrupted_durable d) k.number) k.quota)
    (λ k h. within (charge (interrupted_durable d) k.number) (charge d k.number) k.quota (charge_interrupted d k.number) h)
    d.containers (and_right _ _ e))

bindings_interrupted : (d : Durable ℕ) → bindings_rule d ≡ true → bindings_rule (interrupted_durable d) ≡ true
unfolding bindings_rule
bindings_interrupted d e = and_both _ _ (and_left _ _ e) (no_target_fails _ d.tasks)

clones_interrupted : (d : Durable ℕ) → clones_rule (interrupted_durable d) ≡ true
unfolding clones_rule
clones_interrupted d = refl

copies_interrupted : (d : Durable ℕ) → copies_rule d ≡ true → copies_rule (interrupted_durable d) ≡ true
unfolding copies_rule
copies_interrupted d e =
    and_both _ _ (and_both _ _ refl (ap all_different (no_targets d.tasks)))
    (all_interrupted has_done has_done still_done d.tasks (and_right _ _ e))

pub kept_interrupted : (d : Durable ℕ) → Kept d → Kept (interrupted_durable d)
kept_interrupted d k = record {
  form = form_interrupted d k.form;
  numbers = numbers_interrupted d k.numbers;
  names = names_interrupted d k.names;
  limits = limits_interrupted d k.limits;
  sizes = sizes_interrupted d k.sizes;
  space = space_interrupted d k.space;
  bindings = bindings_interrupted d k.bindings;
  clones = clones_interrupted d;
  copies = copies_interrupted d k.copies;
}

-- The sharing: what stands after an interruption stood before it.

left_all : {A : Type 0} (p : A → Bool) (xs ys zs : List A) → list_all p (xs ++ ys ++ zs) ≡ true → list_all p (xs ++ [] ++ []) ≡ true
left_all p xs ys zs e =
    ap (list_all p) (append-nil (xs ++ []) ∙ append-nil xs)
    ∙ and_left (list_all p xs) (list_all p ys)
    (sym (list_all-append p xs ys) ∙ and_left (list_all p (xs ++ ys)) (list_all p zs) (sym (list_all-append p (xs ++ ys) zs) ∙ e))

pieces_left : (d : Durable Entry) (p : Piece Entry → Bool) → list_all p (all_pieces d) ≡ true → list_all p (all_pieces (interrupted_durable d)) ≡ true
pieces_left d p e =
    left_all p (flat_map (λ (v : Volume Entry). indexed v.chunks) d.volumes)
    (flat_map (λ (c : RunningClone Entry). indexed c.image ++ indexed c.target) d.clones)
    (flat_map (λ (c : RunningCopy Entry). c.pieces) d.copies) e

standings_left : (d : Durable Entry) (p : Standing → Bool) → list_all p (standings d) ≡ true → list_all p (standings (interrupted_durable d)) ≡ true
unfolding standings
standings_left d p e =
    left_all p (flat_map (λ (v : Volume Entry). standing None (indexed v.chunks)) d.volumes)
    (flat_map (λ (c : RunningClone Entry). standing None (indexed c.image) ++ standing (Some c.number) (indexed c.target)) d.clones)
    (flat_map (λ (c : RunningCopy Entry). standing None c.pieces) d.copies) e

stays_right : (d : Durable Entry) (a : Standing) → is_shared_rightly d a ≡ true → is_shared_rightly (interrupted_durable d) a ≡ true
stays_right d a e =
    and_both _ _ (and_both _ _ (and_left _ _ (and_left _ _ e)) refl) (pieces_left d (agrees a.piece) (and_right _ _ e))

pub sharing_interrupted : (d : Durable Entry) → shares d ≡ true → shares (interrupted_durable d) ≡ true
unfolding shares
sharing_interrupted d e =
    list_all-follows (is_shared_rightly d) (is_shared_rightly (interrupted_durable d)) (stays_right d) (standings (interrupted_durable d))
    (standings_left d (is_shared_rightly d) e)

-- An interruption keeps the form and all nine rules.
pub interruption_keeps : (tables : Durable Entry) → is_formed tables ≡ true → meets_rules tables ≡ true
    → (is_formed (interrupted_durable tables) ≡ true) × (meets_rules (interrupted_durable tables) ≡ true)
interruption_keeps tables form rules =
    let met = rules_met tables form rules in (
      form_interrupted tables form,
      meets_all (interrupted_durable tables) (kept_interrupted (shape_of_tables tables) (met.0)) (sharing_interrupted tables (met.1)),
    )

-- The tables of an empty array.

none_passes : (limit : ℕ) → nat_le 0 limit ≡ true
none_passes limit = le-leb 0 limit (omega arith)

pub empty_kept : (geometry : Geometry) → Kept (empty_durable {X = ℕ} geometry)
unfolding is_formed numbers_rule names_rule limits_rule entries sizes_rule space_rule used reserved charge bindings_rule clones_rule copies_rule
empty_kept geometry = record {
  form = refl;
  numbers = refl;
  names = refl;
  limits = ap (λ b. b && true && true && true && true && true) (none_passes geometry.map_chunks);
  sizes = refl;
  space = ap (λ b. b && true) (none_passes geometry.pool_chunks);
  bindings = refl;
  clones = refl;
  copies = refl;
}

empty_shares : (geometry : Geometry) → shares (empty_durable {X = Entry} geometry) ≡ true
unfolding shares standings
empty_shares geometry = refl

empty_formed : (geometry : Geometry) → is_formed (empty_durable {X = Entry} geometry) ≡ true
unfolding is_formed
empty_formed geometry = refl

-- They have their form and meet all nine rules.
pub empty_meets : (geometry : Geometry) → (is_formed (empty_durable {X = Entry} geometry) ≡ true) × (meets_rules (empty_durable {X = Entry} geometry) ≡ true)
empty_meets geometry =
    (empty_formed geometry, meets_all (empty_durable {X = Entry} geometry) (empty_kept geometry) (empty_shares geometry))
