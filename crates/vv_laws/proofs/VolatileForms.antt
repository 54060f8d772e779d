-- The form of queues and attentions is kept by every step.
use Rattle.std.proofs.Common.{◌≡◌, ◌≤◌, ◌<◌, ℕ, zero, suc, ◌+◌, ◌-◌, ◌==◌, ◌&&◌, ◌||◌, not, refl, ap, sym, ◌∙◌, Bool, true, false, cond, List, [], ◌∷◌, ◌++◌, map, length, drop, set, get_or, arith, length-set, length-drop}
use Rattle.std.specs.Prelude.{Option, Some, None, is_some, nat_lt, nat_le}
use Rattle.std.specs.List.{filter, list_all}
use Rattle.std.proofs.lemmas.List.{length-append}
use Rattle.std.proofs.lemmas.List.Folds.{list_all-append, list_all-map}
use Rattle.std.proofs.lemmas.Bool.{le-leb, leb-true, leb-false, eq-eqb}
use Rattle.std.proofs.lemmas.Bool.Decides.{nat_tests}
use Rattle.vv_units.specs.declared.geometry.Geometry.{Geometry}
use Rattle.vv_flat.specs.Lists.{if_found, first_changed, put_before, first_removed, all_rise}
use Rattle.vv_flat.specs.State.{Address, Binding, Task, Job, Clone, Copy, QueuedCommand, Durable, Array, host_limit, empty_array, volume_of, task_of, clone_of, copy_of}
use Rattle.vv_flat.specs.Chunks.{ChunkValue, unmapped_value}
use Rattle.vv_flat.specs.Space.{is_running}
use Rattle.vv_flat.specs.Bindings.{is_address, is_below, binding_at, binding_of, is_binding_of, new_address, with_binding, count_left, without_binding, without_host}
use Rattle.vv_flat.specs.Volatile.{queue_limit, is_queue_full, queue_of, with_queue, submitted, head_taken, has_attention, with_attention, without_attention, with_attentions}
use Rattle.vv_flat.specs.Tasks.{job_turned, turned, clone_turned, copy_turned, with_clone, with_copy, cancelled}
use Rattle.vv_flat.specs.Restart.{restarted, interrupted}
use Rattle.vv_flat.specs.Profiles.{Capability}
use Rattle.vv_flat.specs.Changes.{Change, MakeContainer, MakeVolume, DeleteVolume, GrowVolume, SetMetadata, Snapshot, FastClone, Revert, Write, Unmap, SetEndpoints, Bind, Unbind, UnbindAll, StartClone, StartCopy, Turn, Cancel, effect, apply, attentions_after}
use Rattle.vv_flat.specs.Flat.{new_values, flat_after, array_after}
use Rattle.vv_flat.specs.Replay.{is_accepted}
use Rattle.vv_flat.specs.Answers.{answer, next}
use Rattle.vv_flat.proofs.Shares.{and_left, and_right, and_both, list_all-follows, list_all-both}
use Rattle.vv_flat.proofs.Known.{all-put, all-filter}
use Rattle.vv_flat.proofs.Lookups.{find-changed, find-removed_other}
use Rattle.vv_flat.proofs.KeepLists.{rise-put, rise-filter, found-put}
use Rattle.vv_flat.proofs.KeepTasks.{none_any}
use Rattle.vv_laws.specs.VolatileForm.{is_queue_of, are_queues, are_attentions, has_volatile_form}

-- Queues.

get_queue : (host i : ℕ) (queues : List (List QueuedCommand)) → are_queues host queues ≡ true → is_queue_of (host + i) (get_or queues i []) ≡ true
get_queue host i [] e = refl
get_queue host zero (q ∷ qs) e =
    let same : host ≡ host + 0 = omega arith in
    ap (λ h. is_queue_of h q) (sym same) ∙ and_left (is_queue_of host q) _ e
get_queue host (suc i) (q ∷ qs) e =
    let same : (host + 1) + i ≡ host + suc i = omega arith in
    ap (λ h. is_queue_of h (get_or qs i [])) (sym same) ∙ get_queue (host + 1) i qs (and_right (is_queue_of host q) _ e)

set_queue : (host i : ℕ) (queue : List QueuedCommand) (queues : List (List QueuedCommand)) → is_queue_of (host + i) queue ≡ true
    → are_queues host queues ≡ true → are_queues host (set queues i queue) ≡ true
set_queue host i queue [] f e = refl
set_queue host zero queue (q ∷ qs) f e =
    let same : host + 0 ≡ host = omega arith in
    and_both (is_queue_of host queue) _ (ap (λ h. is_queue_of h queue) (sym same) ∙ f) (and_right (is_queue_of host q) _ e)
set_queue host (suc i) queue (q ∷ qs) f e =
    let same : host + suc i ≡ (host + 1) + i = omega arith in
    and_both (is_queue_of host q) _ (and_left (is_queue_of host q) (are_queues (host + 1) qs) e)
    (set_queue (host + 1) i queue qs (ap (λ h. is_queue_of h queue) (sym same) ∙ f) (and_right (is_queue_of host q) _ e))

-- Attentions.

address_through : (a b c d e f g h i : ℕ)
    → (nat_lt a d || ((a == d) && (nat_lt b e || ((b == e) && nat_lt c f)))) ≡ true
    → (nat_lt d g || ((d == g) && (nat_lt e h || ((e == h) && nat_lt f i)))) ≡ true
    → (nat_lt a g || ((a == g) && (nat_lt b h || ((b == h) && nat_lt c i)))) ≡ true
address_through a b c d e f g h i p q = grind (arith, nat_tests)

below_through : (x y z : Address) → is_below x y ≡ true → is_below y z ≡ true → is_below x z ≡ true
below_through x y z p q = address_through x.host x.endpoint x.secondary y.host y.endpoint y.secondary z.host z.endpoint z.secondary p q

address_total : (a b c d e f : ℕ) → not ((d == a) && (e == b) && (f == c)) ≡ true
    → ((nat_lt a d || ((a == d) && (nat_lt b e || ((b == e) && nat_lt c f))))
    || (nat_lt d a || ((d == a) && (nat_lt e b || ((e == b) && nat_lt f c))))) ≡ true
address_total a b c d e f p = grind (arith, nat_tests)

rise_with : (attentions : List Address) (a : Address) → all_rise is_below attentions ≡ true → all_rise is_below (with_attention attentions a) ≡ true
rise_with attentions a e = go (has_attention attentions a) refl
  where
    go : (b : Bool) → has_attention attentions a ≡ b → all_rise is_below (cond b attentions (put_before (λ b. is_below a b) a attentions)) ≡ true
    go true is = e
    go false is =
        rise-put is_below a attentions
        (list_all-follows (λ b. not (is_address b a)) (λ b. is_below a b || is_below b a)
        (λ b f. address_total a.host a.endpoint a.secondary b.host b.endpoint b.secondary f) attentions
        (none_any (λ b. is_address b a) attentions is)) e

all_with : (p : Address → Bool) (attentions : List Address) (a : Address) → p a ≡ true → list_all p attentions ≡ true
    → list_all p (with_attention attentions a) ≡ true
all_with p attentions a e f = go (has_attention attentions a)
  where
    go : (b : Bool) → list_all p (cond b attentions (put_before (λ b. is_below a b) a attentions)) ≡ true
    go true = f
    go false = all-put p (λ b. is_below a b) a attentions e f

attentions_with : (bindings : List Binding) (attentions more : List Address) → are_attentions bindings attentions ≡ true
    → list_all (λ a. is_some (binding_at bindings a)) more ≡ true → are_attentions bindings (with_attentions attentions more) ≡ true
attentions_with bindings attentions [] e f = e
attentions_with bindings attentions (a ∷ rest) e f =
    attentions_with bindings (with_attention attentions a) rest
    (and_both _ _ (rise_with attentions a (and_left (all_rise is_below attentions) _ e))
    (all_with (λ a. is_some (binding_at bindings a)) attentions a (and_left (is_some (binding_at bindings a)) _ f) (and_right (all_rise is_below attentions) _ e)))
    (and_right (is_some (binding_at bindings a)) _ f)

filtered : (bindings : List Binding) (p : Address → Bool) (attentions : List Address) → are_attentions bindings attentions ≡ true
    → are_attentions bindings (filter p attentions) ≡ true
filtered bindings p attentions e =
    and_both _ _ (rise-filter is_below below_through p attentions (and_left (all_rise is_below attentions) _ e))
    (all-filter (λ a. is_some (binding_at bindings a)) p attentions (and_right (all_rise is_below attentions) _ e))

rebound : (before after : List Binding) (attentions : List Address)
    → ((a : Address) → is_some (binding_at before a) ≡ true → is_some (binding_at after a) ≡ true)
    → are_attentions before attentions ≡ true → are_attentions after attentions ≡ true
rebound before after attentions h e =
    and_both _ _ (and_left (all_rise is_below attentions) _ e)
    (list_all-follows (λ a. is_some (binding_at before a)) (λ a. is_some (binding_at after a)) h attentions (and_right (all_rise is_below attentions) _ e))

-- those that pass a test and stand where bindings still stand
left : (before after : List Binding) (p : Address → Bool) (attentions : List Address)
    → ((a : Address) → p a ≡ true → is_some (binding_at before a) ≡ true → is_some (binding_at after a) ≡ true)
    → are_attentions before attentions ≡ true → are_attentions after (filter p attentions) ≡ true
left before after p attentions h e =
    let some = filtered before p attentions e in
    and_both _ _ (and_left (all_rise is_below (filter p attentions)) _ some)
    (list_all-both p (λ a. is_some (binding_at before a)) (λ a. is_some (binding_at after a)) h (filter p attentions) (all_kept p attentions)
    (and_right (all_rise is_below (filter p attentions)) _ some))
  where
    all_kept : {A : Type 0} (p : A → Bool) (xs : List A) → list_all p (filter p xs) ≡ true
    all_kept p [] = refl
    all_kept p (x ∷ xs) = keep (p x) refl (all_kept p xs)
      where
        keep : (b : Bool) → p x ≡ b → list_all p (filter p xs) ≡ true → list_all p (cond b (x ∷ filter p xs) (filter p xs)) ≡ true
        keep true is e = and_both (p x) _ is e
        keep false is e = e

-- Bindings.

-- a change of a binding that keeps its address hides no address
changed_bound : (p : Binding → Bool) (g : Binding → Binding) → ((b : Binding) → (g b).address ≡ b.address) → (bs : List Binding) (a : Address)
    → is_some (binding_at bs a) ≡ true → is_some (binding_at (first_changed p g bs) a) ≡ true
changed_bound p g same bs a e =
    find-changed p (λ (b : Binding). is_address b.address a) is_some g bs (λ b found. ap (λ c. is_address c a) (same b)) (λ b found at. refl) ∙ e

bind_keeps : (d : Durable ChunkValue) (host n : ℕ) (a : Address) → is_some (binding_at d.bindings a) ≡ true
    → is_some (binding_at (with_binding d.contexts d.bindings host n) a) ≡ true
unfolding with_binding
bind_keeps d host n a e = go (is_some (binding_of d.bindings host n))
  where
    go : (b : Bool)
        → is_some (binding_at (cond b (first_changed (is_binding_of host n) (λ b. record b { count = b.count + 1 }) d.bindings)
        (put_before (λ (b : Binding). is_below (new_address d.contexts d.bindings host) b.address)
        (record { address = new_address d.contexts d.bindings host; volume = n; count = 1 }) d.bindings)) a) ≡ true
    go true = changed_bound (is_binding_of host n) (λ b. record b { count = b.count + 1 }) (λ b. refl) d.bindings a e
    go false =
        found-put (λ (b : Binding). is_address b.address a) (λ (b : Binding). is_below (new_address d.contexts d.bindings host) b.address)
        (record { address = new_address d.contexts d.bindings host; volume = n; count = 1 }) d.bindings e

same_address : (a b c d e f g h i : ℕ) → ((a == d) && (b == e) && (c == f)) ≡ true → not ((g == d) && (h == e) && (i == f)) ≡ true
    → ((a == g) && (b == h) && (c == i)) ≡ false
same_address a b c d e f g h i p q = grind (arith, nat_tests)

unbind_keeps : (bs : List Binding) (gone a : Address) → not (is_address a gone) ≡ true → is_some (binding_at bs a) ≡ true
    → is_some (binding_at (first_removed (λ (b : Binding). is_address b.address gone) bs) a) ≡ true
unbind_keeps bs gone a other e =
    ap is_some
    (find-removed_other (λ (b : Binding). is_address b.address gone) (λ (b : Binding). is_address b.address a)
    (λ b at. same_address b.address.host b.address.endpoint b.address.secondary gone.host gone.endpoint gone.secondary a.host a.endpoint a.secondary at other) bs)
    ∙ e

host_keeps : (host : ℕ) (a : Address) → not (a.host == host) ≡ true → (bs : List Binding) → is_some (binding_at bs a) ≡ true
    → is_some (binding_at (without_host bs host) a) ≡ true
host_keeps host a other [] e = e
host_keeps host a other (b ∷ bs) e =
    go (is_address b.address a) refl e (b.address.host == host) refl (λ f. host_keeps host a other bs f)
  where
    at_host : (x y z u v w h : ℕ) → ((x == u) && (y == v) && (z == w)) ≡ true → not (u == h) ≡ true → (x == h) ≡ false
    at_host x y z u v w h p q = grind (arith, nat_tests)

    some_first : (c : Bool) (o : Option Binding) → is_some o ≡ true → is_some (cond c (Some b) o) ≡ true
    some_first true o f = refl
    some_first false o f = f

    go : (c : Bool) → is_address b.address a ≡ c → is_some (cond c (Some b) (binding_at bs a)) ≡ true → (h : Bool) → (b.address.host == host) ≡ h
        → (is_some (binding_at bs a) ≡ true → is_some (binding_at (without_host bs host) a) ≡ true)
        → is_some (binding_at (cond (not h) (b ∷ without_host bs host) (without_host bs host)) a) ≡ true
    go true at f true of there =
        let no : (b.address.host == host) ≡ false =
        at_host b.address.host b.address.endpoint b.address.secondary a.host a.endpoint a.secondary host at other in cc
    go true at f false of there = ap (λ c. is_some (cond c (Some b) (binding_at (without_host bs host) a))) at
    go false at f true of there = there f
    go false at f false of there = some_first (is_address b.address a) (binding_at (without_host bs host) a) (there f)

-- addresses of bindings that stand are bound
all_bound : (bs : List Binding) (p : Binding → Bool)
    → list_all (λ a. is_some (binding_at bs a)) (map (λ (b : Binding). b.address) (filter p bs)) ≡ true
all_bound bs p =
    list_all-map (λ a. is_some (binding_at bs a)) (λ (b : Binding). b.address) (filter p bs)
    ∙ all-filter (λ (b : Binding). is_some (binding_at bs b.address)) p bs (each bs)
  where
    address_is : (x y z : ℕ) → ((x == x) && (y == y) && (z == z)) ≡ true
    address_is x y z = grind (arith, nat_tests)

    later : (c : Bool) (b : Binding) (o : Option Binding) → is_some o ≡ true → is_some (cond c (Some b) o) ≡ true
    later true b o f = refl
    later false b o f = f

    each : (xs : List Binding) → list_all (λ (b : Binding). is_some (binding_at xs b.address)) xs ≡ true
    each [] = refl
    each (x ∷ xs) =
        and_both (is_some (binding_at (x ∷ xs) x.address)) _
        (ap (λ c. is_some (cond c (Some x) (binding_at xs x.address))) (address_is x.address.host x.address.endpoint x.address.secondary))
        (list_all-follows (λ (b : Binding). is_some (binding_at xs b.address)) (λ (b : Binding). is_some (binding_at (x ∷ xs) b.address))
        (λ b f. later (is_address x.address b.address) x (binding_at xs b.address) f) xs (each xs))

-- Steps.

found_bindings : {A : Type 0} (bs : List Binding) (o : Option A) (h : A → Durable ChunkValue) (d : Durable ChunkValue)
    → ((x : A) → (h x).bindings ≡ bs) → d.bindings ≡ bs → (if_found o h d).bindings ≡ bs
found_bindings bs None h d there here = here
found_bindings bs (Some x) h d there here = there x

either_bindings : (bs : List Binding) (b : Bool) (d e : Durable ChunkValue) → d.bindings ≡ bs → e.bindings ≡ bs → (cond b d e).bindings ≡ bs
either_bindings bs true d e here there = here
either_bindings bs false d e here there = there

job_bindings : (values : List ChunkValue) (d : Durable ChunkValue) (t : Task) (job : Job) → (job_turned (λ x. x.stamp) values d t job).bindings ≡ d.bindings
job_bindings values d t (Clone source) =
    found_bindings d.bindings (clone_of d t.number) (clone_turned (λ x. x.stamp) values d t source) d (λ c. either_bindings d.bindings _ _ _ refl refl) refl
job_bindings values d t (Copy source base target) =
    found_bindings d.bindings (copy_of d t.number) (copy_turned d t target) d (λ c. either_bindings d.bindings _ _ _ refl refl) refl

unbind_left : (bs : List Binding) (attentions : List Address) (a : Address) → are_attentions bs attentions ≡ true
    → are_attentions (without_binding bs a) (cond (count_left bs a == 0) (without_attention attentions a) attentions) ≡ true
unfolding without_binding
unbind_left bs attentions a e = go (count_left bs a == 0)
  where
    go : (b : Bool)
        → are_attentions (cond b (first_removed (λ (b : Binding). is_address b.address a) bs)
        (first_changed (λ (b : Binding). is_address b.address a) (λ b. record b { count = b.count - 1 }) bs))
        (cond b (without_attention attentions a) attentions) ≡ true
    go true =
        left bs (first_removed (λ (b : Binding). is_address b.address a) bs) (λ b. not (is_address b a)) attentions
        (λ b other f. unbind_keeps bs a b other f) e
    go false =
        rebound bs (first_changed (λ (b : Binding). is_address b.address a) (λ b. record b { count = b.count - 1 }) bs) attentions
        (λ b f. changed_bound (λ (b : Binding). is_address b.address a) (λ b. record b { count = b.count - 1 }) (λ b. refl) bs b f) e

-- What a change does to bindings and attentions keeps each attention at a bound address.
change_keeps : (d : Durable ChunkValue) (values : List ChunkValue) (u : ChunkValue) (change : Change) (attentions : List Address)
    → are_attentions d.bindings attentions ≡ true
    → are_attentions (effect (λ x. x.stamp) values u d change).bindings (attentions_after d change attentions) ≡ true
unfolding effect attentions_after turned with_clone with_copy cancelled
change_keeps d values u (MakeContainer quota offers) attentions e = e
change_keeps d values u (MakeVolume k vtype chunks needs) attentions e = e
change_keeps d values u (DeleteVolume n) attentions e = e
change_keeps d values u (GrowVolume n chunks) attentions e =
    attentions_with d.bindings attentions (map (λ (b : Binding). b.address) (filter (λ (b : Binding). b.volume == n) d.bindings)) e
    (all_bound d.bindings (λ (b : Binding). b.volume == n))
change_keeps d values u (SetMetadata n key text) attentions e = e
change_keeps d values u (Snapshot n) attentions e =
    ap (λ bs. are_attentions bs attentions) (found_bindings d.bindings (volume_of d n) _ d (λ v. refl) refl) ∙ e
change_keeps d values u (FastClone n) attentions e =
    ap (λ bs. are_attentions bs attentions) (found_bindings d.bindings (volume_of d n) _ d (λ v. refl) refl) ∙ e
change_keeps d values u (Revert n snapshot) attentions e =
    ap (λ bs. are_attentions bs attentions) (found_bindings d.bindings (volume_of d snapshot) _ d (λ v. refl) refl) ∙ e
change_keeps d values u (Write n first blocks) attentions e = e
change_keeps d values u (Unmap n ranges) attentions e = e
change_keeps d values u (SetEndpoints host endpoints) attentions e = e
change_keeps d values u (Bind host n) attentions e =
    rebound d.bindings (with_binding d.contexts d.bindings host n) attentions (bind_keeps d host n) e
change_keeps d values u (Unbind host endpoint secondary) attentions e =
    unbind_left d.bindings attentions (record { host = host; endpoint = endpoint; secondary = secondary }) e
change_keeps d values u (UnbindAll host) attentions e =
    left d.bindings (without_host d.bindings host) (λ a. not (a.host == host)) attentions (λ a other f. host_keeps host a other d.bindings f) e
change_keeps d values u (StartClone n) attentions e =
    ap (λ bs. are_attentions bs attentions) (found_bindings d.bindings (volume_of d n) _ d (λ v. refl) refl) ∙ e
change_keeps d values u (StartCopy source base target) attentions e =
    ap (λ bs. are_attentions bs attentions)
    (found_bindings d.bindings (volume_of d source) _ d (λ v. found_bindings d.bindings (volume_of d base) _ d (λ w. refl) refl) refl) ∙ e
change_keeps d values u (Turn n) attentions e =
    ap (λ bs. are_attentions bs attentions)
    (found_bindings d.bindings (task_of d n) _ d (λ t. either_bindings d.bindings (is_running t) _ d (job_bindings values d t t.job) refl) refl) ∙ e
change_keeps d values u (Cancel n) attentions e = e

record VolatileParts {X : Type 0} (a : Array X) : Type 0 where
  long : (length a.volatile.queues == host_limit) ≡ true
  queues : are_queues 1 a.volatile.queues ≡ true
  attentions : are_attentions a.durable.bindings a.volatile.attentions ≡ true

parts : {X : Type 0} (a : Array X) → has_volatile_form a ≡ true → VolatileParts a
unfolding has_volatile_form
parts a e = record { long = and_left _ _ (and_left _ _ e); queues = and_right _ _ (and_left _ _ e); attentions = and_right _ _ e }

whole : {X : Type 0} (a : Array X) → VolatileParts a → has_volatile_form a ≡ true
unfolding has_volatile_form
whole a p = and_both _ _ (and_both _ _ p.long p.queues) p.attentions

-- A change keeps the form,
pub change_form : (a : Array ChunkValue) (change : Change) (bytes : List ℕ) → has_volatile_form a ≡ true → has_volatile_form (array_after a change bytes) ≡ true
unfolding flat_after apply
change_form a change bytes e =
    let p = parts a e in
    whole (array_after a change bytes) (record {
      long = p.long;
      queues = p.queues;
      attentions = change_keeps a.durable (new_values a.durable change bytes) (unmapped_value a.durable.geometry.chunk_blocks) change a.volatile.attentions p.attentions;
    })

-- so does a change that is asked for,
pub next_form : (capabilities : List Capability) (a : Array ChunkValue) (change : Change) (bytes : List ℕ) → has_volatile_form a ≡ true
    → has_volatile_form (next capabilities a change bytes) ≡ true
unfolding next
next_form capabilities a change bytes e = go (is_accepted (answer capabilities a change))
  where
    go : (b : Bool) → has_volatile_form (cond b (array_after a change bytes) a) ≡ true
    go true = change_form a change bytes e
    go false = e

with_queue_form : {X : Type 0} (a : Array X) (host : ℕ) (queue : List QueuedCommand) → 1 ≤ host → is_queue_of host queue ≡ true → has_volatile_form a ≡ true
    → has_volatile_form (record a { volatile = with_queue a.volatile host queue }) ≡ true
with_queue_form a host queue least of e =
    let p = parts a e in
    let same : 1 + (host - 1) ≡ host = omega arith in
    whole (record a { volatile = with_queue a.volatile host queue }) (record {
      long = ap (λ n. n == host_limit) (length-set a.volatile.queues (host - 1) queue) ∙ p.long;
      queues = set_queue 1 (host - 1) queue a.volatile.queues (ap (λ h. is_queue_of h queue) same ∙ of) p.queues;
      attentions = p.attentions;
    })

old_queue : {X : Type 0} (a : Array X) (host : ℕ) → 1 ≤ host → has_volatile_form a ≡ true → is_queue_of host (queue_of a.volatile host) ≡ true
old_queue a host least e =
    let p = parts a e in
    let same : 1 + (host - 1) ≡ host = omega arith in
    ap (λ h. is_queue_of h (queue_of a.volatile host)) (sym same) ∙ get_queue 1 (host - 1) a.volatile.queues p.queues

-- a command that is submitted where the queue has room,
pub submitted_form : {X : Type 0} (a : Array X) (c : QueuedCommand) → 1 ≤ c.address.host → is_queue_full (queue_of a.volatile c.address.host) ≡ false
    → has_volatile_form a ≡ true → has_volatile_form (record a { volatile = submitted a.volatile c }) ≡ true
submitted_form a c least room e =
    let queue : List QueuedCommand = queue_of a.volatile c.address.host in
    let old : is_queue_of c.address.host queue ≡ true = old_queue a c.address.host least e in
    let few : length queue < 32 = leb-false 32 (length queue) room in
    let long : length (queue ++ c ∷ []) ≡ length queue + 1 = length-append queue (c ∷ []) in
    with_queue_form a c.address.host (queue ++ c ∷ []) least
    (and_both (nat_le (length (queue ++ c ∷ [])) queue_limit) _ (le-leb (length (queue ++ c ∷ [])) queue_limit (omega (arith, few, long)))
    (list_all-append (λ (q : QueuedCommand). q.address.host == c.address.host) queue (c ∷ [])
    ∙ and_both _ _ (and_right (nat_le (length queue) queue_limit) _ old) (and_both (c.address.host == c.address.host) true (eq-eqb c.address.host c.address.host refl) refl))) e

all_but_first : {A : Type 0} (p : A → Bool) (xs : List A) → list_all p xs ≡ true → list_all p (drop 1 xs) ≡ true
all_but_first p [] e = refl
all_but_first p (x ∷ xs) e = and_right (p x) _ e

-- the head that is taken off,
pub taken_form : {X : Type 0} (a : Array X) (host : ℕ) → 1 ≤ host → has_volatile_form a ≡ true
    → has_volatile_form (record a { volatile = head_taken a.volatile host }) ≡ true
taken_form a host least e =
    let queue : List QueuedCommand = queue_of a.volatile host in
    let old : is_queue_of host queue ≡ true = old_queue a host least e in
    let long : length (drop 1 queue) ≡ length queue - 1 = length-drop 1 queue in
    let few : length queue ≤ 32 = leb-true (length queue) 32 (and_left (nat_le (length queue) queue_limit) _ old) in
    with_queue_form a host (drop 1 queue) least
    (and_both (nat_le (length (drop 1 queue)) queue_limit) _ (le-leb (length (drop 1 queue)) queue_limit (omega (arith, long, few)))
    (all_but_first (λ (q : QueuedCommand). q.address.host == host) queue (and_right (nat_le (length queue) queue_limit) _ old))) e

-- an attention that is cleared,
pub cleared_form : {X : Type 0} (a : Array X) (address : Address) → has_volatile_form a ≡ true
    → has_volatile_form (record a { volatile = record a.volatile { attentions = without_attention a.volatile.attentions address } }) ≡ true
cleared_form a address e =
    let p = parts a e in
    whole (record a { volatile = record a.volatile { attentions = without_attention a.volatile.attentions address } }) (record {
      long = p.long;
      queues = p.queues;
      attentions = filtered a.durable.bindings (λ b. not (is_address b address)) a.volatile.attentions p.attentions;
    })

-- and a restart and an interruption.
pub restarted_form : {X : Type 0} (a : Array X) → has_volatile_form (restarted a) ≡ true
unfolding has_volatile_form
restarted_form a = refl

pub interrupted_form : {X : Type 0} (a : Array X) → has_volatile_form a ≡ true → has_volatile_form (interrupted a) ≡ true
unfolding has_volatile_form
interrupted_form a e = e

pub empty_form : (geometry : Geometry) → has_volatile_form (empty_array {X = ChunkValue} geometry) ≡ true
unfolding has_volatile_form
empty_form geometry = refl
