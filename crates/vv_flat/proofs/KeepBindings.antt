-- An accepted change keeps the rule on bindings, as the last lemma here says. The law the_rules_of_the_shape_stay rests on it.
use Rattle.std.proofs.Common.{◌≡◌, ◌≤◌, ◌<◌, ℕ, zero, suc, ◌+◌, ◌-◌, ◌==◌, ◌&&◌, ◌||◌, not, refl, ap, sym, ◌∙◌, Bool, true, false, cond, List, [], ◌∷◌, map, length, arith}
use Rattle.std.specs.Prelude.{Option, Some, None, is_some, is_none, unwrap_or, slice_index, nat_le, nat_lt}
use Rattle.std.specs.List.{find, filter, list_all, list_any}
use Rattle.std.proofs.lemmas.Bool.{not-true, or_parts, or_left, le-leb, ltb-true, lt-ltb, eqb-true, eq-eqb, ne_eqb}
use Rattle.std.proofs.lemmas.Bool.Decides.{nat_tests}
use Rattle.vv_units.specs.declared.field.Field.TheVariants.{Vvol as in_vvol, Host as in_host, Endpoints as in_endpoints, Target as in_target}
use Rattle.vv_units.specs.declared.volume.TaskState.TheVariants.{Running, Cancelled}
use Rattle.vv_flat.specs.Lists.{if_found, first_changed, put_before, first_removed, numbers_from}
use Rattle.vv_flat.specs.State.{Context, Address, Binding, Clone, Copy, Task, Piece, Durable, volume_of, task_of}
use Rattle.vv_flat.specs.Space.{allocated_count, is_running, running_target}
use Rattle.vv_flat.specs.Bindings.{is_address, is_below, context_of, was_set, endpoints_of, with_context, keeps_bindings, binding_at, is_binding_of, binding_of, is_bound, free_secondary, new_address, with_binding, count_left, without_binding, is_of_host, without_host}
use Rattle.vv_flat.specs.Tasks.{is_busy, record_limit, with_room, started, with_task, advanced, next_piece, task_cancelled, cancelled, clone_started, with_clone, difference, copy_started, with_copy}
use Rattle.vv_flat.specs.Profiles.{Misfit}
use Rattle.vv_flat.specs.Refusals.{NoEndpoint, ResourceInUse, Accept}
use Rattle.vv_flat.specs.Changes.{Change, MakeContainer, MakeVolume, DeleteVolume, GrowVolume, SetMetadata, Snapshot, FastClone, Revert, Write, Unmap, SetEndpoints, Bind, Unbind, UnbindAll, StartClone, StartCopy, Turn, Cancel, judge, state_checks, effect, apply, apply_shape, changed_indexes, new_stamp}
use Rattle.vv_flat.specs.Rules.{bindings_rule, is_single, keeps_shape_rules, has_its_fields}
use Rattle.vv_flat.proofs.Verdicts.{passed_state, not_refused}
use Rattle.vv_flat.proofs.Steps.{find-passes}
use Rattle.vv_flat.proofs.Shares.{and_left, and_right, and_both, list_all-follows, list_all-both}
use Rattle.vv_flat.proofs.Known.{all-put, all-removed, all-changed, all-found, all-filter}
use Rattle.vv_flat.proofs.Lookups.{find-put_other, find-put_new, find-changed}
use Rattle.vv_flat.proofs.Kept.{kept}
use Rattle.vv_flat.proofs.KeepTasks.{none_any, any_none, found-any, find-changed_found, advanced_target, target_passes, Runs, next_indexes, found_keeps, turn_keeps}

-- A secondary identifier that is free.

abbrev is_at : ℕ → ℕ → ℕ → Binding → Bool
is_at h e s b = is_address b.address (record { host = h; endpoint = e; secondary = s })

numbers_apart : (a b c d e f g : ℕ) → f < g → ((a == d) && (b == e) && (c == f)) ≡ true → ((a == d) && (b == e) && (c == g)) ≡ false
numbers_apart a b c d e f g l p = grind (arith, nat_tests)

module _ {A : Type 0} (p : A → Bool) where
  shorter_step : (x : A) (xs : List A) (b : Bool) → is_some (cond b (Some x) (find p xs)) ≡ true
      → (is_some (find p xs) ≡ true → length (first_removed p xs) + 1 ≡ length xs)
      → length (cond b xs (x ∷ first_removed p xs)) + 1 ≡ suc (length xs)
  shorter_step x xs true e there = omega arith
  shorter_step x xs false e there = let h : length (first_removed p xs) + 1 ≡ length xs = there e in omega arith

  length-shorter : (xs : List A) → is_some (find p xs) ≡ true → length (first_removed p xs) + 1 ≡ length xs
  length-shorter [] e = cc
  length-shorter (x ∷ xs) e = shorter_step x xs (p x) e (length-shorter xs)

module _ {A : Type 0} (p q : A → Bool) (apart : (x : A) → p x ≡ true → q x ≡ false) where
  still_step : (x : A) (xs : List A) (b c : Bool) → p x ≡ b → q x ≡ c → is_some (cond c (Some x) (find q xs)) ≡ true
      → (is_some (find q xs) ≡ true → is_some (find q (first_removed p xs)) ≡ true)
      → is_some (find q (cond b xs (x ∷ first_removed p xs))) ≡ true
  still_step x xs true true is at e there = let f : q x ≡ false = apart x is in cc
  still_step x xs true false is at e there = e
  still_step x xs false true is at e there = rw at refl
  still_step x xs false false is at e there = rw at (there e)

  still-found : (xs : List A) → is_some (find q xs) ≡ true → is_some (find q (first_removed p xs)) ≡ true
  still-found [] e = e
  still-found (x ∷ xs) e = still_step x xs (p x) (q x) refl refl e (still-found xs)

above_from : (a b n : ℕ) → a < b → list_all (λ k. nat_lt a k) (numbers_from b n) ≡ true
above_from a b zero l = refl
above_from a b (suc n) l = and_both (nat_lt a b) _ (lt-ltb a b l) (above_from a (b + 1) n (omega arith))

-- so many secondary identifiers in a row are bound by no fewer bindings
pigeons : (h e a n : ℕ) (bs : List Binding) → list_all (λ k. is_some (find (is_at h e k) bs)) (numbers_from a n) ≡ true → n ≤ length bs
pigeons h e a zero bs each = omega arith
pigeons h e a (suc n) bs each =
    let first : is_some (find (is_at h e a) bs) ≡ true = and_left (is_some (find (is_at h e a) bs)) _ each in
    let shorter : length (first_removed (is_at h e a) bs) + 1 ≡ length bs = length-shorter (is_at h e a) bs first in
    let rest : n ≤ length (first_removed (is_at h e a) bs) =
    pigeons h e (a + 1) n (first_removed (is_at h e a) bs)
    (list_all-both (λ k. nat_lt a k) (λ k. is_some (find (is_at h e k) bs)) (λ k. is_some (find (is_at h e k) (first_removed (is_at h e a) bs)))
    (λ k above some. still-found (is_at h e a) (is_at h e k)
    (λ b p. numbers_apart b.address.host b.address.endpoint b.address.secondary h e a k (ltb-true a k above) p) bs some)
    (numbers_from (a + 1) n) (above_from a (a + 1) n (omega arith))
    (and_right (is_some (find (is_at h e a) bs)) _ each)) in
    omega arith

some_of_not_none : {A : Type 0} (o : Option A) → not (is_none o) ≡ true → is_some o ≡ true
some_of_not_none None e = cc
some_of_not_none (Some x) e = refl

none_found : {A : Type 0} (p : A → Bool) (xs : List A) → find p xs ≡ None → list_all (λ x. not (p x)) xs ≡ true
none_found p xs e = none_any p xs (sym (found-any p xs) ∙ ap is_some e)

-- so one is free among one more than there are bindings
secondary_positive : (bs : List Binding) (h e : ℕ) → nat_le 1 (free_secondary bs h e) ≡ true
secondary_positive bs h e =
    of_found (find (λ s. is_none (binding_at bs (record { host = h; endpoint = e; secondary = s }))) (numbers_from 1 (length bs + 1))) refl
  where
    of_found : (o : Option ℕ) → find (λ s. is_none (binding_at bs (record { host = h; endpoint = e; secondary = s }))) (numbers_from 1 (length bs + 1)) ≡ o
        → nat_le 1 (unwrap_or o 0) ≡ true
    of_found None at =
        let all : list_all (λ s. not (is_none (find (is_at h e s) bs))) (numbers_from 1 (length bs + 1)) ≡ true =
        none_found (λ s. is_none (find (is_at h e s) bs)) (numbers_from 1 (length bs + 1)) at in
        let few : length bs + 1 ≤ length bs =
        pigeons h e 1 (length bs + 1) bs
        (list_all-follows (λ s. not (is_none (find (is_at h e s) bs))) (λ s. is_some (find (is_at h e s) bs))
        (λ s f. some_of_not_none (find (is_at h e s) bs) f) (numbers_from 1 (length bs + 1)) all) in
        absurd (omega arith)
    of_found (Some s) at =
        let above : nat_lt 0 s ≡ true =
        all-found (λ k. nat_lt 0 k) (λ s. is_none (binding_at bs (record { host = h; endpoint = e; secondary = s }))) s
        (numbers_from 1 (length bs + 1)) (above_from 0 1 (length bs + 1) (omega arith)) at in
        let l : 0 < s = ltb-true 0 s above in
        le-leb 1 s (omega arith)

-- The endpoints of hosts after one list is set.

endpoints-other : (contexts : List Context) (host h : ℕ) (endpoints : List ℕ) → (host == h) ≡ false
    → endpoints_of (with_context contexts host endpoints) h ≡ endpoints_of contexts h
endpoints-other contexts host h endpoints other = of_set (was_set contexts host)
  where
    of_set : (b : Bool)
        → endpoints_of (cond b (first_changed (λ (c : Context). c.host == host) (λ c. record c { endpoints = endpoints }) contexts)
        (put_before (λ (c : Context). nat_lt host c.host) (record { host = host; endpoints = endpoints }) contexts)) h ≡ endpoints_of contexts h
    of_set true =
        find-changed (λ (c : Context). c.host == host) (λ (c : Context). c.host == h) (λ o. if_found o (λ (c : Context). c.endpoints) (1 ∷ []))
        (λ c. record c { endpoints = endpoints }) contexts (λ c at. refl)
        (λ c at is. let here : c.host ≡ host = eqb-true c.host host (find-passes (λ (x : Context). x.host == host) contexts c at) in
        let f : (host == h) ≡ true = ap (λ k. k == h) (sym here) ∙ is in cc)
    of_set false =
        ap (λ o. if_found o (λ (c : Context). c.endpoints) (1 ∷ []))
        (find-put_other (λ (c : Context). nat_lt host c.host) (λ (c : Context). c.host == h) (record { host = host; endpoints = endpoints }) contexts other)

endpoints-set : (contexts : List Context) (host : ℕ) (endpoints : List ℕ) → endpoints_of (with_context contexts host endpoints) host ≡ endpoints
endpoints-set contexts host endpoints = of_found (context_of contexts host) refl
  where
    of_found : (o : Option Context) → context_of contexts host ≡ o
        → endpoints_of (cond (is_some o) (first_changed (λ (c : Context). c.host == host) (λ c. record c { endpoints = endpoints }) contexts)
        (put_before (λ (c : Context). nat_lt host c.host) (record { host = host; endpoints = endpoints }) contexts)) host ≡ endpoints
    of_found (Some c) at =
        ap (λ o. if_found o (λ (c : Context). c.endpoints) (1 ∷ []))
        (find-changed_found (λ (x : Context). x.host == host) (λ x. record x { endpoints = endpoints }) c contexts at
        (find-passes (λ (x : Context). x.host == host) contexts c at))
    of_found None at =
        ap (λ o. if_found o (λ (c : Context). c.endpoints) (1 ∷ []))
        (find-put_new (λ (c : Context). nat_lt host c.host) (λ (c : Context). c.host == host) (record { host = host; endpoints = endpoints }) contexts
        (eq-eqb host host refl) (none_found (λ (c : Context). c.host == host) contexts at))

-- Bindings edited.

any_put_step : {A : Type 0} (r p : A → Bool) (x y : A) (ys : List A) (b : Bool) → list_any r (put_before p x ys) ≡ (r x || list_any r ys)
    → list_any r (cond b (x ∷ y ∷ ys) (y ∷ put_before p x ys)) ≡ (r x || (r y || list_any r ys))
any_put_step r p x y ys true e = refl
any_put_step r p x y ys false e = ap (λ b. r y || b) e ∙ swap (r x) (r y) (list_any r ys)
  where
    swap : (a b c : Bool) → (b || (a || c)) ≡ (a || (b || c))
    swap true true c = refl
    swap true false c = refl
    swap false b c = refl

any-put : {A : Type 0} (r p : A → Bool) (x : A) (xs : List A) → list_any r (put_before p x xs) ≡ (r x || list_any r xs)
any-put r p x [] = refl
any-put r p x (y ∷ ys) = any_put_step r p x y ys (p y) (any-put r p x ys)

any_changed_step : {A : Type 0} (r p : A → Bool) (g : A → A) (x : A) (xs : List A) (b : Bool) → r (g x) ≡ r x
    → list_any r (first_changed p g xs) ≡ list_any r xs
    → list_any r (cond b (g x ∷ xs) (x ∷ first_changed p g xs)) ≡ (r x || list_any r xs)
any_changed_step r p g x xs true e h = ap (λ b. b || list_any r xs) e
any_changed_step r p g x xs false e h = ap (λ b. r x || b) h

any-changed : {A : Type 0} (r p : A → Bool) (g : A → A) → ((x : A) → r (g x) ≡ r x) → (xs : List A)
    → list_any r (first_changed p g xs) ≡ list_any r xs
any-changed r p g same [] = refl
any-changed r p g same (x ∷ xs) = any_changed_step r p g x xs (p x) (same x) (any-changed r p g same xs)

none-removed : {A : Type 0} (r p : A → Bool) (xs : List A) → list_any r xs ≡ false → list_any r (first_removed p xs) ≡ false
none-removed r p xs e = any_none r (first_removed p xs) (all-removed (λ x. not (r x)) p xs (none_any r xs e))

none-filter : {A : Type 0} (r p : A → Bool) (xs : List A) → list_any r xs ≡ false → list_any r (filter p xs) ≡ false
none-filter r p xs e = any_none r (filter p xs) (all-filter (λ x. not (r x)) p xs (none_any r xs e))

-- the count of a binding changed
abbrev counted : (ℕ → ℕ) → Binding → Binding
counted f b = record b { count = f b.count }

-- whether a later binding is of the host and volume of this one
abbrev again : Binding → List Binding → Bool
again b bs = list_any (is_binding_of b.address.host b.volume) bs

module _ (p : Binding → Bool) where
  single_removed_step : (b : Binding) (bs : List Binding) (a : Bool) → (not (again b bs) && is_single bs) ≡ true
      → is_single (first_removed p bs) ≡ true → is_single (cond a bs (b ∷ first_removed p bs)) ≡ true
  single_removed_step b bs true e h = and_right (not (again b bs)) (is_single bs) e
  single_removed_step b bs false e h =
      and_both (not (again b (first_removed p bs))) (is_single (first_removed p bs))
      (ap not (none-removed (is_binding_of b.address.host b.volume) p bs (not-true (again b bs) (and_left (not (again b bs)) (is_single bs) e)))) h

  single-removed : (bs : List Binding) → is_single bs ≡ true → is_single (first_removed p bs) ≡ true
  single-removed [] e = refl
  single-removed (b ∷ bs) e = single_removed_step b bs (p b) e (single-removed bs (and_right (not (again b bs)) (is_single bs) e))

  single_filter_step : (b : Binding) (bs : List Binding) (a : Bool) → (not (again b bs) && is_single bs) ≡ true
      → is_single (filter p bs) ≡ true → is_single (cond a (b ∷ filter p bs) (filter p bs)) ≡ true
  single_filter_step b bs true e h =
      and_both (not (again b (filter p bs))) (is_single (filter p bs))
      (ap not (none-filter (is_binding_of b.address.host b.volume) p bs (not-true (again b bs) (and_left (not (again b bs)) (is_single bs) e)))) h
  single_filter_step b bs false e h = h

  single-filter : (bs : List Binding) → is_single bs ≡ true → is_single (filter p bs) ≡ true
  single-filter [] e = refl
  single-filter (b ∷ bs) e = single_filter_step b bs (p b) e (single-filter bs (and_right (not (again b bs)) (is_single bs) e))

  single_counted_step : (f : ℕ → ℕ) (b : Binding) (bs : List Binding) (a : Bool) → (not (again b bs) && is_single bs) ≡ true
      → is_single (first_changed p (counted f) bs) ≡ true → is_single (cond a (counted f b ∷ bs) (b ∷ first_changed p (counted f) bs)) ≡ true
  single_counted_step f b bs true e h = e
  single_counted_step f b bs false e h =
      and_both (not (again b (first_changed p (counted f) bs))) (is_single (first_changed p (counted f) bs))
      (ap not (any-changed (is_binding_of b.address.host b.volume) p (counted f) (λ x. refl) bs) ∙ and_left (not (again b bs)) (is_single bs) e) h

  single-counted : (f : ℕ → ℕ) (bs : List Binding) → is_single bs ≡ true → is_single (first_changed p (counted f) bs) ≡ true
  single-counted f [] e = refl
  single-counted f (b ∷ bs) e =
      single_counted_step f b bs (p b) e (single-counted f bs (and_right (not (again b bs)) (is_single bs) e))

  turned_round : (a b c d : ℕ) → ((a == b) && (c == d)) ≡ false → ((b == a) && (d == c)) ≡ false
  turned_round a b c d e = grind (arith, nat_tests)

  single_put_step : (b y : Binding) (ys : List Binding) (a : Bool) → (is_binding_of b.address.host b.volume y || again b ys) ≡ false
      → (not (again y ys) && is_single ys) ≡ true → is_single (put_before p b ys) ≡ true
      → is_single (cond a (b ∷ y ∷ ys) (y ∷ put_before p b ys)) ≡ true
  single_put_step b y ys true n e h =
      and_both (not (is_binding_of b.address.host b.volume y || again b ys)) (not (again y ys) && is_single ys) (ap not n) e
  single_put_step b y ys false n e h =
      let here : is_binding_of b.address.host b.volume y ≡ false = (or_parts (is_binding_of b.address.host b.volume y) (again b ys) n).0 in
      let there : is_binding_of y.address.host y.volume b ≡ false =
      turned_round y.address.host b.address.host y.volume b.volume here in
      let none : again y ys ≡ false = not-true (again y ys) (and_left (not (again y ys)) (is_single ys) e) in
      let more : again y (put_before p b ys) ≡ false =
      any-put (is_binding_of y.address.host y.volume) p b ys ∙ ap (λ c. c || again y ys) there ∙ none in
      and_both (not (again y (put_before p b ys))) (is_single (put_before p b ys)) (ap not more) h

  single-put : (b : Binding) (bs : List Binding) → again b bs ≡ false → is_single bs ≡ true → is_single (put_before p b bs) ≡ true
  single-put b [] n e = refl
  single-put b (y ∷ ys) n e =
      single_put_step b y ys (p y) n e
      (single-put b ys (or_parts (is_binding_of b.address.host b.volume y) (again b ys) n).1 (and_right (not (again y ys)) (is_single ys) e))

-- The three parts of the rule.

abbrev is_in_place : List Context → Binding → Bool
is_in_place contexts b =
    list_any (λ e. e == b.address.endpoint) (endpoints_of contexts b.address.host) && nat_le 1 b.address.secondary && nat_le 1 b.count

abbrev leaves_unbound : List Binding → Task → Bool
leaves_unbound bindings t = if_found (running_target t) (λ n. not (is_bound bindings n)) true

record Bound (contexts : List Context) (bindings : List Binding) (tasks : List Task) : Type 0 where
  places : list_all (is_in_place contexts) bindings ≡ true
  single : is_single bindings ≡ true
  apart : list_all (leaves_unbound bindings) tasks ≡ true

bound : (d : Durable ℕ) → bindings_rule d ≡ true → Bound d.contexts d.bindings d.tasks
unfolding bindings_rule
bound d e = record { places = and_left _ _ (and_left _ _ e); single = and_right _ _ (and_left _ _ e); apart = and_right _ _ e }

rule_of : (d : Durable ℕ) → Bound d.contexts d.bindings d.tasks → bindings_rule d ≡ true
unfolding bindings_rule
rule_of d b =
    and_both (list_all (is_in_place d.contexts) d.bindings && is_single d.bindings) (list_all (leaves_unbound d.bindings) d.tasks)
    (and_both (list_all (is_in_place d.contexts) d.bindings) (is_single d.bindings) b.places b.single) b.apart

-- a binding in place but for its count
in_place_counted : (contexts : List Context) (f : ℕ → ℕ) (b : Binding) → nat_le 1 (f b.count) ≡ true → is_in_place contexts b ≡ true
    → is_in_place contexts (counted f b) ≡ true
in_place_counted contexts f b more e =
    and_both (list_any (λ e. e == b.address.endpoint) (endpoints_of contexts b.address.host) && nat_le 1 b.address.secondary) (nat_le 1 (f b.count))
    (and_left _ (nat_le 1 b.count) e) more

-- fewer bindings leave no more volumes bound
fewer_bound : (bs cs : List Binding) → ((n : ℕ) → is_bound bs n ≡ false → is_bound cs n ≡ false) → (tasks : List Task)
    → list_all (leaves_unbound bs) tasks ≡ true → list_all (leaves_unbound cs) tasks ≡ true
fewer_bound bs cs fewer tasks e =
    list_all-follows (leaves_unbound bs) (leaves_unbound cs) (λ t h. of_target (running_target t) h) tasks e
  where
    of_target : (o : Option ℕ) → if_found o (λ n. not (is_bound bs n)) true ≡ true → if_found o (λ n. not (is_bound cs n)) true ≡ true
    of_target None h = refl
    of_target (Some n) h = ap not (fewer n (not-true (is_bound bs n) h))

positive : (k : ℕ) → (k == 0) ≡ false → nat_le 1 k ≡ true
positive k e = grind (arith, nat_tests)

module _ (contexts : List Context) (bindings : List Binding) (tasks : List Task) (b : Bound contexts bindings tasks) where
  endpoints_set : (host : ℕ) (endpoints : List ℕ) → keeps_bindings bindings host endpoints ≡ true
      → Bound (with_context contexts host endpoints) bindings tasks
  endpoints_set host endpoints keeps =
      record {
        places = list_all-both (is_in_place contexts)
            (λ (x : Binding). not (x.address.host == host) || list_any (λ e. e == x.address.endpoint) endpoints)
            (is_in_place (with_context contexts host endpoints)) (λ x e k. of_host x (host == x.address.host) refl e k) bindings b.places keeps;
        single = b.single;
        apart = b.apart;
      }
    where
      rest : (x : Binding) (es : List ℕ) → is_in_place contexts x ≡ true → list_any (λ e. e == x.address.endpoint) es ≡ true
          → (list_any (λ e. e == x.address.endpoint) es && nat_le 1 x.address.secondary && nat_le 1 x.count) ≡ true
      rest x es e f =
          let listed : Bool = list_any (λ e. e == x.address.endpoint) (endpoints_of contexts x.address.host) in
          and_both (list_any (λ e. e == x.address.endpoint) es && nat_le 1 x.address.secondary) (nat_le 1 x.count)
          (and_both (list_any (λ e. e == x.address.endpoint) es) (nat_le 1 x.address.secondary) f
          (and_right listed (nat_le 1 x.address.secondary) (and_left (listed && nat_le 1 x.address.secondary) (nat_le 1 x.count) e)))
          (and_right (listed && nat_le 1 x.address.secondary) (nat_le 1 x.count) e)

      of_host : (x : Binding) (a : Bool) → (host == x.address.host) ≡ a → is_in_place contexts x ≡ true
          → (not (x.address.host == host) || list_any (λ e. e == x.address.endpoint) endpoints) ≡ true
          → is_in_place (with_context contexts host endpoints) x ≡ true
      of_host x true is e k =
          let same : host ≡ x.address.host = eqb-true host x.address.host is in
          let here : list_any (λ e. e == x.address.endpoint) endpoints ≡ true =
          sym (ap (λ c. not c || list_any (λ e. e == x.address.endpoint) endpoints) (eq-eqb x.address.host host (sym same))) ∙ k in
          let at : endpoints_of (with_context contexts host endpoints) x.address.host ≡ endpoints =
          ap (λ h. endpoints_of (with_context contexts host endpoints) h) (sym same) ∙ endpoints-set contexts host endpoints in
          rest x (endpoints_of (with_context contexts host endpoints) x.address.host) e (ap (list_any (λ e. e == x.address.endpoint)) at ∙ here)
      of_host x false is e k =
          rest x (endpoints_of (with_context contexts host endpoints) x.address.host) e
          (ap (list_any (λ e. e == x.address.endpoint)) (endpoints-other contexts host x.address.host endpoints is)
          ∙ and_left (list_any (λ e. e == x.address.endpoint) (endpoints_of contexts x.address.host)) (nat_le 1 x.address.secondary)
          (and_left (list_any (λ e. e == x.address.endpoint) (endpoints_of contexts x.address.host) && nat_le 1 x.address.secondary) (nat_le 1 x.count) e))

  counted_bound : (p : Binding → Bool) (f : ℕ → ℕ) → ((x : Binding) → find p bindings ≡ Some x → nat_le 1 x.count ≡ true → nat_le 1 (f x.count) ≡ true)
      → Bound contexts (first_changed p (counted f) bindings) tasks
  counted_bound p f more = record {
    places = all-changed (is_in_place contexts) p (counted f) bindings b.places
        (λ x at e. in_place_counted contexts f x (more x at (and_right _ (nat_le 1 x.count) e)) e);
    single = single-counted p f bindings b.single;
    apart = fewer_bound bindings (first_changed p (counted f) bindings)
        (λ n e. any-changed (λ (x : Binding). x.volume == n) p (counted f) (λ x. refl) bindings ∙ e) tasks b.apart;
  }

  removed_bound : (p : Binding → Bool) → Bound contexts (first_removed p bindings) tasks
  removed_bound p = record {
    places = all-removed (is_in_place contexts) p bindings b.places;
    single = single-removed p bindings b.single;
    apart = fewer_bound bindings (first_removed p bindings) (λ n e. none-removed (λ (x : Binding). x.volume == n) p bindings e) tasks b.apart;
  }

  filtered_bound : (p : Binding → Bool) → Bound contexts (filter p bindings) tasks
  filtered_bound p = record {
    places = all-filter (is_in_place contexts) p bindings b.places;
    single = single-filter p bindings b.single;
    apart = fewer_bound bindings (filter p bindings) (λ n e. none-filter (λ (x : Binding). x.volume == n) p bindings e) tasks b.apart;
  }

  put_bound : (p : Binding → Bool) (x : Binding) → is_in_place contexts x ≡ true → again x bindings ≡ false
      → list_any (λ t. if_found (running_target t) (λ m. m == x.volume) false) tasks ≡ false → Bound contexts (put_before p x bindings) tasks
  put_bound p x here none free =
      record {
        places = all-put (is_in_place contexts) p x bindings here b.places;
        single = single-put p x bindings none b.single;
        apart = list_all-both (λ t. not (if_found (running_target t) (λ m. m == x.volume) false)) (leaves_unbound bindings)
            (leaves_unbound (put_before p x bindings)) (λ t e h. of_target (running_target t) e h) tasks
            (none_any (λ t. if_found (running_target t) (λ m. m == x.volume) false) tasks free) b.apart;
      }
    where
      of_target : (o : Option ℕ) → not (if_found o (λ m. m == x.volume) false) ≡ true → if_found o (λ n. not (is_bound bindings n)) true ≡ true
          → if_found o (λ n. not (is_bound (put_before p x bindings) n)) true ≡ true
      of_target None e h = refl
      of_target (Some m) e h =
          let other : (m == x.volume) ≡ false = not-true (m == x.volume) e in
          let apart : (x.volume == m) ≡ false =
          ne_eqb x.volume m (λ s. let f : (m == x.volume) ≡ true = eq-eqb m x.volume (sym s) in cc) in
          ap not (any-put (λ (y : Binding). y.volume == m) p x bindings ∙ ap (λ c. c || is_bound bindings m) apart ∙ not-true (is_bound bindings m) h)

  first_listed : (es : List ℕ) → (length es == 0) ≡ false → list_any (λ e. e == slice_index es 0) es ≡ true
  first_listed [] e = cc
  first_listed (x ∷ xs) e = or_left (x == x) (list_any (λ e. e == x) xs) (eq-eqb x x refl)

  bind_bound : (host n : ℕ) → (length (endpoints_of contexts host) == 0) ≡ false
      → list_any (λ t. if_found (running_target t) (λ m. m == n) false) tasks ≡ false
      → Bound contexts (with_binding contexts bindings host n) tasks
  unfolding with_binding
  bind_bound host n some free = of_found (is_some (binding_of bindings host n)) refl
    where
      of_found : (a : Bool) → is_some (binding_of bindings host n) ≡ a
          → Bound contexts (cond a (first_changed (is_binding_of host n) (λ b. record b { count = b.count + 1 }) bindings)
          (put_before (λ (b : Binding). is_below (new_address contexts bindings host) b.address)
          (record { address = new_address contexts bindings host; volume = n; count = 1 }) bindings)) tasks
      of_found true at = counted_bound (is_binding_of host n) (λ k. k + 1) (λ x found e. le-leb 1 (x.count + 1) (omega arith))
      of_found false at =
          put_bound (λ (b : Binding). is_below (new_address contexts bindings host) b.address)
          (record { address = new_address contexts bindings host; volume = n; count = 1 })
          (and_both (list_any (λ e. e == slice_index (endpoints_of contexts host) 0) (endpoints_of contexts host)
          && nat_le 1 (free_secondary bindings host (slice_index (endpoints_of contexts host) 0))) true
          (and_both (list_any (λ e. e == slice_index (endpoints_of contexts host) 0) (endpoints_of contexts host))
          (nat_le 1 (free_secondary bindings host (slice_index (endpoints_of contexts host) 0)))
          (first_listed (endpoints_of contexts host) some) (secondary_positive bindings host (slice_index (endpoints_of contexts host) 0))) refl)
          (sym (found-any (is_binding_of host n) bindings) ∙ at) free

  unbind_bound : (a : Address) → Bound contexts (without_binding bindings a) tasks
  unfolding without_binding
  unbind_bound a = of_left (count_left bindings a == 0) refl
    where
      of_left : (c : Bool) → (count_left bindings a == 0) ≡ c
          → Bound contexts (cond c (first_removed (λ (b : Binding). is_address b.address a) bindings)
          (first_changed (λ (b : Binding). is_address b.address a) (λ b. record b { count = b.count - 1 }) bindings)) tasks
      of_left true is = removed_bound (λ (b : Binding). is_address b.address a)
      of_left false is =
          counted_bound (λ (b : Binding). is_address b.address a) (λ k. k - 1)
          (λ x found e. let left : count_left bindings a ≡ x.count - 1 = ap (λ o. if_found o (λ (b : Binding). b.count - 1) 0) found in
          let some : (x.count - 1 == 0) ≡ false = ap (λ k. k == 0) (sym left) ∙ is in
          positive (x.count - 1) some)

  -- records of tasks edited
  narrowed_bound : (p : Task → Bool) (g : Task → Task)
      → ((t : Task) → find p tasks ≡ Some t → (m : ℕ) → running_target (g t) ≡ Some m → running_target t ≡ Some m)
      → Bound contexts bindings (first_changed p g tasks)
  narrowed_bound p g from = record {
    places = b.places;
    single = b.single;
    apart = all-changed (leaves_unbound bindings) p g tasks b.apart
        (λ t at e. target_passes (λ n. not (is_bound bindings n)) (running_target t) (running_target (g t)) (from t at) e);
  }

  started_bound : (t : Task) → leaves_unbound bindings t ≡ true → Bound contexts bindings (started tasks t)
  started_bound t e =
      record {
        places = b.places;
        single = b.single;
        apart = all-put (leaves_unbound bindings) (λ (u : Task). nat_lt t.number u.number) t (with_room tasks) e
            (of_room (nat_le record_limit (length tasks)));
      }
    where
      of_room : (a : Bool) → list_all (leaves_unbound bindings) (cond a (first_removed (λ (u : Task). not (is_running u)) tasks) tasks) ≡ true
      of_room true = all-removed (leaves_unbound bindings) (λ (u : Task). not (is_running u)) tasks b.apart
      of_room false = b.apart

advanced_bound : (d : Durable ℕ) (n : ℕ) (t : Task) (k : ℕ) → Runs d n t → Bound d.contexts d.bindings d.tasks
    → Bound d.contexts d.bindings (with_task d.tasks (advanced t k))
advanced_bound d n t k r b =
    let found : task_of d t.number ≡ Some t = r.is_task in
    narrowed_bound d.contexts d.bindings d.tasks b (λ (u : Task). u.number == t.number) (λ _. advanced t k)
    (λ u at m e. let same : ◌≡◌ {A = Task} t u = cc in
    sym (ap running_target same) ∙ advanced_target t k r.runs m e)

advanced_rule : (d : Durable ℕ) (n : ℕ) (t : Task) (k : ℕ) → Runs d n t → bindings_rule d ≡ true
    → bindings_rule (record d { tasks = with_task d.tasks (advanced t k) }) ≡ true
advanced_rule d n t k r rule = rule_of (record d { tasks = with_task d.tasks (advanced t k) }) (advanced_bound d n t k r (bound d rule))

bindings_step : (misfit : Option Misfit) (d : Durable ℕ) (c : Change) → bindings_rule d ≡ true → judge misfit d c ≡ Accept
    → bindings_rule (effect (λ s. s) (map (λ _. new_stamp d c) (changed_indexes (λ s. s) d c)) 0 d c) ≡ true
unfolding effect state_checks with_clone with_copy changed_indexes cancelled bindings_rule
bindings_step misfit d (MakeContainer quota offers) rule e = rule
bindings_step misfit d (MakeVolume k vtype chunks needs) rule e = rule
bindings_step misfit d (DeleteVolume n) rule e = rule
bindings_step misfit d (GrowVolume n chunks) rule e = rule
bindings_step misfit d (SetMetadata n key text) rule e = rule
bindings_step misfit d (Snapshot n) rule e = found_keeps bindings_rule d (volume_of d n) _ rule (λ v at. rule)
bindings_step misfit d (FastClone n) rule e = found_keeps bindings_rule d (volume_of d n) _ rule (λ v at. rule)
bindings_step misfit d (Revert n snapshot) rule e = found_keeps bindings_rule d (volume_of d snapshot) _ rule (λ v at. rule)
bindings_step misfit d (Write n first blocks) rule e = rule
bindings_step misfit d (Unmap n ranges) rule e = rule
bindings_step misfit d (SetEndpoints host endpoints) rule e =
    rule_of (record d { contexts = with_context d.contexts host endpoints })
    (endpoints_set d.contexts d.bindings d.tasks (bound d rule) host endpoints
    (kept_of (keeps_bindings d.bindings host endpoints)
    (not_refused (not (keeps_bindings d.bindings host endpoints)) (ResourceInUse in_endpoints) (passed_state misfit d (SetEndpoints host endpoints) e 0))))
  where
    kept_of : (b : Bool) → not b ≡ false → b ≡ true
    kept_of true h = refl
    kept_of false h = cc
bindings_step misfit d (Bind host n) rule e =
    rule_of (record d { bindings = with_binding d.contexts d.bindings host n })
    (bind_bound d.contexts d.bindings d.tasks (bound d rule) host n
    (not_refused (length (endpoints_of d.contexts host) == 0) (NoEndpoint in_host) (passed_state misfit d (Bind host n) e 1))
    (not_refused (is_busy d n) (ResourceInUse in_vvol) (passed_state misfit d (Bind host n) e 2)))
bindings_step misfit d (Unbind host endpoint secondary) rule e =
    let address : Address = record { host = host; endpoint = endpoint; secondary = secondary } in
    rule_of (record d { bindings = without_binding d.bindings address })
    (unbind_bound d.contexts d.bindings d.tasks (bound d rule) address)
bindings_step misfit d (UnbindAll host) rule e =
    rule_of (record d { bindings = without_host d.bindings host })
    (filtered_bound d.contexts d.bindings d.tasks (bound d rule) (λ b. not (is_of_host host b)))
bindings_step misfit d (StartClone n) rule e =
    found_keeps bindings_rule d (volume_of d n) (clone_started (λ s. s) 0 d n) rule
    (λ v at. rule_of (clone_started (λ s. s) 0 d n v)
    (started_bound d.contexts d.bindings d.tasks (bound d rule)
    (record { number = d.lsn + 1; job = Clone n; state = Running; done = 0; total = allocated_count (map (λ s. s) v.chunks) }) refl))
bindings_step misfit d (StartCopy source base target) rule e =
    let free : (is_bound d.bindings target || is_busy d target) ≡ false =
    not_refused (is_bound d.bindings target || is_busy d target) (ResourceInUse in_target) (passed_state misfit d (StartCopy source base target) e 5) in
    found_keeps bindings_rule d (volume_of d source) _ rule
    (λ v found. found_keeps bindings_rule d (volume_of d base)
    (λ w. copy_started d (Copy source base target) (difference (λ s. s) v.chunks w.chunks)) rule
    (λ w at. let ps : List (Piece ℕ) = difference (λ s. s) v.chunks w.chunks in
    rule_of (copy_started d (Copy source base target) ps)
    (started_bound d.contexts d.bindings d.tasks (bound d rule)
    (record { number = d.lsn + 1; job = Copy source base target; state = Running; done = 0; total = length ps })
    (ap not (or_parts (is_bound d.bindings target) (is_busy d target) free).0))))
bindings_step misfit d (Turn n) rule e =
    turn_keeps bindings_rule d n rule
    (λ t c r job at. advanced_rule d n t (length (next_indexes t c)) r rule)
    (λ t source c r job at. advanced_rule d n t (length (next_indexes t c)) r rule)
    (λ t r job. advanced_rule d n t (next_piece t) r rule)
    (λ t target c r job at. advanced_rule d n t (next_piece t) r rule)
bindings_step misfit d (Cancel n) rule e =
    rule_of (record d { tasks = task_cancelled d.tasks n })
    (narrowed_bound d.contexts d.bindings d.tasks (bound d rule) (λ (t : Task). t.number == n) (λ t. record t { state = Cancelled })
    (λ t at m f. cc))

pub bindings_stay : (misfit : Option Misfit) → (d : Durable ℕ) → (change : Change) → keeps_shape_rules d ≡ true → has_its_fields change ≡ true
    → judge misfit d change ≡ Accept → bindings_rule (apply_shape d change) ≡ true
unfolding apply_shape apply bindings_rule
bindings_stay misfit d change rules fields accepted = bindings_step misfit d change (kept d rules).bindings accepted
