-- What a table keeps through its calls, and what its calls answer.
use Rattle.std.proofs.Common.{◌≡◌, ◌≢◌, ℕ, suc, ◌+◌, ◌-◌, ◌<◌, ◌≤◌, ◌&&◌, ◌||◌, not, refl, ap, sym, ◌∙◌, Bool, true, false, cond, List, [], ◌∷◌, length, get_or, set, arith}
use Rattle.std.specs.Prelude.{Option, Some, None, IfSome, is_some, filter, slice_index, nat_lt, nat_le, ◌==◌}
use Rattle.std.specs.List.{find, list_all, position}
use Rattle.std.proofs.lemmas.Bool.Decides.{nat_tests}
use Rattle.vv_units.specs.declared.numbers.EndpointId.{EndpointId}
use Rattle.vv_flat.specs.Lists.{all_different, all_rise, all_rise_from, if_found, first_changed, put_before, first_removed}
use Rattle.vv_flat.specs.State.{Context, Address, Binding}
use Rattle.vv_flat.specs.Form.{all_below, bindings_rise}
use Rattle.vv_flat.specs.Bindings.{is_address, is_below, is_binding_of, is_of_host, context_of, was_set, with_context, endpoints_of, binding_at, binding_of, free_secondary, new_address, with_binding, count_left, without_binding, without_host}
use Rattle.vv_flat.proofs.Shares.{and_left, and_right, and_both}
use Rattle.vv_flat.proofs.Known.{all-put, all-changed, all-found, all-removed, all-filter}
use Rattle.vv_bind.specs.declared.fault.BindFault.{BindFault}
use Rattle.vv_bind.specs.declared.fault.BindFault.TheVariants.{NoEndpoint, TooManyCount, TooManyBindings}
use Rattle.vv_bind.specs.Table.{BindState, IsHost, IsKept, numbers, address, bind_fault, with_one_more, context_below, binding_below, has_host_number, has_endpoints, are_endpoints, is_of_a_host}
use Rattle.vv_flat.proofs.Positions.{length-put_before, found_is, found_passes, not_found, changed_step, is_some_at}
use Rattle.vv_flat.proofs.KeepLists.{rise-removed, rise-put, rise-changed, rise-filter}
use Rattle.vv_bind.proofs.RowLemmas.{binding_through, address_total}

module _ {A : Type 0} (p : A → Bool) where
  length_change : (f : A → A) (x : A) (xs : List A) (b : Bool) → length (first_changed p f xs) ≡ length xs
      → length (cond b (f x ∷ xs) (x ∷ first_changed p f xs)) ≡ length (x ∷ xs)
  length_change f x xs true h = refl
  length_change f x xs false h = omega arith

  length-changed : (f : A → A) (xs : List A) → length (first_changed p f xs) ≡ length xs
  length-changed f [] = refl
  length-changed f (x ∷ xs) = length_change f x xs (p x) (length-changed f xs)

  fewer : (x : A) (xs : List A) (b : Bool) → length (first_removed p xs) ≤ length xs → length (cond b xs (x ∷ first_removed p xs)) ≤ length (x ∷ xs)
  fewer x xs true h = omega arith
  fewer x xs false h = omega arith

  removed-le : (xs : List A) → length (first_removed p xs) ≤ length xs
  removed-le [] = omega arith
  removed-le (x ∷ xs) = fewer x xs (p x) (removed-le xs)

  few_left : (x : A) (xs : List A) (b : Bool) → length (filter p xs) ≤ length xs → length (cond b (x ∷ filter p xs) (filter p xs)) ≤ length (x ∷ xs)
  few_left x xs true h = omega arith
  few_left x xs false h = omega arith

  filter-le : (xs : List A) → length (filter p xs) ≤ length xs
  filter-le [] = omega arith
  filter-le (x ∷ xs) = few_left x xs (p x) (filter-le xs)

number_host : (n : ℕ) → 1 ≤ n → n ≤ 64 → (nat_le 1 n && nat_le n 64) ≡ true
number_host n l h = grind (arith, nat_tests)

-- ---- bindings
apart_head : (x y : Binding) (ys : List Binding) (b : Bool) → is_address y.address x.address ≡ b
    → cond b (Some y) (find (λ (z : Binding). is_address z.address x.address) ys) ≡ None
    → (find (λ (z : Binding). is_address z.address x.address) ys ≡ None → list_all (λ z. binding_below x z || binding_below z x) ys ≡ true)
    → ((binding_below x y || binding_below y x) && list_all (λ z. binding_below x z || binding_below z x) ys) ≡ true
apart_head x y ys true is h k = absurd (cc)
apart_head x y ys false is h k =
    and_both (binding_below x y || binding_below y x) (list_all (λ z. binding_below x z || binding_below z x) ys)
    (address_total x.address.host x.address.endpoint x.address.secondary y.address.host y.address.endpoint y.address.secondary is) (k h)

all_apart : (x : Binding) (ys : List Binding) → find (λ (z : Binding). is_address z.address x.address) ys ≡ None
    → list_all (λ z. binding_below x z || binding_below z x) ys ≡ true
all_apart x [] h = refl
all_apart x (y ∷ ys) h = apart_head x y ys (is_address y.address x.address) refl h (all_apart x ys)

pub kept-put : (cs : List Context) (bs next : List Binding) (cr br more : ℕ) (x : Binding) → IsKept cs bs cr br
    → IsHost x.address.host → binding_at bs x.address ≡ None → length bs < 1024 → next ≡ with_one_more bs x → br ≤ more → IsKept cs next cr more
kept-put cs bs next cr br more x kept host free room is larger = record {
  few = rw is (let l = length-put_before (λ (b : Binding). is_below x.address b.address) x bs in omega arith);
  fits = let f = kept.fits in omega arith;
  bindings_rise = rw is (rise-put binding_below x bs (all_apart x bs free) kept.bindings_rise);
  contexts_fit = kept.contexts_fit;
  contexts_rise = kept.contexts_rise;
  hosts = kept.hosts;
  lists = kept.lists;
  bound_hosts = rw is (all-put is_of_a_host (λ (b : Binding). is_below x.address b.address) x bs (number_host x.address.host host.from_one host.within) kept.bound_hosts);
}

pub kept-changed : (cs : List Context) (bs next : List Binding) (cr br more : ℕ) (p : Binding → Bool) (count : Binding → ℕ) → IsKept cs bs cr br
    → next ≡ first_changed p (λ b. record b { count = count b }) bs → more ≡ br → IsKept cs next cr more
kept-changed cs bs next cr br more p count kept is same = record {
  few = rw is (let l = length-changed p (λ (b : Binding). record b { count = count b }) bs in let f = kept.few in omega arith);
  fits = let f = kept.fits in omega arith;
  bindings_rise = rw is (rise-changed binding_below (λ (b : Binding). record b { count = count b }) (λ x y. refl) (λ x y. refl) p bs kept.bindings_rise);
  contexts_fit = kept.contexts_fit;
  contexts_rise = kept.contexts_rise;
  hosts = kept.hosts;
  lists = kept.lists;
  bound_hosts = rw is (all-changed is_of_a_host p (λ (b : Binding). record b { count = count b }) bs kept.bound_hosts (λ b f e. e));
}

kept-removed : (cs : List Context) (bs next : List Binding) (cr br more : ℕ) (p : Binding → Bool) → IsKept cs bs cr br
    → next ≡ first_removed p bs → more ≡ br → IsKept cs next cr more
kept-removed cs bs next cr br more p kept is same = record {
  few = rw is (let l = removed-le p bs in let f = kept.few in omega arith);
  fits = let f = kept.fits in omega arith;
  bindings_rise = rw is (rise-removed binding_below binding_through p bs kept.bindings_rise);
  contexts_fit = kept.contexts_fit;
  contexts_rise = kept.contexts_rise;
  hosts = kept.hosts;
  lists = kept.lists;
  bound_hosts = rw is (all-removed is_of_a_host p bs kept.bound_hosts);
}

without_case : (cs : List Context) (bs next : List Binding) (cr br more : ℕ) (a : Address) (b : Bool) → IsKept cs bs cr br
    → next ≡ cond b (first_removed (λ (x : Binding). is_address x.address a) bs) (first_changed (λ (x : Binding). is_address x.address a) (λ x. record x { count = x.count - 1 }) bs)
    → more ≡ br → IsKept cs next cr more
without_case cs bs next cr br more a true kept is same = kept-removed cs bs next cr br more (λ (x : Binding). is_address x.address a) kept is same
without_case cs bs next cr br more a false kept is same = kept-changed cs bs next cr br more (λ (x : Binding). is_address x.address a) (λ (x : Binding). x.count - 1) kept is same

pub kept-without : (cs : List Context) (bs next : List Binding) (cr br more : ℕ) (a : Address) → IsKept cs bs cr br
    → next ≡ without_binding bs a → more ≡ br → IsKept cs next cr more
unfolding without_binding
kept-without cs bs next cr br more a kept is same = without_case cs bs next cr br more a (count_left bs a == 0) kept is same

pub kept-out : (cs : List Context) (bs next : List Binding) (cr br more host : ℕ) → IsKept cs bs cr br
    → next ≡ without_host bs host → more ≡ br → IsKept cs next cr more
kept-out cs bs next cr br more host kept is same = record {
  few = rw is (let l = filter-le (λ (b : Binding). not (is_of_host host b)) bs in let f = kept.few in omega arith);
  fits = let f = kept.fits in omega arith;
  bindings_rise = rw is (rise-filter binding_below binding_through (λ (b : Binding). not (is_of_host host b)) bs kept.bindings_rise);
  contexts_fit = kept.contexts_fit;
  contexts_rise = kept.contexts_rise;
  hosts = kept.hosts;
  lists = kept.lists;
  bound_hosts = rw is (all-filter is_of_a_host (λ (b : Binding). not (is_of_host host b)) bs kept.bound_hosts);
}

-- without a binding at the address nothing is taken out
removed_none : {A : Type 0} (p : A → Bool) (x : A) (xs : List A) (b : Bool) → cond b (Some x) (find p xs) ≡ None
    → (find p xs ≡ None → first_removed p xs ≡ xs) → cond b xs (x ∷ first_removed p xs) ≡ x ∷ xs
removed_none p x xs true h k = absurd (cc)
removed_none p x xs false h k = ap (λ ys. x ∷ ys) (k h)

removed-none : {A : Type 0} (p : A → Bool) (xs : List A) → find p xs ≡ None → first_removed p xs ≡ xs
removed-none p [] h = refl
removed-none p (x ∷ xs) h = removed_none p x xs (p x) h (removed-none p xs)

pub without_none : (bs : List Binding) (a : Address) → binding_at bs a ≡ None → bs ≡ without_binding bs a
unfolding without_binding
without_none bs a h =
    let z : count_left bs a ≡ 0 = ap (λ r. if_found r (λ (b : Binding). b.count - 1) 0) h in
    sym (first_case (count_left bs a) _ _ z ∙ removed-none (λ (b : Binding). is_address b.address a) bs h)
  where
    first_case : (n : ℕ) (x y : List Binding) → n ≡ 0 → cond (n == 0) x y ≡ x
    first_case n x y e = rw e refl

-- ---- contexts
hosts_differ : (a b : ℕ) → (b == a) ≡ false → (nat_lt a b || nat_lt b a) ≡ true
hosts_differ a b h = grind (arith, nat_tests)

context_head : (x y : Context) (ys : List Context) (b : Bool) → (y.host == x.host) ≡ b
    → cond b (Some y) (find (λ (z : Context). z.host == x.host) ys) ≡ None
    → (find (λ (z : Context). z.host == x.host) ys ≡ None → list_all (λ z. context_below x z || context_below z x) ys ≡ true)
    → ((context_below x y || context_below y x) && list_all (λ z. context_below x z || context_below z x) ys) ≡ true
context_head x y ys true is h k = absurd (cc)
context_head x y ys false is h k =
    and_both (context_below x y || context_below y x) (list_all (λ z. context_below x z || context_below z x) ys) (hosts_differ x.host y.host is) (k h)

contexts_apart : (x : Context) (ys : List Context) → find (λ (z : Context). z.host == x.host) ys ≡ None
    → list_all (λ z. context_below x z || context_below z x) ys ≡ true
contexts_apart x [] h = refl
contexts_apart x (y ∷ ys) h = context_head x y ys (y.host == x.host) refl h (contexts_apart x ys)

host_number : (n : ℕ) → (nat_le 1 n && nat_le n 64) ≡ true → (1 ≤ n) × (n ≤ 64)
host_number n h = grind (arith, nat_tests)

below_is : (m n : ℕ) → nat_lt m n ≡ true → m < n
below_is m n h = grind (arith, nat_tests)

hosts_above : (x : Context) (xs : List Context) → all_rise_from context_below x xs ≡ true → list_all has_host_number xs ≡ true → x.host ≤ 64
    → length xs + x.host ≤ 64
hosts_above x [] r h top = omega arith
hosts_above x (y ∷ ys) r h top =
    let less = below_is x.host y.host (and_left (context_below x y) (all_rise_from context_below y ys) r) in
    let number = host_number y.host (and_left (has_host_number y) (list_all has_host_number ys) h) in
    let rest = hosts_above y ys (and_right (context_below x y) (all_rise_from context_below y ys) r) (and_right (has_host_number y) (list_all has_host_number ys) h) (number.1) in
    omega arith

few_hosts : (xs : List Context) → all_rise context_below xs ≡ true → list_all has_host_number xs ≡ true → length xs ≤ 64
few_hosts [] r h = omega arith
few_hosts (x ∷ xs) r h =
    let number = host_number x.host (and_left (has_host_number x) (list_all has_host_number xs) h) in
    let rest = hosts_above x xs r (and_right (has_host_number x) (list_all has_host_number xs) h) (number.1) in
    let low = number.0 in
    omega arith

not_set : (r : Option Context) → is_some r ≡ false → r ≡ None
not_set None h = refl
not_set (Some x) h = absurd (cc)

new_hosts : (cs : List Context) (bs : List Binding) (cr br : ℕ) (x : Context) → IsKept cs bs cr br → IsHost x.host → was_set cs x.host ≡ false
    → (all_rise context_below (put_before (context_below x) x cs) ≡ true) × (list_all has_host_number (put_before (context_below x) x cs) ≡ true)
new_hosts cs bs cr br x kept host unset = (
  rise-put context_below x cs (contexts_apart x cs (not_set (context_of cs x.host) unset)) kept.contexts_rise,
  all-put has_host_number (context_below x) x cs (number_host x.host host.from_one host.within) kept.hosts,
)

pub context_room : (cs : List Context) (bs : List Binding) (cr br : ℕ) (x : Context) → IsKept cs bs cr br → IsHost x.host → was_set cs x.host ≡ false
    → length cs < cr
context_room cs bs cr br x kept host unset =
    let new = new_hosts cs bs cr br x kept host unset in
    let few = few_hosts (put_before (context_below x) x cs) (new.0) (new.1) in
    let size = length-put_before (context_below x) x cs in
    let room = kept.contexts_fit in
    omega arith

context_case : (cs next : List Context) (bs : List Binding) (cr br more : ℕ) (x : Context) (b : Bool) → was_set cs x.host ≡ b → IsKept cs bs cr br → IsHost x.host → has_endpoints x ≡ true
    → next ≡ cond b (first_changed (λ (c : Context). c.host == x.host) (λ c. record c { endpoints = x.endpoints }) cs) (put_before (context_below x) x cs)
    → cr ≤ more → IsKept next bs more br
context_case cs next bs cr br more x true set kept host listed is larger = record {
  few = kept.few;
  fits = kept.fits;
  bindings_rise = kept.bindings_rise;
  contexts_fit = let f = kept.contexts_fit in omega arith;
  contexts_rise = rw is (rise-changed context_below (λ (c : Context). record c { endpoints = x.endpoints }) (λ y z. refl) (λ y z. refl) (λ (c : Context). c.host == x.host) cs kept.contexts_rise);
  hosts = rw is (all-changed has_host_number (λ (c : Context). c.host == x.host) (λ (c : Context). record c { endpoints = x.endpoints }) cs kept.hosts (λ y f e. e));
  lists = rw is (all-changed has_endpoints (λ (c : Context). c.host == x.host) (λ (c : Context). record c { endpoints = x.endpoints }) cs kept.lists (λ y f e. listed));
  bound_hosts = kept.bound_hosts;
}
context_case cs next bs cr br more x false set kept host listed is larger = record {
  few = kept.few;
  fits = kept.fits;
  bindings_rise = kept.bindings_rise;
  contexts_fit = let f = kept.contexts_fit in omega arith;
  contexts_rise = rw is ((new_hosts cs bs cr br x kept host set).0);
  hosts = rw is ((new_hosts cs bs cr br x kept host set).1);
  lists = rw is (all-put has_endpoints (context_below x) x cs listed kept.lists);
  bound_hosts = kept.bound_hosts;
}

pub kept-context : (cs next : List Context) (bs : List Binding) (cr br more : ℕ) (x : Context) → IsKept cs bs cr br → IsHost x.host → has_endpoints x ≡ true
    → next ≡ with_context cs x.host x.endpoints → cr ≤ more → IsKept next bs more br
kept-context cs next bs cr br more x kept host listed is larger = context_case cs next bs cr br more x (was_set cs x.host) refl kept host listed is larger

-- the rows of contexts after a set
host_same : (m n : ℕ) → (m == n) ≡ true → m ≡ n
host_same m n h = grind (arith, nat_tests)

pub set_found : (cs lent : List Context) (x y : Context) (h at : ℕ) → h ≡ x.host → lent ≡ cs → Some at ≡ position (λ (c : Context). c.host == h) lent → y ≡ get_or cs at y
    → set cs at x ≡ with_context cs x.host x.endpoints
set_found cs lent x y h at hh hl place is =
    let found : position (λ (c : Context). c.host == x.host) cs ≡ Some at = rw (← hh, ← hl) (sym place) in
    let some = found_is (λ (c : Context). c.host == x.host) cs at y found is in
    let same = host_same y.host x.host (found_passes (λ (c : Context). c.host == x.host) cs at y found is) in
    let next : x ≡ record y { endpoints = x.endpoints } = rw same refl in
    changed_step (λ (c : Context). c.host == x.host) (λ (c : Context). record c { endpoints = x.endpoints }) cs at y x found is next
    ∙ ap (λ r. cond (is_some r) (first_changed (λ (c : Context). c.host == x.host) (λ c. record c { endpoints = x.endpoints }) cs) (put_before (λ (c : Context). nat_lt x.host c.host) (record { host = x.host; endpoints = x.endpoints }) cs)) (sym some)

unset_none : (cs lent : List Context) (x : Context) (h : ℕ) → h ≡ x.host → lent ≡ cs → None ≡ position (λ (c : Context). c.host == h) lent → context_of cs x.host ≡ None
unset_none cs lent x h hh hl place = not_found (λ (c : Context). c.host == x.host) cs (rw (← hh, ← hl) (sym place))

pub set_new : (cs lent : List Context) (x : Context) (h : ℕ) → h ≡ x.host → lent ≡ cs → None ≡ position (λ (c : Context). c.host == h) lent
    → put_before (context_below x) x cs ≡ with_context cs x.host x.endpoints
set_new cs lent x h hh hl place =
    ap (λ r. cond (is_some r) (first_changed (λ (c : Context). c.host == x.host) (λ c. record c { endpoints = x.endpoints }) cs) (put_before (λ (c : Context). nat_lt x.host c.host) (record { host = x.host; endpoints = x.endpoints }) cs))
    (sym (unset_none cs lent x h hh hl place))

pub unset : (cs lent : List Context) (x : Context) (h : ℕ) → h ≡ x.host → lent ≡ cs → None ≡ position (λ (c : Context). c.host == h) lent → was_set cs x.host ≡ false
unset cs lent x h hh hl place = ap (λ r. is_some r) (unset_none cs lent x h hh hl place)

pub has_is : (cs : List Context) (host : ℕ) (r : Option ℕ) → r ≡ position (λ (c : Context). c.host == host) cs → is_some r ≡ was_set cs host
has_is cs host None e = sym (ap (λ r. is_some r) (not_found (λ (c : Context). c.host == host) cs (sym e)))
has_is cs host (Some i) e = sym (is_some_at (λ (c : Context). c.host == host) cs (Some i) e refl)

-- ---- binds
fault_empty : (e : Bool) (o : Option BindFault) → cond e (Some NoEndpoint) o ≡ None → e ≡ false
fault_empty true o h = absurd (cc)
fault_empty false o h = refl

count_differs : (n : ℕ) → cond (n == 65535) (Some TooManyCount) None ≡ None → n ≢ 65535
count_differs n h = grind (arith, nat_tests)

few_go : (e : Bool) (o : Option Binding) (r : Option BindFault)
    → cond e (Some NoEndpoint) (if_found o (λ (b : Binding). cond (b.count == 65535) (Some TooManyCount) None) r) ≡ None → IfSome o (λ b. b.count ≢ 65535)
few_go true o r h = absurd (cc)
few_go false None r h = tt
few_go false (Some x) r h = count_differs x.count h

pub few_bound : (t : BindState) (host volume : ℕ) → bind_fault t host volume ≡ None → IfSome (binding_of t.bindings host volume) (λ b. b.count ≢ 65535)
few_bound t host volume h = few_go (length (endpoints_of t.contexts host) == 0) (binding_of t.bindings host volume) (cond (length t.bindings == 1024) (Some TooManyBindings) None) h

room_differs : (n : ℕ) → n ≤ 1024 → cond (n == 1024) (Some TooManyBindings) None ≡ None → n < 1024
room_differs n l h = grind (arith, nat_tests)

room_go : (e : Bool) (o : Option Binding) (n : ℕ) → n ≤ 1024 → o ≡ None
    → cond e (Some NoEndpoint) (if_found o (λ (b : Binding). cond (b.count == 65535) (Some TooManyCount) None) (cond (n == 1024) (Some TooManyBindings) None)) ≡ None → n < 1024
room_go true o n l is h = absurd (cc)
room_go false None n l is h = room_differs n l h
room_go false (Some x) n l is h = absurd (cc)

pub room_new : (t : BindState) (host volume : ℕ) → length t.bindings ≤ 1024 → binding_of t.bindings host volume ≡ None → bind_fault t host volume ≡ None → length t.bindings < 1024
room_new t host volume l n h = room_go (length (endpoints_of t.contexts host) == 0) (binding_of t.bindings host volume) (length t.bindings) l n h

some_length : (n : ℕ) → (n == 0) ≡ false → 0 < n
some_length n h = grind (arith, nat_tests)

pub some_endpoint : (t : BindState) (host volume : ℕ) → bind_fault t host volume ≡ None → 0 < length (endpoints_of t.contexts host)
some_endpoint t host volume h =
    some_length (length (endpoints_of t.contexts host)) (fault_empty (length (endpoints_of t.contexts host) == 0) _ h)

pub fault_none : (t : BindState) (host volume : ℕ) → length (endpoints_of t.contexts host) ≡ 0 → bind_fault t host volume ≡ Some NoEndpoint
fault_none t host volume h = ap (λ n. cond (n == 0) (Some NoEndpoint) (if_found (binding_of t.bindings host volume) (λ (b : Binding). cond (b.count == 65535) (Some TooManyCount) None) (cond (length t.bindings == 1024) (Some TooManyBindings) None))) h

bool_case : (b : Bool) (x y r : Option BindFault) → b ≡ false → y ≡ r → cond b x y ≡ r
bool_case b x y r h e = rw h e

pub fault_bound : (t : BindState) (host volume : ℕ) (x : Binding) (r : Option BindFault) → (length (endpoints_of t.contexts host) == 0) ≡ false
    → binding_of t.bindings host volume ≡ Some x → cond (x.count == 65535) (Some TooManyCount) None ≡ r → bind_fault t host volume ≡ r
fault_bound t host volume x r some found is =
    bool_case (length (endpoints_of t.contexts host) == 0) _ _ r some
    (ap (λ o. if_found o (λ (b : Binding). cond (b.count == 65535) (Some TooManyCount) None) (cond (length t.bindings == 1024) (Some TooManyBindings) None)) found ∙ is)

pub fault_new : (t : BindState) (host volume : ℕ) (r : Option BindFault) → (length (endpoints_of t.contexts host) == 0) ≡ false
    → binding_of t.bindings host volume ≡ None → cond (length t.bindings == 1024) (Some TooManyBindings) None ≡ r → bind_fault t host volume ≡ r
fault_new t host volume r some none is =
    bool_case (length (endpoints_of t.contexts host) == 0) _ _ r some
    (ap (λ o. if_found o (λ (b : Binding). cond (b.count == 65535) (Some TooManyCount) None) (cond (length t.bindings == 1024) (Some TooManyBindings) None)) none ∙ is)

pub address_found : (o : Option Binding) (a n : Address) → is_some o ≡ true → IfSome o (λ b. b.address ≡ a) → a ≡ if_found o (λ (b : Binding). b.address) n
address_found None a n h e = absurd (cc)
address_found (Some x) a n h e = sym e

pub with_found : (cs : List Context) (bs : List Binding) (host volume : ℕ) → is_some (binding_of bs host volume) ≡ true
    → first_changed (is_binding_of host volume) (λ (b : Binding). record b { count = b.count + 1 }) bs ≡ with_binding cs bs host volume
unfolding with_binding
with_found cs bs host volume h = rw h refl

pub with_new : (cs : List Context) (bs : List Binding) (host volume : ℕ) (a : Address) → is_some (binding_of bs host volume) ≡ false → a ≡ new_address cs bs host
    → with_one_more bs (record { address = a; volume = volume; count = 1 }) ≡ with_binding cs bs host volume
unfolding with_binding
with_new cs bs host volume a h e = rw (e, h) refl

pub first_of : (es : List EndpointId) → (get_or es 0 (record { 0 = 0 })).0 ≡ slice_index (numbers es) 0
first_of [] = refl
first_of (e ∷ es) = refl

pub new_is : (cs lc : List Context) (bs lb : List Binding) (host e s : ℕ) → lc ≡ cs → lb ≡ bs → e ≡ slice_index (endpoints_of lc host) 0
    → s ≡ free_secondary lb host e → address host e s ≡ new_address cs bs host
new_is cs lc bs lb host e s hc hb n f =
    let first : e ≡ slice_index (endpoints_of cs host) 0 = n ∙ ap (λ xs. slice_index (endpoints_of xs host) 0) hc in
    let least : s ≡ free_secondary bs host (slice_index (endpoints_of cs host) 0) =
    f ∙ ap (λ xs. free_secondary xs host e) hb ∙ ap (λ k. free_secondary bs host k) first
    in
    ap (λ k. address host k s) first ∙ ap (λ k. address host (slice_index (endpoints_of cs host) 0) k) least

-- ---- whole tables
abbrev pub state : List Context → List Binding → BindState
state cs bs = record { contexts = cs; bindings = bs }

pub table_is : (cs : List Context) (bs next : List Binding) (now : BindState) (f : BindState → List Binding) → state cs bs ≡ now → next ≡ f (state cs bs)
    → state cs next ≡ state now.contexts (f now)
table_is cs bs next now f view is =
    ap (λ xs. state cs xs) is ∙ ap (λ (t : BindState). state t.contexts (f t)) view

pub same_table : (t : BindState) (next : List Binding) → t.bindings ≡ next → t ≡ state t.contexts next
same_table t next e = ap (λ xs. state t.contexts xs) e

-- ---- what a bind is refused for
pub length_numbers : (es : List EndpointId) → length (numbers es) ≡ length es
length_numbers [] = refl
length_numbers (e ∷ es) = ap (λ n. suc n) (length_numbers es)

pub some_listed : (cs lent : List Context) (es : List EndpointId) (host : ℕ) (b : Bool) → lent ≡ cs → numbers es ≡ endpoints_of lent host → b ≡ (length es == 0) → b ≡ false
    → (length (endpoints_of cs host) == 0) ≡ false
some_listed cs lent es host b hl n is some =
    let e : length (endpoints_of cs host) ≡ length es = ap (λ xs. length (endpoints_of xs host)) (sym hl) ∙ ap (λ xs. length xs) (sym n) ∙ length_numbers es in
    ap (λ k. k == 0) e ∙ sym is ∙ some

pub count_full : (n m : ℕ) → m ≡ n → m ≡ 65535 → cond (n == 65535) (Some TooManyCount) None ≡ Some TooManyCount
count_full n m e h = let f : n ≡ 65535 = sym e ∙ h in rw f refl

pub count_free : (n m : ℕ) → m ≡ n → m ≢ 65535 → cond (n == 65535) (Some TooManyCount) None ≡ None
count_free n m e h = grind (arith, nat_tests)

pub table_full : (n m : ℕ) (b : Bool) → n ≡ m → b ≡ (m == 1024) → b ≡ true → cond (n == 1024) (Some TooManyBindings) None ≡ Some TooManyBindings
table_full n m b f is h = ap (λ (t : Bool). cond t (Some TooManyBindings) None) (ap (λ (i : ℕ). i == 1024) f ∙ sym is ∙ h)

pub table_free : (n m : ℕ) (b : Bool) → n ≡ m → b ≡ (m == 1024) → b ≡ false → cond (n == 1024) (Some TooManyBindings) None ≡ None
table_free n m b f is h = ap (λ (t : Bool). cond t (Some TooManyBindings) None) (ap (λ (i : ℕ). i == 1024) f ∙ sym is ∙ h)

rise_from_is : (b : Binding) (bs : List Binding) → all_rise_from binding_below b bs ≡ all_below b.address bs
rise_from_is b [] = refl
rise_from_is b (c ∷ bs) = ap (λ (t : Bool). is_below b.address c.address && t) (rise_from_is c bs)

pub rise_is : (bs : List Binding) → all_rise binding_below bs ≡ bindings_rise bs
rise_is [] = refl
rise_is (b ∷ bs) = rise_from_is b bs

-- ---- what the table tells of its contexts and bindings

listed_few : (n : ℕ) (b c : Bool) → (nat_le n 8 && b && c) ≡ true → (n ≤ 8) × (b ≡ true) × (c ≡ true)
listed_few n b c h =
    let two = and_left (nat_le n 8 && b) c h in
    (few_is n (and_left (nat_le n 8) b two), and_right (nat_le n 8) b two, and_right (nat_le n 8 && b) c h)
  where
    few_is : (n : ℕ) → nat_le n 8 ≡ true → n ≤ 8
    few_is n h = grind (arith, nat_tests)

-- what holds of each list that was set, and of the first endpoint alone, holds of a host's endpoints
endpoints_have : (cs : List Context) (host : ℕ) (r : Option Context) → context_of cs host ≡ r → list_all has_endpoints cs ≡ true → are_endpoints (if_found r (λ (c : Context). c.endpoints) (1 ∷ [])) ≡ true
endpoints_have cs host None is all = refl
endpoints_have cs host (Some c) is all = all-found has_endpoints (λ (d : Context). d.host == host) c cs all is

-- a host has at most 8 endpoints, all different, and none is 0
pub endpoints_told : (cs : List Context) (host : ℕ) → list_all has_endpoints cs ≡ true → are_endpoints (endpoints_of cs host) ≡ true
endpoints_told cs host all = endpoints_have cs host (context_of cs host) refl all

pub listed_parts : (endpoints : List ℕ) → are_endpoints endpoints ≡ true → (length endpoints ≤ 8) × (all_different endpoints ≡ true) × (list_all (λ e. nat_lt 0 e) endpoints ≡ true)
listed_parts endpoints h = listed_few (length endpoints) (all_different endpoints) (list_all (λ e. nat_lt 0 e) endpoints) h

pub listed_from : (endpoints : List ℕ) → length endpoints ≤ 8 → all_different endpoints ≡ true → list_all (λ e. nat_lt 0 e) endpoints ≡ true → are_endpoints endpoints ≡ true
listed_from endpoints few different not_zero =
    and_both (nat_le (length endpoints) 8 && all_different endpoints) (list_all (λ e. nat_lt 0 e) endpoints)
    (and_both (nat_le (length endpoints) 8) (all_different endpoints) (few_test (length endpoints) few) different) not_zero
  where
    few_test : (n : ℕ) → n ≤ 8 → nat_le n 8 ≡ true
    few_test n h = grind (arith, nat_tests)
