-- The rows of a table of bindings: which secondary identifiers are bound, and edits at an address.
use Rattle.std.proofs.Common.{◌≡◌, ◌≢◌, ℕ, zero, suc, ◌+◌, ◌<◌, ◌≤◌, ◌&&◌, ◌||◌, refl, ap, sym, ◌∙◌, Bool, true, false, cond, List, [], ◌∷◌, length, set, get_or, arith}
use Rattle.std.proofs.Common.{◌-◌, ◌⊎◌, ⊎_elim, inl, inr}
use Rattle.std.proofs.lemmas.Bool.{true≢false, cases_lt}
use Rattle.std.specs.Prelude.{is_some, is_none, Option, Some, None, unwrap_or, nat_lt, ◌==◌}
use Rattle.std.specs.List.{find, list_any, position, position_or_len, insert, remove}
use Rattle.std.proofs.lemmas.Bool.Decides.{nat_tests}
use Rattle.vv_flat.specs.Lists.{if_found, numbers_from, put_before, first_removed}
use Rattle.vv_flat.specs.State.{Context, Address, Binding}
use Rattle.vv_flat.specs.Bindings.{is_of_host, without_host, host_bindings, is_address, is_below, is_binding_of, binding_at, endpoints_of, free_secondary, count_left, without_binding}
use Rattle.vv_flat.proofs.Positions.{put_at_first, found_is, not_found, changed_step, removed_step, filter-removed, count-removed, length-removed, filter-none, count-none, is_some_at, none_at}
use Rattle.vv_units.specs.declared.numbers.EndpointId.{EndpointId}
use Rattle.vv_bind.specs.Table.{numbers, address, with_one_more, context_below, binding_below}

lt_or_eq : (k n : ℕ) → k < n + 1 → (k < n) ⊎ (k ≡ n)
lt_or_eq k n h = ⊎_elim (λ l. inl l) (λ g. inr (omega arith)) (cases_lt k n)

-- an item is still found where one that fails the test is taken out
module _ {A : Type 0} (p q : A → Bool) (apart : (x : A) → p x ≡ true → q x ≡ true → ⊥) where
  still_found : (x : A) (xs : List A) (b c : Bool) → p x ≡ b → q x ≡ c → is_some (cond c (Some x) (find q xs)) ≡ true
      → (is_some (find q xs) ≡ true → is_some (find q (first_removed p xs)) ≡ true)
      → is_some (find q (cond b xs (x ∷ first_removed p xs))) ≡ true
  still_found x xs true true e f h k = absurd (apart x e f)
  still_found x xs true false e f h k = h
  still_found x xs false true e f h k = rw f refl
  still_found x xs false false e f h k = rw f (k h)

  pub found-removed : (xs : List A) → is_some (find q xs) ≡ true → is_some (find q (first_removed p xs)) ≡ true
  found-removed [] h = h
  found-removed (x ∷ xs) h = still_found x xs (p x) (q x) refl refl h (found-removed xs)

-- ---- secondary identifiers
abbrev is_at : ℕ → ℕ → ℕ → Binding → Bool
is_at h e s b = is_address b.address (address h e s)

numbers_apart : (a b c d e f g : ℕ) → f < g → ((a == d) && (b == e) && (c == f)) ≡ true → ((a == d) && (b == e) && (c == g)) ≡ true → ⊥
numbers_apart a b c d e f g l p q = grind (arith, nat_tests)

-- so many secondary identifiers in a row are bound by no fewer bindings
pub pigeons : (h e n a : ℕ) (bs : List Binding) → ((k : ℕ) → a ≤ k → k < a + n → is_some (find (is_at h e k) bs) ≡ true) → n ≤ length bs
pigeons h e zero a bs each = omega arith
pigeons h e (suc n) a bs each =
    let first = each a (omega arith) (omega arith) in
    let shorter = length-removed (is_at h e a) bs first in
    let rest : n ≤ length (first_removed (is_at h e a) bs) =
    pigeons h e n (a + 1) (first_removed (is_at h e a) bs)
    (λ k low high. found-removed (is_at h e a) (is_at h e k)
    (λ b p q. numbers_apart b.address.host b.address.endpoint b.address.secondary h e a k (omega arith) p q) bs
    (each k (omega arith) (omega arith)))
    in
    omega arith

-- each secondary identifier from 1 on and below `below` is bound
pub record AllBound (bindings : List Binding) (host endpoint below : ℕ) : Type 0 where
  pub from_one : 1 ≤ below
  pub each : (k : ℕ) → 1 ≤ k → k < below → is_some (binding_at bindings (address host endpoint k)) ≡ true

pub bound_none : (bs : List Binding) (h e : ℕ) → AllBound bs h e 1
bound_none bs h e = record { from_one = omega arith; each = λ k low high. absurd (omega arith) }

pub bound_within : (bs : List Binding) (h e n : ℕ) → AllBound bs h e n → n ≤ length bs + 1
bound_within bs h e n all =
    let few : n - 1 ≤ length bs = pigeons h e (n - 1) 1 bs (λ k low high. all.each k low (omega arith)) in
    omega arith

pub bound_more : (bs : List Binding) (h e n : ℕ) (r : Option ℕ) → AllBound bs h e n → r ≡ position (is_at h e n) bs → is_some r ≡ true → AllBound bs h e (n + 1)
bound_more bs h e n r all place some =
    let here = is_some_at (is_at h e n) bs r place some in
    record { from_one = omega arith; each = λ k low high. at_most k low high (all.each k low) here }
  where
    at_most : (k : ℕ) → 1 ≤ k → k < n + 1 → (k < n → is_some (find (is_at h e k) bs) ≡ true) → is_some (find (is_at h e n) bs) ≡ true → is_some (find (is_at h e k) bs) ≡ true
    at_most k low high below here = ⊎_elim below (λ same. rw same here) (lt_or_eq k n high)

pub bound_free : (bs : List Binding) (h e n : ℕ) (r : Option ℕ) → r ≡ position (is_at h e n) bs → is_some r ≡ false → binding_at bs (address h e n) ≡ None
bound_free bs h e n r place none = none_at (is_at h e n) bs r place none

-- the first number that passes a test
first_head : (test : ℕ → Bool) (a n s : ℕ) (b : Bool) → test a ≡ b → a ≤ s → (a < s → test a ≡ false) → test s ≡ true
    → (a < s → find test (numbers_from (a + 1) n) ≡ Some s) → cond b (Some a) (find test (numbers_from (a + 1) n)) ≡ Some s
first_head test a n s true is l below here rest =
    ⊎_elim (λ lt. absurd (true≢false (sym is ∙ below lt))) (λ same. ap (λ k. Some k) same) (lt_or_eq a s (omega arith))
first_head test a n s false is l below here rest =
    ⊎_elim rest (λ same. absurd (true≢false (sym here ∙ ap test (sym same) ∙ is))) (lt_or_eq a s (omega arith))

pub first_number : (test : ℕ → Bool) (a n s : ℕ) → a ≤ s → s < a + n → ((k : ℕ) → a ≤ k → k < s → test k ≡ false) → test s ≡ true
    → find test (numbers_from a n) ≡ Some s
first_number test a zero s low high below here = absurd (omega arith)
first_number test a (suc n) s low high below here =
    first_head test a n s (test a) refl low (λ l. below a (omega arith) l) here
    (λ l. first_number test (a + 1) n s (omega arith) (omega arith) (λ k m o. below k (omega arith) o) here)

none_from_some : {A : Type 0} (r : Option A) → is_some r ≡ true → is_none r ≡ false
none_from_some None h = absurd (cc)
none_from_some (Some x) h = refl

pub least_is : (bs : List Binding) (h e n : ℕ) → AllBound bs h e n → binding_at bs (address h e n) ≡ None → n ≡ free_secondary bs h e
least_is bs h e n all free =
    let few = bound_within bs h e n all in
    let first : find (λ s. is_none (binding_at bs (address h e s))) (numbers_from 1 (length bs + 1)) ≡ Some n =
    first_number (λ s. is_none (binding_at bs (address h e s))) 1 (length bs + 1) n all.from_one (omega arith)
    (λ k low high. none_from_some (binding_at bs (address h e k)) (all.each k low high)) (rw free refl)
    in
    sym (ap (λ r. unwrap_or r 0) first)

-- ---- the rows
pub endpoints_some : (contexts : List Context) (host at : ℕ) (context : Context) → position (λ (c : Context). c.host == host) contexts ≡ Some at
    → context ≡ get_or contexts at context → context.endpoints ≡ endpoints_of contexts host
endpoints_some contexts host at context place is =
    sym (ap (λ r. if_found r (λ (c : Context). c.endpoints) (1 ∷ [])) (found_is (λ (c : Context). c.host == host) contexts at context place is))

pub endpoints_none : (contexts : List Context) (host : ℕ) → position (λ (c : Context). c.host == host) contexts ≡ None → 1 ∷ [] ≡ endpoints_of contexts host
endpoints_none contexts host place =
    sym (ap (λ r. if_found r (λ (c : Context). c.endpoints) (1 ∷ [])) (not_found (λ (c : Context). c.host == host) contexts place))

pub address_is : (a : Address) (h e s : ℕ) → a.host ≡ h → e ≡ a.endpoint → s ≡ a.secondary → a ≡ address h e s
address_is a h e s p q r = rw (← p, q, r) refl

pub host_is : (host volume : ℕ) (b : Binding) → is_binding_of host volume b ≡ true → b.address.host ≡ host
host_is host volume b h = grind (arith, nat_tests)

zero_case : {A : Type 0} (n : ℕ) (x y : A) → n ≡ 0 → cond (n == 0) x y ≡ x
zero_case n x y h = rw h refl

more_case : {A : Type 0} (n : ℕ) (x y : A) → 0 < n → cond (n == 0) x y ≡ y
more_case n x y h = grind (arith, nat_tests)

left_is : (bs : List Binding) (a : Address) (i : ℕ) (x : Binding) → position (λ (b : Binding). is_address b.address a) bs ≡ Some i → x ≡ get_or bs i x
    → count_left bs a ≡ x.count - 1
left_is bs a i x place is = ap (λ r. if_found r (λ (b : Binding). b.count - 1) 0) (found_is (λ (b : Binding). is_address b.address a) bs i x place is)

-- an unbind leaves nothing of a count of 1 alone
pub last_count : (n : ℕ) (b : Bool) → b ≡ (n == 1) → b ≡ true → n - 1 ≡ 0
last_count n b is h = let one : (n == 1) ≡ true = sym is ∙ h in grind (arith, nat_tests)

pub not_last : (n : ℕ) (b : Bool) → b ≡ (n == 1) → b ≡ false → n ≢ 1
not_last n b is h = let one : (n == 1) ≡ false = sym is ∙ h in grind (arith, nat_tests)

pub without_last : (bs : List Binding) (a : Address) (i : ℕ) (x : Binding) → position (λ (b : Binding). is_address b.address a) bs ≡ Some i
    → x ≡ get_or bs i x → x.count - 1 ≡ 0 → remove bs i ≡ without_binding bs a
unfolding without_binding
without_last bs a i x place is none =
    removed_step (λ (b : Binding). is_address b.address a) bs i place ∙ sym (zero_case (count_left bs a) _ _ (left_is bs a i x place is ∙ none))

pub without_one : (bs : List Binding) (a : Address) (i : ℕ) (x y : Binding) → position (λ (b : Binding). is_address b.address a) bs ≡ Some i
    → x ≡ get_or bs i x → 0 < x.count - 1 → y ≡ record x { count = x.count - 1 } → set bs i y ≡ without_binding bs a
unfolding without_binding
without_one bs a i x y place is more next =
    let l = left_is bs a i x place is in
    let m : 0 < count_left bs a = omega arith in
    changed_step (λ (b : Binding). is_address b.address a) (λ (b : Binding). record b { count = b.count - 1 }) bs i x y place is next
    ∙ sym (more_case (count_left bs a) _ _ m)

-- a number among the numbers of endpoints
pub any_number : (n : ℕ) (es : List EndpointId) → list_any (λ (e : EndpointId). e.0 == n) es ≡ list_any (λ e. e == n) (numbers es)
any_number n [] = refl
any_number n (e ∷ es) = ap (λ b. (e.0 == n) || b) (any_number n es)

-- ---- the orders
pub context_through : (x y z : Context) → context_below x y ≡ true → context_below y z ≡ true → context_below x z ≡ true
context_through x y z e f = grind (arith, nat_tests)

address_through : (a b c d e f g h i : ℕ)
    → (nat_lt a d || ((a == d) && (nat_lt b e || ((b == e) && nat_lt c f)))) ≡ true
    → (nat_lt d g || ((d == g) && (nat_lt e h || ((e == h) && nat_lt f i)))) ≡ true
    → (nat_lt a g || ((a == g) && (nat_lt b h || ((b == h) && nat_lt c i)))) ≡ true
address_through a b c d e f g h i p q = grind (arith, nat_tests)

pub binding_through : (x y z : Binding) → binding_below x y ≡ true → binding_below y z ≡ true → binding_below x z ≡ true
binding_through x y z p q =
    let a = x.address in let b = y.address in let c = z.address in
    address_through a.host a.endpoint a.secondary b.host b.endpoint b.secondary c.host c.endpoint c.secondary p q

pub address_total : (a b c d e f : ℕ)
    → ((d == a) && (e == b) && (f == c)) ≡ false
    → ((nat_lt a d || ((a == d) && (nat_lt b e || ((b == e) && nat_lt c f)))) || (nat_lt d a || ((d == a) && (nat_lt e b || ((e == b) && nat_lt f c))))) ≡ true
address_total a b c d e f p = grind (arith, nat_tests)

-- an insertion at the place in the order
pub put_step : (bindings lent : List Binding) (binding : Binding) (h e s at : ℕ) → h ≡ binding.address.host → e ≡ binding.address.endpoint
    → s ≡ binding.address.secondary → lent ≡ bindings → at ≡ position_or_len (λ (b : Binding). is_below (address h e s) b.address) lent
    → insert bindings at binding ≡ with_one_more bindings binding
put_step bindings lent binding h e s at hh he hs hl place =
    let found = rw (hh, he, hs, hl) at place in
    rw found (sym (put_at_first (λ (b : Binding). is_below binding.address b.address) binding bindings))

pub put_context_step : (contexts lent : List Context) (context : Context) (h at : ℕ) → h ≡ context.host
    → lent ≡ contexts → at ≡ position_or_len (λ (c : Context). nat_lt h c.host) lent
    → insert contexts at context ≡ put_before (context_below context) context contexts
put_context_step contexts lent context h at hh hl place =
    let found = rw (hh, hl) at place in
    rw found (sym (put_at_first (context_below context) context contexts))

pub place_in : {A : Type 0} (p : A → Bool) (xs lent : List A) (r : Option ℕ) → lent ≡ xs → r ≡ position p lent → position p xs ≡ r
place_in p xs lent r e h = ap (λ ys. position p ys) (sym e) ∙ sym h

pub out_rest : (bs lent : List Binding) (host i : ℕ) → lent ≡ bs → Some i ≡ position (is_of_host host) lent
    → without_host (remove bs i) host ≡ without_host bs host
out_rest bs lent host i e h =
    ap (λ xs. without_host xs host) (removed_step (is_of_host host) bs i (place_in (is_of_host host) bs lent (Some i) e h)) ∙ filter-removed (is_of_host host) bs

pub out_count : (bs lent : List Binding) (host i : ℕ) → lent ≡ bs → Some i ≡ position (is_of_host host) lent
    → host_bindings (remove bs i) host + 1 ≡ host_bindings bs host
out_count bs lent host i e h =
    let place = place_in (is_of_host host) bs lent (Some i) e h in
    ap (λ xs. host_bindings xs host + 1) (removed_step (is_of_host host) bs i place)
    ∙ count-removed (is_of_host host) bs (is_some_at (is_of_host host) bs (Some i) (sym place) refl)

pub none_is : (r : Option ℕ) → is_some r ≡ false → r ≡ None
none_is None h = refl
none_is (Some x) h = absurd (cc)

pub out_none : (bs lent : List Binding) (host : ℕ) (r : Option ℕ) → lent ≡ bs → r ≡ position (is_of_host host) lent → r ≡ None
    → (without_host bs host ≡ bs) × (host_bindings bs host ≡ 0)
out_none bs lent host r e h n =
    let none = not_found (is_of_host host) bs (place_in (is_of_host host) bs lent r e h ∙ n) in
    (filter-none (is_of_host host) bs none, count-none (is_of_host host) bs none)
