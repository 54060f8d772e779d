-- Attentions that wait at bound addresses alone are no more than the bindings, so there is memory for one more.
use Rattle.std.proofs.Common.{ℕ, ◌≡◌, ◌+◌, ◌<◌, ◌≤◌, ◌==◌, ◌&&◌, ◌||◌, Bool, true, false, cond, not, IsTrue, List, [], ◌∷◌, map, filter, drop, zero, suc, slice_get, length, Option, Some, None, refl, sym, ap, subst, ◌∙◌, arith}
use Rattle.std.specs.Prelude.{is_some, nat_lt}
use Rattle.std.specs.List.{list_all, list_any, find, IsDistinct, AllByRecursion}
use Rattle.std.specs.Cmp.{IsEquivalence}
use Rattle.std.proofs.lemmas.Bool.{eqb-true}
use Rattle.std.proofs.lemmas.List.{length-map}
use Rattle.std.proofs.lemmas.Bool.Decides.{nat_tests}
use Rattle.std.proofs.lemmas.Map.Made.{length-le_from_is_member}
use Rattle.vv_flat.specs.Lists.{all_rise, all_rise_from, put_before}
use Rattle.vv_flat.specs.State.{Address, Binding}
use Rattle.vv_flat.specs.Bindings.{is_address, is_below, binding_at}
use Rattle.vv_flat.specs.Volatile.{has_attention, with_attention, with_attentions}
use Rattle.vv_flat.proofs.Known.{all-put}
use Rattle.vv_flat.proofs.KeepLists.{rise-put}
use Rattle.vv_flat.proofs.Positions.{length-put_before}
use Rattle.vv_flat.proofs.Shares.{and_left, and_right, and_both}
use Rattle.vv_laws.specs.VolatileForm.{are_attentions}
use Rattle.vv_lun.specs.Attentions.{may_wait}
use Rattle.vv_lun.proofs.Addresses.{all_apart, below_through}

-- ---- addresses are equal where the test says so
same_address : (x y : Address) → is_address x y ≡ true → x ≡ y
same_address x y is =
    let h : x.host ≡ y.host = eqb-true x.host y.host (and_left (x.host == y.host) (x.endpoint == y.endpoint) (and_left ((x.host == y.host) && (x.endpoint == y.endpoint)) (x.secondary == y.secondary) is)) in
    let e : x.endpoint ≡ y.endpoint = eqb-true x.endpoint y.endpoint (and_right (x.host == y.host) (x.endpoint == y.endpoint) (and_left ((x.host == y.host) && (x.endpoint == y.endpoint)) (x.secondary == y.secondary) is)) in
    let s : x.secondary ≡ y.secondary = eqb-true x.secondary y.secondary (and_right ((x.host == y.host) && (x.endpoint == y.endpoint)) (x.secondary == y.secondary) is) in
    ap (λ n. let a : Address = record { host = n; endpoint = x.endpoint; secondary = x.secondary } in a) h
    ∙ ap (λ n. let a : Address = record { host = y.host; endpoint = n; secondary = x.secondary } in a) e
    ∙ ap (λ n. let a : Address = record { host = y.host; endpoint = y.endpoint; secondary = n } in a) s

equal : IsEquivalence is_address
equal = record {
  refl = λ x. grind (arith, nat_tests);
  symm = λ x y. grind (arith, nat_tests);
  congr = λ x y z same. ap (λ a. is_address a z) (same_address x y same);
}

-- ---- rising addresses are different
below_others : (x y : Address) (ys : List Address) → is_below x y ≡ true → all_rise_from is_below y ys ≡ true → AllByRecursion (λ z. is_address x z ≡ false) ys
below_others x y [] low rise = tt
below_others x y (z ∷ zs) low rise =
    let next : is_below x z ≡ true = below_through x y z low (and_left (is_below y z) (all_rise_from is_below z zs) rise) in
    (grind (arith, nat_tests), below_others x z zs next (and_right (is_below y z) (all_rise_from is_below z zs) rise))

different_from : (x : Address) (xs : List Address) → all_rise_from is_below x xs ≡ true → IsDistinct is_address (x ∷ xs)
unfolding IsDistinct
different_from x [] rise = (tt, tt)
different_from x (y ∷ ys) rise =
    let low : is_below x y ≡ true = and_left (is_below x y) (all_rise_from is_below y ys) rise in
    let rest : all_rise_from is_below y ys ≡ true = and_right (is_below x y) (all_rise_from is_below y ys) rise in
    ((grind (arith, nat_tests), below_others x y ys low rest), different_from y ys rest)

different : (xs : List Address) → all_rise is_below xs ≡ true → IsDistinct is_address xs
unfolding IsDistinct
different [] rise = tt
different (x ∷ xs) rise = different_from x xs rise

-- ---- no more attentions than bindings
abbrev pub is_bound_at : List Binding → Address → Bool
is_bound_at bs a = is_some (binding_at bs a)

bound_member : (bs : List Binding) (a : Address) → is_bound_at bs a ≡ true → list_any (is_address a) (map (λ (b : Binding). b.address) bs) ≡ true
bound_member [] a some = absurd (cc)
bound_member (b ∷ bs) a some = go (is_address b.address a) refl some (λ s. bound_member bs a s)
  where
    go : (c : Bool) → is_address b.address a ≡ c → is_some (cond c (Some b) (binding_at bs a)) ≡ true
        → (is_bound_at bs a ≡ true → list_any (is_address a) (map (λ (x : Binding). x.address) bs) ≡ true)
        → (is_address a b.address || list_any (is_address a) (map (λ (x : Binding). x.address) bs)) ≡ true
    go true is s later = ap (λ c. c || list_any (is_address a) (map (λ (x : Binding). x.address) bs)) (equal.symm a b.address ∙ is)
    go false is s later =
        ap (λ c. c || list_any (is_address a) (map (λ (x : Binding). x.address) bs)) (equal.symm a b.address ∙ is) ∙ later s

one_of_all : (bs : List Binding) (xs : List Address) (q : Address) → list_all (is_bound_at bs) xs ≡ true → list_any (is_address q) xs ≡ true → is_bound_at bs q ≡ true
one_of_all bs [] q all any = absurd (cc)
one_of_all bs (x ∷ xs) q all any = go (is_address q x) refl any (λ s. one_of_all bs xs q (and_right (is_bound_at bs x) (list_all (is_bound_at bs) xs) all) s)
  where
    go : (c : Bool) → is_address q x ≡ c → (c || list_any (is_address q) xs) ≡ true → (list_any (is_address q) xs ≡ true → is_bound_at bs q ≡ true) → is_bound_at bs q ≡ true
    go true is s later = ap (is_bound_at bs) (same_address q x is) ∙ and_left (is_bound_at bs x) (list_all (is_bound_at bs) xs) all
    go false is s later = later s

few_bound : (bs : List Binding) (xs : List Address) → all_rise is_below xs ≡ true → list_all (is_bound_at bs) xs ≡ true → length xs ≤ length bs
few_bound bs xs rise all =
    let few : length xs ≤ length (map (λ (b : Binding). b.address) bs) =
    length-le_from_is_member equal xs (map (λ (b : Binding). b.address) bs) (different xs rise) (λ q s. bound_member bs q (one_of_all bs xs q all s)) in
    let same : length (map (λ (b : Binding). b.address) bs) ≡ length bs = length-map bs (λ (b : Binding). b.address) in
    omega (arith, few, same)

-- what holds of attentions ahead of each that is set
pub record AreWaiting (bs : List Binding) (xs : List Address) : Type 0 where
  pub rise : all_rise is_below xs ≡ true
  pub bound : list_all (is_bound_at bs) xs ≡ true

pub waiting_more : (bs : List Binding) (xs : List Address) (a : Address) → AreWaiting bs xs → is_bound_at bs a ≡ true → AreWaiting bs (with_attention xs a)
waiting_more bs xs a are at = go (has_attention xs a) refl
  where
    go : (c : Bool) → has_attention xs a ≡ c → AreWaiting bs (cond c xs (put_before (λ b. is_below a b) a xs))
    go true has = are
    go false free = record {
      rise = rise-put is_below a xs (all_apart a xs free) are.rise;
      bound = all-put (is_bound_at bs) (λ b. is_below a b) a xs at are.bound;
    }

pub room_for : (bs : List Binding) (xs : List Address) (a : Address) → AreWaiting bs xs → is_bound_at bs a ≡ true → length bs ≤ 1024 → IsTrue (may_wait xs a)
room_for bs xs a are at few = go (has_attention xs a) refl
  where
    go : (c : Bool) → has_attention xs a ≡ c → IsTrue (c || nat_lt (length xs) 1024)
    go true has = refl
    go false free =
        let ys : List Address = put_before (λ b. is_below a b) a xs in
        let many : length ys ≤ length bs = few_bound bs ys (rise-put is_below a xs (all_apart a xs free) are.rise) (all-put (is_bound_at bs) (λ b. is_below a b) a xs at are.bound) in
        let longer : length ys ≡ length xs + 1 = length-put_before (λ b. is_below a b) a xs in
        let short : length xs < 1024 = omega (arith, many, longer, few) in
        grind (arith, nat_tests)

-- a binding of a list is bound at its address
pub bound_item : (bs : List Binding) (i : ℕ) (b : Binding) → slice_get bs i ≡ Some b → is_bound_at bs b.address ≡ true
bound_item [] i b at = absurd (cc)
bound_item (x ∷ xs) zero b at =
    let same : x ≡ b = cc in
    ap (λ c. is_some (cond c (Some x) (binding_at xs b.address))) (ap (λ (y : Binding). is_address y.address b.address) same ∙ equal.refl b.address)
bound_item (x ∷ xs) (suc i) b at = go (is_address x.address b.address) (bound_item xs i b at)
  where
    go : (c : Bool) → is_bound_at xs b.address ≡ true → is_some (cond c (Some x) (binding_at xs b.address)) ≡ true
    go true s = refl
    go false s = s

-- what is left of a list, one item after another
rest_suc : {A : Type 0} (xs : List A) (i : ℕ) (x : A) → slice_get xs i ≡ Some x → drop i xs ≡ x ∷ drop (suc i) xs
rest_suc [] i x at = absurd (cc)
rest_suc (y ∷ ys) zero x at = let same : y ≡ x = cc in ap (λ z. z ∷ ys) same
rest_suc (y ∷ ys) (suc i) x at = rest_suc ys i x at

pub rest_is : {A : Type 0} (xs : List A) (i : ℕ) (x : A) → slice_get xs i ≡ Some x → drop i xs ≡ x ∷ drop (i + 1) xs
rest_is xs i x at =
    let next : suc i ≡ i + 1 = omega arith in
    rest_suc xs i x at ∙ ap (λ n. x ∷ drop n xs) next

pub rest_none : {A : Type 0} (xs : List A) (i : ℕ) → slice_get xs i ≡ None → drop i xs ≡ []
rest_none [] zero at = refl
rest_none [] (suc i) at = refl
rest_none (y ∷ ys) zero at = absurd (cc)
rest_none (y ∷ ys) (suc i) at = rest_none ys i at

-- ---- the attentions of a volume's bindings
abbrev pub addresses_of : ℕ → List Binding → List Address
addresses_of n bs = map (λ (b : Binding). b.address) (filter (λ (b : Binding). b.volume == n) bs)

-- setting those of the bindings from i on, once this one is set, or passed over
pub attended_next : (n : ℕ) (bs : List Binding) (i : ℕ) (b : Binding) (xs : List Address) (c : Bool) → (b.volume == n) ≡ c → slice_get bs i ≡ Some b
    → with_attentions xs (addresses_of n (drop i bs)) ≡ with_attentions (cond c (with_attention xs b.address) xs) (addresses_of n (drop (i + 1) bs))
attended_next n bs i b xs c is at = ap (λ (ys : List Binding). with_attentions xs (addresses_of n ys)) (rest_is bs i b at) ∙ go (b.volume == n) ∙ ap (λ d. with_attentions (cond d (with_attention xs b.address) xs) (addresses_of n (drop (i + 1) bs))) is
  where
    go : (d : Bool) → with_attentions xs (map (λ (y : Binding). y.address) (cond d (b ∷ filter (λ (y : Binding). y.volume == n) (drop (i + 1) bs)) (filter (λ (y : Binding). y.volume == n) (drop (i + 1) bs))))
        ≡ with_attentions (cond d (with_attention xs b.address) xs) (addresses_of n (drop (i + 1) bs))
    go true = refl
    go false = refl

get_within : {A : Type 0} (xs : List A) (i : ℕ) (x : A) → slice_get xs i ≡ Some x → i < length xs
get_within [] i x at = absurd (cc)
get_within (y ∷ ys) zero x at = omega arith
get_within (y ∷ ys) (suc i) x at = let within : i < length ys = get_within ys i x at in omega (arith, within)

-- What holds while the attentions are set, one binding after another: what is left to be set gives what is to be.
pub record Attending (n : ℕ) (bs : List Binding) (old xs : List Address) (i : ℕ) : Type 0 where
  pub left : with_attentions xs (addresses_of n (drop i bs)) ≡ with_attentions old (addresses_of n bs)
  pub waiting : AreWaiting bs xs
  pub within : i ≤ length bs

pub attending_begins : (n : ℕ) (bs : List Binding) (xs : List Address) → IsTrue (are_attentions bs xs) → Attending n bs xs xs 0
attending_begins n bs xs are = record {
  left = refl;
  waiting = record { rise = and_left (all_rise is_below xs) (list_all (is_bound_at bs) xs) are; bound = and_right (all_rise is_below xs) (list_all (is_bound_at bs) xs) are };
  within = omega arith;
}

pub attending_next : (n : ℕ) (bs : List Binding) (old xs next : List Address) (i : ℕ) (b : Binding) → Attending n bs old xs i → slice_get bs i ≡ Some b
    → next ≡ cond (b.volume == n) (with_attention xs b.address) xs → (Attending n bs old next (i + 1)) × (i < length bs)
attending_next n bs old xs next i b so at is =
    let within = get_within bs i b at in (
      record {
        left =
            ap (λ ys. with_attentions ys (addresses_of n (drop (i + 1) bs))) is ∙ sym (attended_next n bs i b xs (b.volume == n) refl at) ∙ so.left;
        waiting = subst (AreWaiting bs) (sym is) (one (b.volume == n));
        within = omega (arith, within);
      },
      within,
    )
  where
    one : (c : Bool) → AreWaiting bs (cond c (with_attention xs b.address) xs)
    one true = waiting_more bs xs b.address so.waiting (bound_item bs i b at)
    one false = so.waiting

pub attending_room : (n : ℕ) (bs : List Binding) (old xs : List Address) (i : ℕ) (b : Binding) → Attending n bs old xs i → slice_get bs i ≡ Some b → length bs ≤ 1024
    → IsTrue (may_wait xs b.address)
attending_room n bs old xs i b so at few = room_for bs xs b.address so.waiting (bound_item bs i b at) few

pub attending_ends : (n : ℕ) (bs : List Binding) (old xs : List Address) (i : ℕ) → Attending n bs old xs i → slice_get bs i ≡ None
    → xs ≡ with_attentions old (addresses_of n bs)
attending_ends n bs old xs i so at = ap (λ (ys : List Binding). with_attentions xs (addresses_of n ys)) (sym (rest_none bs i at)) ∙ so.left
