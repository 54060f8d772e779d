-- Lists of addresses in rising order.
use Rattle.std.proofs.Common.{filter, ◌≡◌, ◌∙◌, ℕ, ◌+◌, ◌≤◌, ◌||◌, ◌&&◌, ◌<◌, refl, Bool, true, false, List, [], ◌∷◌, length, IsTrue, ap, sym, subst, arith}
use Rattle.std.specs.Prelude.{nat_lt}
use Rattle.std.specs.List.{position_or_len, insert, list_all}
use Rattle.std.proofs.lemmas.Bool.Decides.{nat_tests}
use Rattle.vv_flat.specs.Lists.{put_before}
use Rattle.vv_flat.specs.State.{Address}
use Rattle.vv_flat.specs.Bindings.{is_address, is_below}
use Rattle.vv_flat.specs.Volatile.{has_attention}
use Rattle.vv_flat.proofs.Positions.{put_at_first, length-put_before}
use Rattle.vv_flat.proofs.KeepLists.{length-filter_le, rise-put, rise-filter}
use Rattle.vv_flat.proofs.Shares.{and_both}
use Rattle.vv_bind.proofs.RowLemmas.{address_total}
use Rattle.vv_lun.specs.Attentions.{IsKept, may_wait, addresses_rise}

-- an insertion at the place in the order
pub put_here : {A : Type 0} (test : A → Bool) (xs lent : List A) (x : A) (at : ℕ) → lent ≡ xs → at ≡ position_or_len test lent
    → insert xs at x ≡ put_before test x xs
put_here test xs lent x at same place =
    ap (λ n. insert xs n x) (place ∙ ap (λ ys. position_or_len test ys) same) ∙ sym (put_at_first test x xs)

pub below_through : (x y z : Address) → is_below x y ≡ true → is_below y z ≡ true → is_below x z ≡ true
below_through x y z p q = grind (arith, nat_tests)

-- an address that is not there is below or above each that is
apart_head : (a b : Address) (bs : List Address) (c : Bool) → is_address b a ≡ c → (c || has_attention bs a) ≡ false
    → (has_attention bs a ≡ false → list_all (λ y. is_below a y || is_below y a) bs ≡ true)
    → ((is_below a b || is_below b a) && list_all (λ y. is_below a y || is_below y a) bs) ≡ true
apart_head a b bs true is h k = absurd (cc)
apart_head a b bs false is h k =
    and_both (is_below a b || is_below b a) (list_all (λ y. is_below a y || is_below y a) bs)
    (address_total a.host a.endpoint a.secondary b.host b.endpoint b.secondary is) (k h)

pub all_apart : (a : Address) (bs : List Address) → has_attention bs a ≡ false → list_all (λ y. is_below a y || is_below y a) bs ≡ true
all_apart a [] h = refl
all_apart a (b ∷ bs) h = apart_head a b bs (is_address b a) refl h (all_apart a bs)

few_enough : (n : ℕ) (b : Bool) → b ≡ false → IsTrue (b || nat_lt n 1024) → n < 1024
few_enough n true f h = absurd (cc)
few_enough n false f h = grind (arith, nat_tests)

-- one more address, where it was not there
pub kept_more : (xs lent next : List Address) (room more : ℕ) (a : Address) (b : Bool) → IsKept xs room → lent ≡ xs
    → b ≡ has_attention lent a → b ≡ false → IsTrue (may_wait xs a) → next ≡ put_before (is_below a) a xs → room ≤ more → IsKept next more
kept_more xs lent next room more a b kept same is unset may put larger =
    let free : has_attention xs a ≡ false = ap (λ ys. has_attention ys a) (sym same) ∙ sym is ∙ unset in
    let few : length xs < 1024 = few_enough (length xs) (has_attention xs a) free may in
    let longer : length next ≡ length xs + 1 = ap (λ ys. length ys) put ∙ length-put_before (is_below a) a xs in
    let fits = kept.fits in
    record {
      few = omega arith;
      rise = subst (λ (ys : List Address). IsTrue (addresses_rise ys)) (sym put) (rise-put is_below a xs (all_apart a xs free) kept.rise);
      fits = omega arith;
    }

-- without the addresses that fail a test
pub kept_fewer : (xs next : List Address) (room more : ℕ) (stays : Address → Bool) → IsKept xs room
    → next ≡ filter stays xs → more ≡ room → IsKept next more
kept_fewer xs next room more stays kept is same =
    let fewer : length next ≤ length xs = subst (λ (ys : List Address). length ys ≤ length xs) (sym is) (length-filter_le stays xs) in
    let few = kept.few in
    let fits = kept.fits in
    record {
      few = omega arith;
      rise = subst (λ (ys : List Address). IsTrue (addresses_rise ys)) (sym is) (rise-filter is_below below_through stays xs kept.rise);
      fits = omega arith;
    }
