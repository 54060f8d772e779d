-- A list that is gone through by its neighbours.
use Rattle.std.proofs.Common.{◌≡◌, ℕ, suc, ◌+◌, ◌-◌, ◌<◌, ◌≤◌, ◌&&◌, Bool, true, ltb, List, [], ◌∷◌, Option, Some, None, refl, sym, ap, ◌∙◌, arith, length, get_or, drop, drop-cons, length-drop}
use Rattle.std.specs.Prelude.{min}
use Rattle.std.proofs.lemmas.Bool.{lt-ltb}
use Rattle.vv_flat.specs.Lists.{all_rising}
use Rattle.vv_rules.specs.Least.{sooner}
use Rattle.vv_rules.specs.declared.rows.Row.{Row}
use Rattle.vv_rules.specs.Rows.{place_if, least_wrong}

-- the item before one, and what comes behind it
pub front_at : {A : Type 0} (xs : List A) (i : ℕ) (d : A) → 1 ≤ i → i ≤ length xs → drop (i - 1) xs ≡ get_or xs (i - 1) d ∷ drop i xs
front_at xs i d low high =
    let lt : i - 1 < length xs = omega arith in
    let e : suc (i - 1) ≡ i = omega arith in
    drop-cons xs (i - 1) d lt ∙ ap (λ k. get_or xs (i - 1) d ∷ drop k xs) e

pub next_at : {A : Type 0} (xs : List A) (i : ℕ) (d : A) → i < length xs → drop i xs ≡ get_or xs i d ∷ drop (suc i) xs
next_at xs i d lt = drop-cons xs i d lt

-- what is left behind the last item but one
pub short_at : {A : Type 0} (xs : List A) (i : ℕ) → length xs ≤ i → length (drop (i - 1) xs) ≤ 1
short_at xs i h = omega (arith, length-drop (i - 1) xs)

pub rising_step : (xs : List ℕ) (i : ℕ) → 1 ≤ i → i < length xs → all_rising (drop (i - 1) xs) ≡ (ltb (get_or xs (i - 1) 0) (get_or xs i 0) && all_rising (drop i xs))
rising_step xs i low high =
    let le : i ≤ length xs = omega arith in
    ap all_rising (front_at xs i 0 low le ∙ ap (λ ys. get_or xs (i - 1) 0 ∷ ys) (next_at xs i 0 high))
    ∙ ap (λ ys. ltb (get_or xs (i - 1) 0) (get_or xs i 0) && all_rising ys) (sym (next_at xs i 0 high))

pub short_rises : (xs : List ℕ) → length xs ≤ 1 → all_rising xs ≡ true
short_rises [] h = refl
short_rises (x ∷ []) h = refl
short_rises (x ∷ y ∷ ys) h = absurd (omega arith)

pub rising_goes_on : (xs : List ℕ) (i : ℕ) → 1 ≤ i → i < length xs → all_rising (drop (i - 1) xs) ≡ all_rising xs → get_or xs (i - 1) 0 < get_or xs i 0 → all_rising (drop (i + 1 - 1) xs) ≡ all_rising xs
rising_goes_on xs i low high before up =
    let e : i + 1 - 1 ≡ i = omega arith in
    ap (λ k. all_rising (drop k xs)) e
    ∙ sym (rising_step xs i low high ∙ ap (λ b. b && all_rising (drop i xs)) (lt-ltb (get_or xs (i - 1) 0) (get_or xs i 0) up))
    ∙ before

pub rising_ends : (xs : List ℕ) (i : ℕ) → length xs ≤ i → all_rising (drop (i - 1) xs) ≡ all_rising xs → true ≡ all_rising xs
rising_ends xs i past before = sym (short_rises (drop (i - 1) xs) (short_at xs i past)) ∙ before

-- ---- rows

pub sooner_joined : (o p q : Option ℕ) → sooner (sooner o p) q ≡ sooner o (sooner p q)
sooner_joined None p q = refl
sooner_joined (Some a) None q = refl
sooner_joined (Some a) (Some b) None = refl
sooner_joined (Some a) (Some b) (Some c) = let e : min (min a b) c ≡ min a (min b c) = omega arith in ap (λ n. Some n) e

pub sooner_none : (o : Option ℕ) → sooner o None ≡ o
sooner_none None = refl
sooner_none (Some a) = refl

pub wrong_step : (wrong : Row → Row → Bool) (xs : List Row) (i : ℕ) (d : Row) → 1 ≤ i → i < length xs
    → least_wrong wrong (drop (i - 1) xs) ≡ sooner (place_if (wrong (get_or xs (i - 1) d) (get_or xs i d)) (get_or xs (i - 1) d)) (least_wrong wrong (drop i xs))
wrong_step wrong xs i d low high =
    let le : i ≤ length xs = omega arith in
    ap (least_wrong wrong) (front_at xs i d low le ∙ ap (λ ys. get_or xs (i - 1) d ∷ ys) (next_at xs i d high))
    ∙ ap (λ ys. sooner (place_if (wrong (get_or xs (i - 1) d) (get_or xs i d)) (get_or xs (i - 1) d)) (least_wrong wrong ys)) (sym (next_at xs i d high))

pub short_wrong : (wrong : Row → Row → Bool) (xs : List Row) → length xs ≤ 1 → least_wrong wrong xs ≡ None
short_wrong wrong [] h = refl
short_wrong wrong (x ∷ []) h = refl
short_wrong wrong (x ∷ y ∷ ys) h = absurd (omega arith)

-- one step further
pub wrong_goes_on : (wrong : Row → Row → Bool) (xs : List Row) (i : ℕ) (d : Row) (least next all : Option ℕ) → 1 ≤ i → i < length xs
    → sooner least (least_wrong wrong (drop (i - 1) xs)) ≡ all
    → next ≡ sooner least (place_if (wrong (get_or xs (i - 1) d) (get_or xs i d)) (get_or xs (i - 1) d))
    → sooner next (least_wrong wrong (drop (i + 1 - 1) xs)) ≡ all
wrong_goes_on wrong xs i d least next all low high before is =
    let e : i + 1 - 1 ≡ i = omega arith in
    ap (λ k. sooner next (least_wrong wrong (drop k xs))) e
    ∙ ap (λ o. sooner o (least_wrong wrong (drop i xs))) is
    ∙ sooner_joined least (place_if (wrong (get_or xs (i - 1) d) (get_or xs i d)) (get_or xs (i - 1) d)) (least_wrong wrong (drop i xs))
    ∙ ap (sooner least) (sym (wrong_step wrong xs i d low high))
    ∙ before

pub wrong_ends : (wrong : Row → Row → Bool) (xs : List Row) (i : ℕ) (least all : Option ℕ) → length xs ≤ i
    → sooner least (least_wrong wrong (drop (i - 1) xs)) ≡ all → least ≡ all
wrong_ends wrong xs i least all past before =
    sym (sooner_none least) ∙ ap (sooner least) (sym (short_wrong wrong (drop (i - 1) xs) (short_at xs i past))) ∙ before
