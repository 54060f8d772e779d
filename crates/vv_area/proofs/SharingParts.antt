-- The least place that breaks the sharing: of entries that break it alone, and of those that don't agree with others.
use Rattle.std.proofs.Common.{◌≡◌, ℕ, ◌≤◌, ◌&&◌, not, Bool, true, false, cond, List, [], ◌∷◌, Option, Some, None, refl, sym, ap, ◌∙◌, arith}
use Rattle.std.specs.Prelude.{min, fold, filter}
use Rattle.std.specs.List.{list_all}
use Rattle.vv_flat.specs.State.{Durable, all_pieces}
use Rattle.vv_flat.specs.Chunks.{Entry}
use Rattle.vv_flat.specs.Sharing.{Standing, standings, agrees, is_shared_rightly, shares, least_broken, no_place}
use Rattle.vv_flat.proofs.Shares.{pieces_of_standings}
use Rattle.vv_rules.specs.Least.{sooner, least_failing, place_of, least_apart}
use Rattle.vv_area.specs.Ruled.{is_right_alone, least_fault}

sooner_past : (n : ℕ) (o p : Option ℕ) → sooner (Some n) (sooner o p) ≡ sooner o (sooner (Some n) p)
sooner_past n None p = refl
sooner_past n (Some a) None = let e : min n a ≡ min a n = omega arith in ap (λ m. Some m) e
sooner_past n (Some a) (Some b) = let e : min n (min a b) ≡ min a (min n b) = omega arith in ap (λ m. Some m) e

sooner_joined : (n : ℕ) (o p : Option ℕ) → sooner (Some n) (sooner o p) ≡ sooner (sooner (Some n) o) p
sooner_joined n None p = refl
sooner_joined n (Some a) None = refl
sooner_joined n (Some a) (Some b) = let e : min n (min a b) ≡ min (min n a) b = omega arith in ap (λ m. Some m) e

sooner_twice : (n : ℕ) (o p : Option ℕ) → sooner (Some n) (sooner o p) ≡ sooner (sooner (Some n) o) (sooner (Some n) p)
sooner_twice n None None = let e : n ≡ min n n = omega arith in ap (λ m. Some m) e
sooner_twice n None (Some b) = let e : min n b ≡ min n (min n b) = omega arith in ap (λ m. Some m) e
sooner_twice n (Some a) None = let e : min n a ≡ min (min n a) n = omega arith in ap (λ m. Some m) e
sooner_twice n (Some a) (Some b) = let e : min n (min a b) ≡ min (min n a) (min n b) = omega arith in ap (λ m. Some m) e

both_step : (x y : Bool) (n : ℕ) (o p : Option ℕ) → sooner (cond (x && y) None (Some n)) (sooner o p) ≡ sooner (sooner (cond x None (Some n)) o) (sooner (cond y None (Some n)) p)
both_step true true n o p = refl
both_step true false n o p = sooner_past n o p
both_step false true n o p = sooner_joined n o p
both_step false false n o p = sooner_twice n o p

-- what fails one of two tests
failing_both : {A : Type 0} (p q : A → Bool) (f : A → ℕ) (xs : List A) → sooner (least_failing p f xs) (least_failing q f xs) ≡ least_failing (λ x. p x && q x) f xs
failing_both p q f [] = refl
failing_both p q f (x ∷ xs) =
    sym (both_step (p x) (q x) (f x) (least_failing p f xs) (least_failing q f xs)) ∙ ap (λ o. sooner (cond (p x && q x) None (Some (f x))) o) (failing_both p q f xs)

pub fault_joined : (d : Durable Entry) → sooner (least_failing (is_right_alone d) place_of (standings d)) (least_apart (standings d)) ≡ least_fault d
unfolding least_apart
fault_joined d =
    ap (λ ps. sooner (least_failing (is_right_alone d) place_of (standings d)) (least_failing (λ (a : Standing). list_all (agrees a.piece) ps) place_of (standings d))) (pieces_of_standings d)
    ∙ failing_both (is_right_alone d) (λ (a : Standing). list_all (agrees a.piece) (all_pieces d)) place_of (standings d)

-- ---- what the least place tells

none_step : (b : Bool) (n : ℕ) (o : Option ℕ) (rest : Bool) → (o ≡ None → rest ≡ true) → sooner (cond b None (Some n)) o ≡ None → (b && rest) ≡ true
none_step true n o rest h e = h e
none_step false n None rest h e = absurd (cc)
none_step false n (Some m) rest h e = absurd (cc)

none_fails : {A : Type 0} (p : A → Bool) (f : A → ℕ) (xs : List A) → least_failing p f xs ≡ None → list_all p xs ≡ true
none_fails p f [] e = refl
none_fails p f (x ∷ xs) e = none_step (p x) (f x) (least_failing p f xs) (list_all p xs) (none_fails p f xs) e

some_step : (b : Bool) (n m : ℕ) (o : Option ℕ) (rest : Bool) → (o ≡ Some m → rest ≡ false) → sooner (cond b None (Some n)) o ≡ Some m → (b && rest) ≡ false
some_step true n m o rest h e = h e
some_step false n m o rest h e = refl

some_fails : {A : Type 0} (p : A → Bool) (f : A → ℕ) (xs : List A) (m : ℕ) → least_failing p f xs ≡ Some m → list_all p xs ≡ false
some_fails p f [] m e = absurd (cc)
some_fails p f (x ∷ xs) m e = some_step (p x) (f x) m (least_failing p f xs) (list_all p xs) (some_fails p f xs m) e

abbrev lesser : ℕ → Option ℕ → ℕ
lesser s None = s
lesser s (Some m) = min s m

lesser_joined : (s n : ℕ) (o : Option ℕ) → lesser (min s n) o ≡ lesser s (sooner (Some n) o)
lesser_joined s n None = refl
lesser_joined s n (Some m) = omega arith

fold_step : {A : Type 0} (f : A → ℕ) (x : A) (ys : List A) (b : Bool) (o : Option ℕ) → ((s : ℕ) → fold (λ l a. min l (f a)) s ys ≡ lesser s o) → (s : ℕ)
    → fold (λ l a. min l (f a)) s (cond (not b) (x ∷ ys) ys) ≡ lesser s (sooner (cond b None (Some (f x))) o)
fold_step f x ys true o h s = h s
fold_step f x ys false o h s = h (min s (f x)) ∙ lesser_joined s (f x) o

fold_failing : {A : Type 0} (p : A → Bool) (f : A → ℕ) (xs : List A) (s : ℕ) → fold (λ l a. min l (f a)) s (filter (λ a. not (p a)) xs) ≡ lesser s (least_failing p f xs)
fold_failing p f [] s = refl
fold_failing p f (x ∷ xs) s = fold_step f x (filter (λ a. not (p a)) xs) (p x) (least_failing p f xs) (fold_failing p f xs) s

pub shared_where_none : (d : Durable Entry) → least_fault d ≡ None → shares d ≡ true
unfolding shares
shared_where_none d e = none_fails (is_shared_rightly d) place_of (standings d) e

pub not_shared_where_some : (d : Durable Entry) (m : ℕ) → least_fault d ≡ Some m → shares d ≡ false
unfolding shares
not_shared_where_some d m e = some_fails (is_shared_rightly d) place_of (standings d) m e

-- where places are numbers of 32 bits
pub found_is_least : (d : Durable Entry) (m : ℕ) → least_fault d ≡ Some m → m ≤ no_place → least_broken d ≡ m
unfolding least_broken
found_is_least d m e most =
    let low : min no_place m ≡ m = omega arith in
    fold_failing (is_shared_rightly d) place_of (standings d) no_place ∙ ap (lesser no_place) e ∙ low
