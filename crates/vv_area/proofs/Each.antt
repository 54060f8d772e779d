-- What holds of each item of a list, and of each item and those before it.
use Rattle.std.proofs.Common.{◌≡◌, ℕ, suc, ◌≤◌, Bool, true, false, cond, List, [], ◌∷◌, ◌++◌, map, length, Some, refl, ap, ◌∙◌, arith, length-append}
use Rattle.std.specs.Prelude.{sum_by, is_some, slice_get, ◌-◌}
use Rattle.std.specs.List.{list_all, list_any, find, flat_map}
use Rattle.std.proofs.lemmas.Bool.{and_parts, and_from, or_parts, or_from}
use Rattle.std.proofs.lemmas.List.Sums.{sum_by-cons}
use Rattle.vv_record.specs.Spelling.{each_behind}
use Rattle.vv_area.specs.Forms.{last_of}

abbrev pub Each : {A : Type 0} → (A → Type 0) → List A → Type 0
Each P [] = Unit {0}
Each P (x ∷ xs) = P x × Each P xs

pub each_of : {A : Type 0} (p : A → Bool) (xs : List A) → list_all p xs ≡ true → Each (λ x. p x ≡ true) xs
each_of p [] h = tt
each_of p (x ∷ xs) h = let both = and_parts (p x) (list_all p xs) h in (both.0, each_of p xs both.1)

pub all_from : {A : Type 0} (p : A → Bool) (xs : List A) → Each (λ x. p x ≡ true) xs → list_all p xs ≡ true
all_from p [] h = refl
all_from p (x ∷ xs) h = and_from (p x) (list_all p xs) h.0 (all_from p xs h.1)

pub each_follows : {A : Type 0} (P Q : A → Type 0) → ((x : A) → P x → Q x) → (xs : List A) → Each P xs → Each Q xs
each_follows P Q f [] h = tt
each_follows P Q f (x ∷ xs) h = (f x h.0, each_follows P Q f xs h.1)

pub each_both : {A : Type 0} (P Q : A → Type 0) (xs : List A) → Each P xs → Each Q xs → Each (λ x. P x × Q x) xs
each_both P Q [] h k = tt
each_both P Q (x ∷ xs) h k = ((h.0, k.0), each_both P Q xs h.1 k.1)

-- what holds of the images
pub each_of_map : {A B : Type 0} (f : A → B) (P : B → Type 0) (xs : List A) → Each P (map f xs) → Each (λ x. P (f x)) xs
each_of_map f P [] h = tt
each_of_map f P (x ∷ xs) h = (h.0, each_of_map f P xs h.1)

-- a test of the images
pub each_mapped : {A B : Type 0} (f : A → B) (p : B → Bool) (xs : List A) → list_all p (map f xs) ≡ true → Each (λ x. p (f x) ≡ true) xs
each_mapped f p xs h = each_of_map f (λ y. p y ≡ true) xs (each_of p (map f xs) h)

pub each_left : {A : Type 0} (p : A → Bool) (xs ys : List A) → list_all p (xs ++ ys) ≡ true → (list_all p xs ≡ true) × (list_all p ys ≡ true)
each_left p [] ys h = (refl, h)
each_left p (x ∷ xs) ys h =
    let both = and_parts (p x) (list_all p (xs ++ ys)) h in
    let rest = each_left p xs ys both.1 in
    (and_from (p x) (list_all p xs) both.0 rest.0, rest.1)

pub each_flat : {A B : Type 0} (p : B → Bool) (f : A → List B) (xs : List A) → list_all p (flat_map f xs) ≡ true → Each (λ x. list_all p (f x) ≡ true) xs
each_flat p f [] h = tt
each_flat p f (x ∷ xs) h = let both = each_left p (f x) (flat_map f xs) h in (both.0, each_flat p f xs both.1)

found_step : {A : Type 0} (P : A → Type 0) (p : A → Bool) (x : A) (xs : List A) (b : Bool) → p x ≡ b → P x → is_some (cond b (Some x) (find p xs)) ≡ true
    → (is_some (find p xs) ≡ true → (y : A) × P y × (p y ≡ true)) → (y : A) × P y × (p y ≡ true)
found_step P p x xs true is h e rest = (x, h, is)
found_step P p x xs false is h e rest = rest e

-- an item that was found
pub found_one : {A : Type 0} (P : A → Type 0) (p : A → Bool) (xs : List A) → Each P xs → is_some (find p xs) ≡ true → (x : A) × P x × (p x ≡ true)
found_one P p [] h e = absurd cc
found_one P p (x ∷ xs) h e = found_step P p x xs (p x) refl h.0 e (found_one P p xs h.1)

-- no term is more than the sum
pub each_within : {A : Type 0} (f : A → ℕ) (xs : List A) → Each (λ x. f x ≤ sum_by f xs) xs
each_within f [] = tt
each_within f (x ∷ xs) =
    let e = sum_by-cons f x xs in
    (omega arith, each_follows (λ y. f y ≤ sum_by f xs) (λ y. f y ≤ sum_by f (x ∷ xs)) (λ y h. omega arith) xs (each_within f xs))

pub sum_of_map : {A B : Type 0} (g : A → B) (f : B → ℕ) (h : A → ℕ) → ((x : A) → f (g x) ≡ h x) → (xs : List A) → sum_by f (map g xs) ≡ sum_by h xs
sum_of_map g f h same [] = refl
sum_of_map g f h same (x ∷ xs) =
    let a = sum_by-cons f (g x) (map g xs) in
    let b = sum_by-cons h x xs in
    let c = same x in
    let d = sum_of_map g f h same xs in
    omega arith

pub length_of_map : {A B : Type 0} (g : A → B) (xs : List A) → length (map g xs) ≡ length xs
length_of_map g [] = refl
length_of_map g (x ∷ xs) = ap (λ n. suc n) (length_of_map g xs)

-- ---- items that look at the one before them

get_last : {A : Type 0} (before : List A) (x : A) → slice_get (before ++ x ∷ []) (length before) ≡ Some x
get_last [] x = refl
get_last (y ∷ before) x = get_last before x

pub last_is : {A : Type 0} (before : List A) (x : A) → last_of (before ++ x ∷ []) ≡ Some x
last_is before x =
    let e : length (before ++ x ∷ []) - 1 ≡ length before = omega (arith, length-append before (x ∷ [])) in
    ap (slice_get (before ++ x ∷ [])) e ∙ get_last before x

abbrev pub Chain : {A : Type 0} → (A → A → Type 0) → A → List A → Type 0
Chain R x [] = Unit {0}
Chain R x (y ∷ ys) = R x y × Chain R y ys

pub chain_behind : {A : Type 0} (is_behind : List A → A → Bool) (R : A → A → Type 0) (P : A → Type 0) → ((before : List A) (x y : A) → R x y → P y → is_behind (before ++ x ∷ []) y ≡ true)
    → (before : List A) (x : A) (ys : List A) → Chain R x ys → Each P ys → each_behind is_behind (before ++ x ∷ []) ys ≡ true
chain_behind is_behind R P next before x [] c h = refl
chain_behind is_behind R P next before x (y ∷ ys) c h = and_from _ _ (next before x y c.0 h.0) (chain_behind is_behind R P next (before ++ x ∷ []) y ys c.1 h.1)

-- ---- items that differ from those before them

pub none_of : {A : Type 0} (q : A → Bool) (xs : List A) → list_any q xs ≡ false → Each (λ x. q x ≡ false) xs
none_of q [] h = tt
none_of q (x ∷ xs) h = let both = or_parts (q x) (list_any q xs) h in (both.0, none_of q xs both.1)

pub none_of_map : {A B : Type 0} (f : A → B) (q : B → Bool) (xs : List A) → list_any q (map f xs) ≡ false → Each (λ x. q (f x) ≡ false) xs
none_of_map f q xs h = each_of_map f (λ y. q y ≡ false) xs (none_of q (map f xs) h)

any_push : {A : Type 0} (q : A → Bool) (xs : List A) (x : A) → list_any q xs ≡ false → q x ≡ false → list_any q (xs ++ x ∷ []) ≡ false
any_push q [] x h k = or_from (q x) false k refl
any_push q (y ∷ ys) x h k = let both = or_parts (q y) (list_any q ys) h in or_from (q y) (list_any q (ys ++ x ∷ [])) both.0 (any_push q ys x both.1 k)

-- none is the same as a later one
abbrev pub Differ : {A : Type 0} → (A → A → Bool) → List A → Type 0
Differ same [] = Unit {0}
Differ same (x ∷ xs) = Each (λ y. same x y ≡ false) xs × Differ same xs

pub differ_behind : {A : Type 0} (is_behind : List A → A → Bool) (same : A → A → Bool) (P : A → Type 0) → ((before : List A) (x : A) → P x → list_any (λ b. same b x) before ≡ false → is_behind before x ≡ true)
    → (before xs : List A) → Each P xs → Each (λ x. list_any (λ b. same b x) before ≡ false) xs → Differ same xs → each_behind is_behind before xs ≡ true
differ_behind is_behind same P one before [] h k d = refl
differ_behind is_behind same P one before (x ∷ xs) h k d =
    let both = each_both (λ y. list_any (λ b. same b y) before ≡ false) (λ y. same x y ≡ false) xs k.1 d.0 in
    let next = each_follows (λ y. (list_any (λ b. same b y) before ≡ false) × (same x y ≡ false)) (λ y. list_any (λ b. same b y) (before ++ x ∷ []) ≡ false) (λ y e. any_push (λ b. same b y) before x e.0 e.1) xs both in
    and_from _ _ (one before x h.0 k.0) (differ_behind is_behind same P one (before ++ x ∷ []) xs h.1 next d.1)

pub nothing_before : {A : Type 0} (same : A → A → Bool) (xs : List A) → Each (λ x. list_any (λ b. same b x) [] ≡ false) xs
nothing_before same [] = tt
nothing_before same (x ∷ xs) = (refl, nothing_before same xs)
