-- Words on lists. A finite map is a list of records in rising order of their keys, and its items are found by tests.
use Rattle.std.specs.Prelude.{ℕ, ◌+◌, ◌==◌, Bool, true, false, not, ◌&&◌, ◌||◌, zero, suc, List, [], ◌∷◌, Option, Some, None, slice_set, nat_lt, if◌then◌else◌}
use Rattle.std.specs.List.{list_any}
use Rattle.std.specs.Str.{bytes_eq}

-- what f gives of the value, if there is one, and else the other
abbrev pub if_found : {A B : Type 0} → Option A → (A → B) → B → B
if_found None f other = other
if_found (Some x) f other = f x

-- f of the first item that passes the test in its place
abbrev pub first_changed : {A : Type 0} → (A → Bool) → (A → A) → List A → List A
first_changed test f [] = []
first_changed test f (x ∷ xs) = if test x then (f x ∷ xs) else (x ∷ first_changed test f xs)

-- x ahead of the first item that passes the test, or at the end
abbrev pub put_before : {A : Type 0} → (A → Bool) → A → List A → List A
put_before test x [] = x ∷ []
put_before test x (y ∷ ys) = if test y then (x ∷ y ∷ ys) else (y ∷ put_before test x ys)

-- without the first item that passes the test
abbrev pub first_removed : {A : Type 0} → (A → Bool) → List A → List A
first_removed test [] = []
first_removed test (x ∷ xs) = if test x then xs else (x ∷ first_removed test xs)

-- so many numbers in a row
abbrev pub numbers_from : ℕ → ℕ → List ℕ
numbers_from first zero = []
numbers_from first (suc count) = first ∷ numbers_from (first + 1) count

-- the first value at the first index, the second at the second, and so on
abbrev pub put_at : {A : Type 0} → List ℕ → List A → List A → List A
put_at [] values xs = xs
put_at (i ∷ is) [] xs = xs
put_at (i ∷ is) (v ∷ vs) xs = put_at is vs (slice_set xs i v)

-- f of each item and its index, the first index being i
abbrev pub mapped_from : {A B : Type 0} → (ℕ → A → B) → ℕ → List A → List B
mapped_from f i [] = []
mapped_from f i (x ∷ xs) = f i x ∷ mapped_from f (i + 1) xs

-- whether an item and its index pass the test
abbrev pub any_from : {A : Type 0} → (ℕ → A → Bool) → ℕ → List A → Bool
any_from test i [] = false
any_from test i (x ∷ xs) = test i x || any_from test (i + 1) xs

-- the indexes whose items pass the test
abbrev pub indexes_from : {A : Type 0} → (ℕ → A → Bool) → ℕ → List A → List ℕ
indexes_from test i [] = []
indexes_from test i (x ∷ xs) =
    if test i x then (i ∷ indexes_from test (i + 1) xs) else indexes_from test (i + 1) xs

-- whether two lists of numbers are equal
abbrev pub numbers_eq : List ℕ → List ℕ → Bool
numbers_eq xs ys = bytes_eq xs ys

-- whether no number comes twice
abbrev pub all_different : List ℕ → Bool
all_different [] = true
all_different (n ∷ ns) = not (list_any (λ m. m == n) ns) && all_different ns

-- whether each number is above the one before
abbrev pub all_above : ℕ → List ℕ → Bool
all_above n [] = true
all_above n (m ∷ ms) = nat_lt n m && all_above m ms

abbrev pub all_rising : List ℕ → Bool
all_rising [] = true
all_rising (n ∷ ns) = all_above n ns

-- whether each item is below the next one, from x on
abbrev pub all_rise_from : {A : Type 0} → (A → A → Bool) → A → List A → Bool
all_rise_from below x [] = true
all_rise_from below x (y ∷ ys) = below x y && all_rise_from below y ys

abbrev pub all_rise : {A : Type 0} → (A → A → Bool) → List A → Bool
all_rise below [] = true
all_rise below (x ∷ xs) = all_rise_from below x xs
