-- What follows where a chain of tests and choices gives something.
use Rattle.std.proofs.Common.{◌≡◌, Bool, true, false, cond, ℕ, zero, suc, ◌<◌, List, [], ◌∷◌, ◌++◌, length, Option, Some, None, refl, ap, ◌∙◌, sym, arith, length-append}
use Rattle.std.specs.Prelude.{option_and_then}
use Rattle.std.specs.Option.{option_map}
use Rattle.vv_journal.specs.Half.{all_given}

pub guard_parts : {A : Type 0} (b : Bool) (o : Option A) (y : A) → cond b o None ≡ Some y → (b ≡ true) × (o ≡ Some y)
guard_parts true o y e = (refl, e)
guard_parts false o y e = absurd cc

pub guard_from : {A : Type 0} (b : Bool) (o : Option A) (y : A) → b ≡ true → o ≡ Some y → cond b o None ≡ Some y
guard_from true o y t e = e
guard_from false o y t e = absurd cc

pub and_then_parts : {A B : Type 0} (f : A → Option B) (o : Option A) (y : B) → option_and_then f o ≡ Some y → (x : A) × (o ≡ Some x) × (f x ≡ Some y)
and_then_parts f (Some x) y e = (x, refl, e)
and_then_parts f None y e = absurd cc

pub and_then_from : {A B : Type 0} (f : A → Option B) (o : Option A) (x : A) (y : B) → o ≡ Some x → f x ≡ Some y → option_and_then f o ≡ Some y
and_then_from f o x y is e = ap (option_and_then f) is ∙ e

pub map_parts : {A B : Type 0} (f : A → B) (o : Option A) (y : B) → option_map f o ≡ Some y → (x : A) × (o ≡ Some x) × (f x ≡ y)
map_parts f (Some x) y e = (x, refl, cc)
map_parts f None y e = absurd cc

pub map_from : {A B : Type 0} (f : A → B) (o : Option A) (x : A) → o ≡ Some x → option_map f o ≡ Some (f x)
map_from f o x is = ap (option_map f) is

-- what is given for one number more
pub given_parts : {X : Type 0} (given : ℕ → Option X) (n : ℕ) (items : List X) → all_given given (suc n) ≡ Some items → (front : List X) × (item : X) × (all_given given n ≡ Some front) × (given n ≡ Some item) × (front ++ item ∷ [] ≡ items)
given_parts {X} given n items e =
    let front = and_then_parts (λ (front : List X). option_map (λ item. front ++ item ∷ []) (given n)) (all_given given n) items e in
    let last = map_parts (λ (item : X). front.0 ++ item ∷ []) (given n) items front.2 in
    (front.0, last.0, front.1, last.1, last.2)

pub given_from : {X : Type 0} (given : ℕ → Option X) (n : ℕ) (front : List X) (item : X) → all_given given n ≡ Some front → given n ≡ Some item → all_given given (suc n) ≡ Some (front ++ item ∷ [])
given_from {X} given n front item e is =
    and_then_from (λ (front : List X). option_map (λ item. front ++ item ∷ []) (given n)) (all_given given n) front (front ++ item ∷ []) e (map_from (λ (item : X). front ++ item ∷ []) (given n) item is)

pub length-given : {X : Type 0} (given : ℕ → Option X) (n : ℕ) (items : List X) → all_given given n ≡ Some items → length items ≡ n
length-given given zero [] e = refl
length-given given zero (x ∷ items) e = absurd cc
length-given {X} given (suc n) items e =
    let parts = given_parts given n items e in
    sym (ap (λ (l : List X). length l) parts.4) ∙ length-append parts.0 (parts.1 ∷ []) ∙ omega (arith, length-given given n parts.0 parts.2)

-- each is given again
pub given_kept : {X : Type 0} (old new : ℕ → Option X) (n : ℕ) (items : List X) → ((i : ℕ) (item : X) → i < n → old i ≡ Some item → new i ≡ Some item) → all_given old n ≡ Some items → all_given new n ≡ Some items
given_kept old new zero items same e = e
given_kept old new (suc n) items same e =
    let parts = given_parts old n items e in
    given_from new n parts.0 parts.1 (given_kept old new n parts.0 (λ i item lt. same i item (omega arith)) parts.2) (same n parts.1 (omega arith) parts.3) ∙ ap (λ l. Some l) parts.4
