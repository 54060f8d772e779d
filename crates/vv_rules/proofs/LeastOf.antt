-- The least number of the items that fail a test.
use Rattle.std.proofs.Common.{◌≡◌, ℕ, ◌≤◌, inl, inr, Bool, true, false, cond, List, [], ◌∷◌, Option, Some, None, refl, sym, ap, subst, ◌∙◌, arith, ⊎_elim}
use Rattle.std.specs.List.{list_all}
use Rattle.std.proofs.lemmas.Bool.{and_cases, and_left, and_right}
use Rattle.vv_rules.specs.Least.{least_failing}
use Rattle.vv_rules.proofs.Had.{Has}
use Rattle.vv_rules.proofs.SortedRows.{AtMost, at_most_left, at_most_right, either_of}

pub fails_at : {A : Type 0} (p : A → Bool) (xs : List A) → list_all p xs ≡ false → (x : A) × Has x xs × (p x ≡ false)
fails_at p [] h = absurd cc
fails_at p (x ∷ xs) h =
    ⊎_elim (λ e. (x, inl refl, e)) (λ e. let r = fails_at p xs e in (r.0, inr r.1, r.2)) (and_cases (p x) (list_all p xs) h)

pub fails_all : {A : Type 0} (p : A → Bool) (xs : List A) (x : A) → Has x xs → p x ≡ false → list_all p xs ≡ false
fails_all p [] x h e = absurd h
fails_all p (y ∷ ys) x (inl s) e = and_left (p y) (list_all p ys) (ap p s ∙ e)
fails_all p (y ∷ ys) x (inr h) e = and_right (p y) (list_all p ys) (fails_all p ys x h e)

pub failing_at : {A : Type 0} (p : A → Bool) (f : A → ℕ) (xs : List A) (x : A) → Has x xs → p x ≡ false → AtMost (least_failing p f xs) (f x)
failing_at p f [] x h e = absurd h
failing_at p f (y ∷ ys) x (inl s) e =
    let front : cond (p y) None (Some (f y)) ≡ Some (f x) = ap (λ z. cond (p z) None (Some (f z))) s ∙ ap (λ b. cond b None (Some (f x))) e in
    at_most_left (cond (p y) None (Some (f y))) (least_failing p f ys) (f x) (subst (λ o. AtMost o (f x)) (sym front) (omega arith))
failing_at p f (y ∷ ys) x (inr h) e = at_most_right (cond (p y) None (Some (f y))) (least_failing p f ys) (f x) (failing_at p f ys x h e)

front_failing : {A : Type 0} (p : A → Bool) (f : A → ℕ) (x : A) (b : Bool) (m : ℕ) → p x ≡ b → cond b None (Some (f x)) ≡ Some m → (p x ≡ false) × (f x ≡ m)
front_failing p f x true m w e = absurd cc
front_failing p f x false m w e = (w, cc)

pub failing_is : {A : Type 0} (p : A → Bool) (f : A → ℕ) (xs : List A) (m : ℕ) → least_failing p f xs ≡ Some m → (x : A) × Has x xs × (p x ≡ false) × (f x ≡ m)
failing_is p f [] m e = absurd cc
failing_is p f (x ∷ xs) m e =
    ⊎_elim (λ k. let r = front_failing p f x (p x) m refl k in (x, inl refl, r.0, r.1)) (λ k. let r = failing_is p f xs m k in (r.0, inr r.1, r.2, r.3)) (either_of (cond (p x) None (Some (f x))) (least_failing p f xs) m e)

-- two numbers that are each at most the other
pub same_least : (o p : Option ℕ) → ((m : ℕ) → o ≡ Some m → AtMost p m) → ((m : ℕ) → p ≡ Some m → AtMost o m) → o ≡ p
same_least None None h k = refl
same_least None (Some b) h k = absurd (k b refl)
same_least (Some a) None h k = absurd (h a refl)
same_least (Some a) (Some b) h k = let x : b ≤ a = h a refl in let y : a ≤ b = k b refl in let e : a ≡ b = omega arith in ap (λ n. Some n) e
