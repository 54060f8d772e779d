-- For whether a place may be taken: the lowest fresh place from it on tells.
use Rattle.std.proofs.Common.{ℕ, zero, suc, ◌≡◌, ◌≤◌, ◌<◌, ◌+◌, ◌==◌, Bool, true, false, cond, List, [], ◌∷◌, refl, sym, ap, ◌∙◌, arith}
use Rattle.std.specs.Prelude.{Option, Some, None, nat_le, nat_lt}
use Rattle.std.specs.List.{filter, find}
use Rattle.std.proofs.lemmas.Bool.{eq-eqb, eqb-true, ltb-true, le-leb}
use Rattle.std.proofs.lemmas.Bool.Decides.{nat_tests}
use Rattle.vv_flat.specs.Lists.{if_found, numbers_from}
use Rattle.vv_flat.specs.State.{Durable}
use Rattle.vv_flat.specs.Chunks.{Entry}
use Rattle.vv_flat.specs.Replay.{is_fresh}
use Rattle.vv_flat.specs.Plans.{fresh_places}
use Rattle.vv_flat.proofs.Shares.{and_left}

-- what is found among those that pass does pass
pub found_passes : (p q : ℕ → Bool) (xs : List ℕ) (x : ℕ) → find q (filter p xs) ≡ Some x → p x ≡ true
found_passes p q [] x e = absurd (cc)
found_passes p q (y ∷ ys) x e = go (p y) refl (λ f. found_passes p q ys x f) e
  where
    here : (b : Bool) → p y ≡ true → (find q (filter p ys) ≡ Some x → p x ≡ true) → cond b (Some y) (find q (filter p ys)) ≡ Some x → p x ≡ true
    here true passes rest e = let is : y ≡ x = cc in ap p (sym is) ∙ passes
    here false passes rest e = rest e

    go : (b : Bool) → p y ≡ b → (find q (filter p ys) ≡ Some x → p x ≡ true) → find q (cond b (y ∷ filter p ys) (filter p ys)) ≡ Some x → p x ≡ true
    go true is rest e = here (q y) is rest e
    go false is rest e = rest e

below : (a b : ℕ) → a ≤ b → (a == b) ≡ false → a + 1 ≤ b
below a b le other = grind (arith, nat_tests)

not_below : (a b : ℕ) → a + 1 ≤ b → nat_le b a ≡ false
not_below a b le = grind (arith, nat_tests)

-- a number that passes is found from itself on
found_itself : (p : ℕ → Bool) (first n from : ℕ) → first ≤ from → from < first + n → p from ≡ true
    → find (λ k. nat_le from k) (filter p (numbers_from first n)) ≡ Some from
found_itself p first zero from le lt passes = absurd (omega (arith, le, lt))
found_itself p first (suc n) from le lt passes =
    start (first == from) refl (λ apart. found_itself p (first + 1) n from apart (omega (arith, lt)) passes)
  where
    passed : (b : Bool) → nat_le from first ≡ false → find (λ k. nat_le from k) (filter p (numbers_from (first + 1) n)) ≡ Some from
        → find (λ k. nat_le from k) (cond b (first ∷ filter p (numbers_from (first + 1) n)) (filter p (numbers_from (first + 1) n))) ≡ Some from
    passed true above rest = ap (λ b. cond b (Some first) (find (λ k. nat_le from k) (filter p (numbers_from (first + 1) n)))) above ∙ rest
    passed false above rest = rest

    start : (b : Bool) → (first == from) ≡ b
        → (first + 1 ≤ from → find (λ k. nat_le from k) (filter p (numbers_from (first + 1) n)) ≡ Some from)
        → find (λ k. nat_le from k) (filter p (numbers_from first (suc n))) ≡ Some from
    start true is rest =
        let same : first ≡ from = eqb-true first from is in
        let kept : p first ≡ true = ap p same ∙ passes in
        let least : nat_le from first ≡ true = le-leb from first (omega (arith, same)) in
        ap (λ b. find (λ k. nat_le from k) (cond b (first ∷ filter p (numbers_from (first + 1) n)) (filter p (numbers_from (first + 1) n)))) kept
        ∙ ap (λ b. cond b (Some first) (find (λ k. nat_le from k) (filter p (numbers_from (first + 1) n)))) least ∙ ap Some same
    start false is rest =
        let other : (first == from) ≡ false = is in
        let apart : first + 1 ≤ from = below first from le other in
        passed (p first) (not_below first from apart) (rest apart)

pub fresh_told : (d : Durable Entry) (p : ℕ) (o : Option ℕ) → o ≡ find (λ k. nat_le p k) (fresh_places d)
    → if_found o (λ x. x == p) false ≡ is_fresh d p
fresh_told d p o is = go (is_fresh d p) refl
  where
    other : (x : ℕ) → find (λ k. nat_le p k) (fresh_places d) ≡ Some x → is_fresh d p ≡ false → (b : Bool) → (x == p) ≡ b → (x == p) ≡ false
    other x found not_fresh true same =
        let at : x ≡ p = eqb-true x p same in
        let fresh : is_fresh d x ≡ true = found_passes (is_fresh d) (λ k. nat_le p k) (numbers_from 0 d.geometry.pool_chunks) x found in
        let again : is_fresh d x ≡ is_fresh d p = ap (is_fresh d) at in
        absurd (cc)
    other x found not_fresh false same = same

    told : (o : Option ℕ) → find (λ k. nat_le p k) (fresh_places d) ≡ o → is_fresh d p ≡ false → if_found o (λ x. x == p) false ≡ false
    told None found not_fresh = refl
    told (Some x) found not_fresh = other x found not_fresh (x == p) refl

    go : (b : Bool) → is_fresh d p ≡ b → if_found o (λ x. x == p) false ≡ b
    go true e =
        let within : p < d.geometry.pool_chunks = ltb-true p d.geometry.pool_chunks (and_left (nat_lt p d.geometry.pool_chunks) _ e) in
        ap (λ (x : Option ℕ). if_found x (λ y. y == p) false)
        (is ∙ found_itself (is_fresh d) 0 d.geometry.pool_chunks p (omega arith) (omega (arith, within)) e) ∙ eq-eqb p p refl
    go false e = told o (sym is) e
