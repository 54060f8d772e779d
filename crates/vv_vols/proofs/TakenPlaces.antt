-- What callers want to know of places that were taken: they are fresh from then on, and those that were fresh still are.
use Rattle.std.proofs.Common.{ℕ, ◌≡◌, Bool, true, false, cond, fold, List, [], ◌∷◌, Option, Some, IfSome, IsSome, find, ◌==◌, refl, sym, ap, ◌∙◌, subst, ⊎_elim}
use Rattle.std.specs.Prelude.{nat_lt, is_some}
use Rattle.std.specs.List.{Contains}
use Rattle.vv_flat.specs.Lists.{put_before, first_changed}
use Rattle.vv_flat.specs.State.{Volume}
use Rattle.vv_flat.specs.Chunks.{Entry}
use Rattle.vv_vols.specs.Shelf.{ShelfState, is_volume}
use Rattle.vv_vols.specs.Places.{with_taken}
use Rattle.vv_vols.specs.Rows.{ShelfView}
use Rattle.vv_vols.proofs.Members.{here, there, first_or_behind, none_in}

put_in : (p : ℕ) (test : ℕ → Bool) (ps : List ℕ) → Contains (put_before test p ps) p
put_in p test [] = here p []
put_in p test (q ∷ ps) = go (test q) (put_in p test ps)
  where
    go : (b : Bool) → Contains (put_before test p ps) p → Contains (cond b (p ∷ q ∷ ps) (q ∷ put_before test p ps)) p
    go true later = here p (q ∷ ps)
    go false later = there q (put_before test p ps) p later

put_keeps : (p r : ℕ) (test : ℕ → Bool) (ps : List ℕ) → Contains ps r → Contains (put_before test p ps) r
put_keeps p r test [] h = absurd (none_in r h)
put_keeps p r test (q ∷ ps) h = go (test q) (λ rest. put_keeps p r test ps rest)
  where
    go : (b : Bool) → (Contains ps r → Contains (put_before test p ps) r) → Contains (cond b (p ∷ q ∷ ps) (q ∷ put_before test p ps)) r
    go true later = there p (q ∷ ps) r h
    go false later = ⊎_elim
        (λ first. subst (λ k. Contains (k ∷ put_before test p ps) r) (sym first) (here r (put_before test p ps)))
        (λ rest. there q (put_before test p ps) r (later rest))
        (first_or_behind q ps r h)

all_keep : (now ps : List ℕ) (r : ℕ) → Contains now r → Contains (fold (λ now p. put_before (λ q. nat_lt p q) p now) now ps) r
all_keep now [] r h = h
all_keep now (p ∷ ps) r h = all_keep (put_before (λ q. nat_lt p q) p now) ps r (put_keeps p r (λ q. nat_lt p q) now h)

all_in : (now ps : List ℕ) (r : ℕ) → Contains ps r → Contains (fold (λ now p. put_before (λ q. nat_lt p q) p now) now ps) r
all_in now [] r h = absurd (none_in r h)
all_in now (p ∷ ps) r h = ⊎_elim
    (λ first. all_keep (put_before (λ q. nat_lt p q) p now) ps r (subst (λ k. Contains (put_before (λ q. nat_lt p q) p now) k) first (put_in p (λ q. nat_lt p q) now)))
    (λ rest. all_in (put_before (λ q. nat_lt p q) p now) ps r rest)
    (first_or_behind p ps r h)

-- a place that was taken is fresh,
pub taken_in : (s : ShelfState) (places : List ℕ) (p : ℕ) → Contains places p → Contains (with_taken s places).fresh p
taken_in s places p h = all_in s.fresh places p h

-- and so is one that was before
pub fresh_stays : (s : ShelfState) (places : List ℕ) (p : ℕ) → Contains s.fresh p → Contains (with_taken s places).fresh p
fresh_stays s places p h = all_keep s.fresh places p h

-- one place that was taken
pub one_is : (old new : ShelfView) (taken : Option ℕ) (p : ℕ) → taken ≡ Some p → IfSome taken (λ q. new ≡ record old { shelf = with_taken old.shelf (q ∷ []) }) → new ≡ record old { shelf = with_taken old.shelf (p ∷ []) }
one_is old new taken p is said = subst (λ o. IfSome o (λ q. new ≡ record old { shelf = with_taken old.shelf (q ∷ []) })) is said

pub one_in : (old new : ShelfView) (taken : Option ℕ) (p : ℕ) → taken ≡ Some p → IfSome taken (λ q. new ≡ record old { shelf = with_taken old.shelf (q ∷ []) }) → Contains new.shelf.fresh p
one_in old new taken p is said = subst (λ (v : ShelfView). Contains v.shelf.fresh p) (sym (one_is old new taken p is said)) (taken_in old.shelf (p ∷ []) p (here p []))

-- a volume that changed still stands
pub changed_stands : (n : ℕ) (f : Volume Entry → Volume Entry) (vs : List (Volume Entry)) → ((v : Volume Entry) → (f v).number ≡ v.number) → IsSome (find (is_volume n) vs) → IsSome (find (is_volume n) (first_changed (is_volume n) f vs))
changed_stands n f [] same h = h
changed_stands n f (v ∷ vs) same h = go (is_volume n v) refl (λ rest. changed_stands n f vs same rest) h
  where
    first : is_volume n v ≡ true → IsSome (cond (is_volume n (f v)) (Some (f v)) (find (is_volume n) vs))
    first is = ap (λ b. is_some (cond b (Some (f v)) (find (is_volume n) vs))) (ap (λ k. k == n) (same v) ∙ is)

    later : is_volume n v ≡ false → IsSome (find (is_volume n) (first_changed (is_volume n) f vs)) → IsSome (cond (is_volume n v) (Some v) (find (is_volume n) (first_changed (is_volume n) f vs)))
    later is rest = ap (λ b. is_some (cond b (Some v) (find (is_volume n) (first_changed (is_volume n) f vs)))) is ∙ rest

    go : (b : Bool) → is_volume n v ≡ b → (IsSome (find (is_volume n) vs) → IsSome (find (is_volume n) (first_changed (is_volume n) f vs))) → IsSome (cond b (Some v) (find (is_volume n) vs))
        → IsSome (find (is_volume n) (cond b (f v ∷ vs) (v ∷ first_changed (is_volume n) f vs)))
    go true is rest here = first is
    go false is rest here = later is (rest here)
