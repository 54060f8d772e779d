-- For callers that put tables together again whose whole durable part is well-formed: no volume has the number of a running clone.
use Rattle.std.proofs.Common.{ℕ, ◌≡◌, ◌==◌, ◌||◌, Bool, true, false, cond, List, [], ◌∷◌, ◌++◌, map, Option, Some, None, option_map, refl, sym, ap, ◌∙◌}
use Rattle.std.specs.List.{find, list_any}
use Rattle.std.proofs.lemmas.Bool.{eq-eqb}
use Rattle.vv_flat.specs.Lists.{all_different}
use Rattle.vv_flat.specs.State.{Container, Volume, RunningClone, Durable, volume_of, map_clone}
use Rattle.vv_flat.specs.Chunks.{Entry, shape_of_tables}
use Rattle.vv_flat.specs.Rules.{numbers_rule}
use Rattle.vv_flat.specs.WellFormed.{is_well_formed}
use Rattle.vv_flat.proofs.Shares.{and_left, and_right}
use Rattle.vv_flat.proofs.Kept.{kept}
use Rattle.vv_flat.proofs.Lookups.{comes_twice}
use Rattle.vv_laws.proofs.WellFormed.{shape_rules}
use Rattle.vv_tables.proofs.ShapeVolumes.{shaped, shape_found}

abbrev is_it : ℕ → ℕ → Bool
is_it n m = m == n

ahead_none : (n : ℕ) (xs ys : List ℕ) → list_any (is_it n) (xs ++ ys) ≡ false → list_any (is_it n) xs ≡ false
ahead_none n [] ys e = refl
ahead_none n (x ∷ xs) ys e = go (x == n) e (λ rest. ahead_none n xs ys rest)
  where
    go : (b : Bool) → (b || list_any (is_it n) (xs ++ ys)) ≡ false → (list_any (is_it n) (xs ++ ys) ≡ false → list_any (is_it n) xs ≡ false) → (b || list_any (is_it n) xs) ≡ false
    go true e later = e
    go false e later = later e

none_of : (n : ℕ) (vs : List (Volume ℕ)) → list_any (is_it n) (map (λ (v : Volume ℕ). v.number) vs) ≡ false → find (λ (v : Volume ℕ). v.number == n) vs ≡ None
none_of n [] e = refl
none_of n (v ∷ vs) e = go (v.number == n) e (λ rest. none_of n vs rest)
  where
    go : (b : Bool) → (b || list_any (is_it n) (map (λ (w : Volume ℕ). w.number) vs)) ≡ false
        → (list_any (is_it n) (map (λ (w : Volume ℕ). w.number) vs) ≡ false → find (λ (w : Volume ℕ). w.number == n) vs ≡ None)
        → cond b (Some v) (find (λ (w : Volume ℕ). w.number == n) vs) ≡ None
    go true e later = absurd (cc)
    go false e later = later e

abbrev clone_numbers : List (RunningClone Entry) → List ℕ
clone_numbers clones = map (λ (c : RunningClone ℕ). c.number) (map (map_clone (λ (e : Entry). e.stamp)) clones)

clone_comes : (front : List (RunningClone Entry)) (c : RunningClone Entry) (back : List (RunningClone Entry)) → list_any (is_it c.number) (clone_numbers (front ++ c ∷ back)) ≡ true
clone_comes [] c back = ap (λ b. b || list_any (is_it c.number) (clone_numbers back)) (eq-eqb c.number c.number refl)
clone_comes (x ∷ front) c back = ap (λ b. (x.number == c.number) || b) (clone_comes front c back) ∙ go (x.number == c.number)
  where
    go : (b : Bool) → (b || true) ≡ true
    go true = refl
    go false = refl

differ : (d : Durable ℕ) → numbers_rule d ≡ true
    → all_different (map (λ (v : Volume ℕ). v.number) d.volumes ++ map (λ (k : Container). k.number) d.containers ++ map (λ (c : RunningClone ℕ). c.number) d.clones) ≡ true
unfolding numbers_rule
differ d e = and_right _ _ (and_left _ _ e)

pub clone_unused : (d : Durable Entry) → is_well_formed d ≡ true → (front : List (RunningClone Entry)) (c : RunningClone Entry) (back : List (RunningClone Entry))
    → d.clones ≡ front ++ c ∷ back → volume_of d c.number ≡ None
clone_unused d well front c back is =
    let s : Durable ℕ = shape_of_tables d in
    let ahead : List ℕ = map (λ (v : Volume ℕ). v.number) s.volumes ++ map (λ (k : Container). k.number) s.containers in
    let apart : all_different (ahead ++ clone_numbers d.clones) ≡ true = differ s (kept s (shape_rules d well)).numbers in
    let comes : list_any (is_it c.number) (clone_numbers d.clones) ≡ true = ap (λ cs. list_any (is_it c.number) (clone_numbers cs)) is ∙ clone_comes front c back in
    let none : list_any (is_it c.number) ahead ≡ false = go ahead (clone_numbers d.clones) apart comes in
    gone (volume_of d c.number)
    (sym (shape_found d c.number)
    ∙ none_of c.number s.volumes (ahead_none c.number (map (λ (v : Volume ℕ). v.number) s.volumes) (map (λ (k : Container). k.number) s.containers) none))
  where
    gone : (o : Option (Volume Entry)) → option_map shaped o ≡ None → o ≡ None
    gone None e = refl
    gone (Some v) e = absurd (cc)

    go : (xs ys : List ℕ) → all_different (xs ++ ys) ≡ true → list_any (is_it c.number) ys ≡ true → list_any (is_it c.number) xs ≡ false
    go xs ys apart comes = either (list_any (is_it c.number) xs) refl
      where
        either : (b : Bool) → list_any (is_it c.number) xs ≡ b → list_any (is_it c.number) xs ≡ false
        either false e = e
        either true e = let wrong : all_different (xs ++ ys) ≡ false = comes_twice c.number xs ys e comes in absurd (cc)
